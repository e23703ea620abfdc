-- The names of a table that are put one after another, with where they lead.
use Rattle.std.proofs.Common.{◌≡◌, Bool, true, false, [], ◌∷◌, ◌++◌, Option, Some, None, refl, sym, ap, ◌∙◌, if◌then◌else◌}
use Rattle.std.specs.Prelude.{option_map}
use Rattle.std.specs.Option.{option_or}
use Rattle.tla_model.specs.Entities.{Meaning}
use Rattle.tla_model.specs.Tables.{Named, same_named}
use Rattle.module_model.specs.Exports.{Exports, entry_of}
use Rattle.module_leads.specs.declared.faces.ListedNames.{ListedNames}
use Rattle.module_leads.specs.declared.ways.Way.TheVariants as way
use Rattle.module_leads.specs.Faces.{HasWays, way_among}

-- behind the ways that are listed now, those of the rest are what those of all were behind the ones that were listed before
abbrev pub Lacks : ListedNames → ListedNames → (Meaning → way.the_data) → Exports → Exports → Type 0
Lacks old now ways rest all =
    (name : Named) → option_or (way_among now name) (option_map ways (entry_of rest name)) ≡ option_or (way_among old name) (option_map ways (entry_of all name))

first-put : (ways : Meaning → way.the_data) (a : Option way.the_data) (c : Bool) (m : Meaning) (b : Option Meaning)
    → option_or (option_or a (if c then Some (ways m) else None)) (option_map ways b) ≡ option_or a (option_map ways (if c then Some m else b))
first-put ways (Some x) c m b = refl
first-put ways None true m b = refl
first-put ways None false m b = refl

-- the first of those that are left is put
pub puts-first : (old mid new : ListedNames) (ways : Meaning → way.the_data) (before rest all : Exports) (name : Named) (meaning : Meaning) (goes : way.the_data)
    → before ≡ (name, meaning) ∷ rest → goes ≡ ways meaning → ((other : Named) → way_among new other ≡ option_or (way_among mid other) (if same_named other name then Some goes else None))
    → Lacks old mid ways before all → Lacks old new ways rest all
puts-first old mid new ways before rest all name meaning goes first leads put known other =
    ap (λ z. option_or z (option_map ways (entry_of rest other))) (put other ∙ (λ i. option_or (way_among mid other) (if same_named other name then Some (leads i) else None)))
    ∙ first-put ways (way_among mid other) (same_named other name) meaning (entry_of rest other)
    ∙ (λ i. option_or (way_among mid other) (option_map ways (entry_of ((sym first) i) other))) ∙ known other

or-none : {A : Type 0} (a : Option A) → option_or a None ≡ a
or-none None = refl
or-none (Some x) = refl

-- none is left
pub puts-all : (old new : ListedNames) (ways : Meaning → way.the_data) (rest all : Exports) → rest ≡ [] → Lacks old new ways rest all → HasWays old new ways all
puts-all old new ways rest all none known = λ name. sym (or-none (way_among new name)) ∙ (λ i. option_or (way_among new name) (option_map ways (entry_of ((sym none) i) name))) ∙ known name

either : (c : Bool) (m : Meaning) (a b d : Option Meaning) → option_or a b ≡ d → option_or (if c then Some m else a) b ≡ (if c then Some m else d)
either true m a b d is = refl
either false m a b d is = is

lookup-both : (first second : Exports) (name : Named) → option_or (entry_of first name) (entry_of second name) ≡ entry_of (first ++ second) name
lookup-both [] second name = refl
lookup-both (entry ∷ first) second name = either (same_named name entry.0) entry.1 (entry_of first name) (entry_of second name) (entry_of (first ++ second) name) (lookup-both first second name)

both : (ways : Meaning → way.the_data) (a : Option way.the_data) (b c : Option Meaning) → option_or (option_or a (option_map ways b)) (option_map ways c) ≡ option_or a (option_map ways (option_or b c))
both ways (Some x) b c = refl
both ways None (Some m) c = refl
both ways None None c = refl

-- some are put, and then others
pub ways-both : (old mid new : ListedNames) (ways : Meaning → way.the_data) (first second : Exports) → HasWays old mid ways first → HasWays mid new ways second → HasWays old new ways (first ++ second)
ways-both old mid new ways first second one two =
    λ name. two name ∙ ap (λ z. option_or z (option_map ways (entry_of second name))) (one name) ∙ both ways (way_among old name) (entry_of first name) (entry_of second name)
    ∙ ap (λ z. option_or (way_among old name) (option_map ways z)) (lookup-both first second name)
