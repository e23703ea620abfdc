-- Symbols of modules that one extends have places in it.
use Rattle.std.proofs.Common.{◌≡◌, ℕ, Bool, true, false, cond, List, [], ◌∷◌, inl, inr, Option, Some, None, refl, sym, ap, subst, ◌∙◌, map}
use Rattle.std.specs.Prelude.{◌||◌, ◌&&◌, not}
use Rattle.std.specs.List.{AllByRecursion}
use Rattle.std.proofs.lemmas.Bool.{and_from, and_parts}
use Rattle.list_laws.proofs.Lists.{all-weaker}
use Rattle.tla_symbols.specs.declared.lexeme.Lexeme.{Lexeme}
use Rattle.unit_grammar.specs.Derivation.{DerivesModule}
use Rattle.unit_grammar.specs.Units.{ModuleUnits}
use Rattle.tla_model.specs.declared.entity.Entity.TheVariants as entity
use Rattle.tla_model.specs.declared.ids.UnitId.{UnitId}
use Rattle.tla_model.specs.declared.names.Finding.TheVariants.{Clashes}
use Rattle.tla_model.specs.declared.names.Meaning.TheVariants.{BuiltIn, Declared}
use Rattle.tla_model.specs.Tables.{Named, find}
use Rattle.tla_model.specs.Entities.{Entity, Meaning, Text, same_decl, same_meaning, same_units}
use Rattle.tla_model.specs.Contexts.{Context, meaning_of, usable}
use Rattle.tla_model.specs.Lexemes.{spelled}
use Rattle.tla_model.specs.Scopes.{Finding}
use Rattle.tla_model.specs.Same.{decl-equal, decl-itself, meaning-itself, units-equal, units-itself}
use Rattle.module_scope.specs.Environments.{Environment, first as first_scope, meaning}
use Rattle.module_model.specs.Bindings.{faults}
use Rattle.module_model.specs.Exports.{Exports, ModuleView, entry_of, exported, exports_by, is_meant, parameters_in, stands_for_parameter}
use Rattle.module_model.specs.Instances.{paths_in, through}
use Rattle.module_model.specs.Modules.{Reading, all_clashing, brings, brings_clash, clashes, differs, extended, extends_all, joined, text_of, unread, with_entry}
use Rattle.module_model.specs.NamedModules.{module_at}
use Rattle.module_model.specs.Resolution.{findings, first, found_from, outside_in, words_of}
use Rattle.tree_kinds.specs.Standing.{Outside}
use Rattle.module_kinds.specs.ModuleKinds as k
use Rattle.module_kinds.specs.ModuleKinds.{views}
use Rattle.flat_trees.specs.Instances.{symbols_of}
use Rattle.flat_kinds.specs.Declarations.{Declarations, IsDeclared}
use Rattle.flat_kinds.specs.Symbols.{same_declared, same_symbol}
use Rattle.flattened_units.specs.Units.{no_leads, with_symbols}
use Rattle.module_meanings.specs.Faces.{IsPlaced}
use Rattle.accepted_modules.specs.Named.{AllNamed}
use Rattle.accepted_modules.proofs.Contexts.{brings-exported, built-in-is}
use Rattle.accepted_modules.proofs.Declaring.{faults-append, left-empty, right-empty}
use Rattle.accepted_modules.proofs.Holding.{HoldsPlace, OrBuiltIn, first-holds, module-says, nothing-holds}
use Rattle.accepted_modules.proofs.Placed.{alike-placed, symbol-itself, view-same}
use Rattle.accepted_modules.proofs.Symbols.{IsSymbol, put-new, symbols-stay}
use Rattle.accepted_modules.proofs.Behind.{each-there}
use Rattle.accepted_modules.proofs.Tables.{all-passing, entry-there, put-keeps, there-holds}
use Rattle.accepted_modules.proofs.Views.{joined-keeps}

-- ---- what is brought is there

-- an entry is in a context, by a name that means the same
abbrev IsIn : Context → Named × Meaning → Type 0
IsIn context entry = (other : Meaning) × (find context entry.0 ≡ Some (Some other)) × (same_meaning other entry.1 ≡ true)

stays-in : (old new : Context) → ((name : Named) (there : Option Meaning) → find old name ≡ Some there → find new name ≡ Some there) → (entry : Named × Meaning) → IsIn old entry → IsIn new entry
stays-in old new stays entry is = (is.0, stays entry.0 (Some is.0) is.1, is.2)

entry-stays : (reading : Reading) (entry : Named × Meaning) (name : Named) (there : Option Meaning) → find reading.context name ≡ Some there → find (cond (clashes reading.context entry) reading (with_entry false reading entry.0 entry.1)).context name ≡ Some there
entry-stays reading entry name there at = by (clashes reading.context entry)
  where
    by : (b : Bool) → find (cond b reading (with_entry false reading entry.0 entry.1)).context name ≡ Some there
    by true = at
    by false = put-keeps reading.context entry.0 (Some entry.1) name there at

joined-stays : (reading : Reading) (entries : Exports) (name : Named) (there : Option Meaning) → find reading.context name ≡ Some there → find (joined false reading entries).context name ≡ Some there
joined-stays reading [] name there at = at
joined-stays reading (entry ∷ rest) name there at =
    joined-stays (cond (clashes reading.context entry) reading (with_entry false reading entry.0 entry.1)) rest name there (entry-stays reading entry name there at)

extends-stays : (text : Text) (files : List ℕ → Exports) (reading : Reading) (ls : List Lexeme) (name : Named) (there : Option Meaning) → find reading.context name ≡ Some there → find (extends_all text files reading ls).context name ≡ Some there
extends-stays text files reading [] name there at = at
extends-stays text files reading (l ∷ rest) name there at = extends-stays text files (extended reading (brings text files reading l)) rest name there (joined-stays reading (brings text files reading l) name there at)

or-left : (a b : Bool) → (a || b) ≡ false → a ≡ false
or-left true b none = absurd (cc none)
or-left false b none = refl

or-right : (a b : Bool) → (a || b) ≡ false → b ≡ false
or-right true b none = absurd (cc none)
or-right false b none = none

-- what does not clash is there
entry-in : (reading : Reading) (entry : Named × Meaning) → clashes reading.context entry ≡ false → IsIn (cond (clashes reading.context entry) reading (with_entry false reading entry.0 entry.1)).context entry
entry-in reading entry apart = subst (λ b. IsIn (cond b reading (with_entry false reading entry.0 entry.1)).context entry) (sym apart) (by (find reading.context entry.0) refl apart)
  where
    by : (o : Option (Option Meaning)) → find reading.context entry.0 ≡ o → differs o entry.1 ≡ false → IsIn (with_entry false reading entry.0 entry.1).context entry
    by None at apart = (entry.1, put-new reading.context entry.0 (Some entry.1) at, meaning-itself entry.1)
    by (Some None) at apart = absurd (cc apart)
    by (Some (Some other)) at apart = (other, put-keeps reading.context entry.0 (Some entry.1) entry.0 (Some other) at, same (same_meaning other entry.1) apart)
      where
        same : (b : Bool) → not b ≡ false → b ≡ true
        same true none = refl
        same false none = absurd (cc none)

joined-in : (reading : Reading) (entries : Exports) → brings_clash reading entries ≡ false → AllByRecursion (IsIn (joined false reading entries).context) entries
joined-in reading [] none = tt
joined-in reading (entry ∷ rest) none =
    let next : Reading = cond (clashes reading.context entry) reading (with_entry false reading entry.0 entry.1) in (
      stays-in next.context (joined false next rest).context (λ name there at. joined-stays next rest name there at) entry (entry-in reading entry (or-left (clashes reading.context entry) (brings_clash next rest) none)),
      joined-in next rest (or-right (clashes reading.context entry) (brings_clash next rest) none),
    )

-- ---- modules that are extended

none-clash : (b : Bool) (l : Lexeme) → faults (cond b (Clashes l ∷ []) []) ≡ [] → b ≡ false
none-clash true l none = absurd (cc none)
none-clash false l none = refl

module _ (text : Text) (files : List ℕ → ModuleView) (modules : Environment ModuleView) where
  -- what a module exports is there
  abbrev AreIn : Context → Lexeme → Type 0
  AreIn context l = AllByRecursion (IsIn context) (exported (module_at files modules (spelled text.source l)))

  extends-in : (reading : Reading) (ls : List Lexeme) → reading.modules ≡ modules → faults (all_clashing text (exports_by files) reading ls) ≡ [] → AllByRecursion (AreIn (extends_all text (exports_by files) reading ls).context) ls
  extends-in reading [] same none = tt
  extends-in reading (l ∷ rest) same none =
      let title : List ℕ = spelled text.source l in
      let entries : Exports = brings text (exports_by files) reading l in
      let next : Reading = extended reading entries in
      let clash : List Finding = cond (brings_clash reading entries) (Clashes l ∷ []) [] in
      let later : List Finding = all_clashing text (exports_by files) next rest in
      let both = sym (faults-append clash later) ∙ none in
      let is : entries ≡ exported (module_at files modules title) = brings-exported files (meaning reading.modules title) title ∙ ap (λ ms. exported (module_at files ms title)) same in
      let here : AllByRecursion (IsIn next.context) entries = joined-in reading entries (none-clash (brings_clash reading entries) l (left-empty (faults clash) (faults later) both)) in
      let final : Context = (extends_all text (exports_by files) next rest).context in (
        all-weaker (IsIn next.context) (IsIn final) (λ entry one. stays-in next.context final (λ name there at. extends-stays text (exports_by files) next rest name there at) entry one) (exported (module_at files modules title)) (subst (AllByRecursion (IsIn next.context)) is here),
        extends-in next rest ((joined-keeps false reading entries).modules ∙ same) (right-empty (faults clash) (faults later) both),
      )

-- ---- places

-- what means the same by its declaration is the same symbol
same-symbol : (declares : Declarations) (name : Named) (m other : Meaning) → IsSymbol m → IsDeclared declares name m → IsDeclared declares name other → same_meaning other m ≡ true → same_symbol m other ≡ true
same-symbol declares name BuiltIn other symbol one two same = absurd (cc symbol)
same-symbol declares name (Declared e x) BuiltIn symbol one two same = absurd (cc same)
same-symbol declares name (Declared e x) (Declared f y) symbol one two same =
    let parts = and_parts (same_decl y.decl x.decl) (same_units y.via x.via) same in
    let decl : y.decl ≡ x.decl = decl-equal y.decl x.decl parts.0 in
    let via : y.via ≡ x.via = units-equal y.via x.via parts.1 in
    let entity : e ≡ f = ap (λ (p : Named × Entity). p.1) (sym one ∙ (ap declares (sym decl) ∙ two)) in
    let own : same_declared e e ≡ true = (and_parts (same_declared e e) (same_meaning (Declared e x) (Declared e x)) (symbol-itself (Declared e x) symbol)).0 in
    and_from (same_declared e f) (same_decl x.decl y.decl && same_units x.via y.via) (subst (λ other. same_declared e other ≡ true) entity own)
    (and_from (same_decl x.decl y.decl) (same_units x.via y.via) (subst (λ d. same_decl x.decl d ≡ true) (sym decl) (decl-itself x.decl)) (subst (λ v. same_units x.via v ≡ true) (sym via) (units-itself x.via)))

declared-symbol : (e f : Entity) → same_declared e f ≡ true → stands_for_parameter f ≡ true
declared-symbol (entity.Constant m) (entity.Constant n) same = refl
declared-symbol entity.Variable entity.Variable same = refl
declared-symbol e f same = absurd (cc)

other-symbol : (m other : Meaning) → same_symbol m other ≡ true → IsSymbol other
other-symbol BuiltIn other same = absurd (cc same)
other-symbol (Declared e x) BuiltIn same = absurd (cc same)
other-symbol (Declared e x) (Declared f y) same = declared-symbol e f (and_parts (same_declared e f) (same_meaning (Declared e x) (Declared f y)) same).0

module _ (declares : Declarations) (outsides : List ℕ → Outside) (source : List ℕ) (units : ModuleUnits) (a : List Lexeme) (derives : DerivesModule units a) (given : (name : List ℕ) → AllNamed (IsDeclared declares) (outsides name).view)
    (whole : (name : List ℕ) → (outsides name).view.parameters ≡ parameters_in (exported (outsides name).view)) (none : faults (findings (views (text_of source units) outsides (words_of units)) source units) ≡ []) where
  abbrev here : Text
  here = text_of source units

  abbrev files : List ℕ → ModuleView
  files = views (text_of source units) outsides (words_of units)

  -- where symbols of the module lead
  abbrev IsShared : Meaning → Type 0
  IsShared m = IsSymbol m → IsPlaced (with_symbols no_leads (symbols_of (k.outside outsides source units)) 0) m

  passes : (unit : UnitId) (name : Named) (m : Meaning) → IsDeclared declares name m → IsDeclared declares name (through unit m)
  passes unit name BuiltIn is = is
  passes unit name (Declared e callee) is = is

  entry-shared : (name : Named) (m : Meaning) → IsIn (first files source units).place.here.context (name, m) → IsDeclared declares name m → IsShared m
  entry-shared name m is declared symbol =
      let other : Meaning = is.0 in
      let means : meaning_of (first files source units).place.here.context name ≡ Some other = ap usable is.1 in
      let holds : HoldsPlace (IsDeclared declares) (first files source units).place = first-holds (IsDeclared declares) files source units passes given in
      let same = same-symbol declares name m other symbol declared (by other (holds.0.context name other means)) is.2 in
      let parameters : Exports = (outside_in files source units).parameters in
      let found : entry_of parameters name ≡ Some other = symbols-stay files source units a [] units.units name other derives refl refl means (other-symbol m other same) in
      alike-placed no_leads parameters 0 name other m (entry-there parameters name other found) same
    where
      by : (other : Meaning) → OrBuiltIn (IsDeclared declares) name other → IsDeclared declares name other
      by other (inl built) = subst (IsDeclared declares name) (sym (built-in-is name other built)) tt
      by other (inr is) = is

  meanings-all : (P : Meaning → Type 0) (entries : Exports) → AllByRecursion (λ entry. P entry.1) entries → AllByRecursion P (map (λ entry. entry.1) entries)
  meanings-all P [] all = tt
  meanings-all P (entry ∷ rest) all = (all.0, meanings-all P rest all.1)

  module-shared : (l : Lexeme) → AreIn here files (unread (text_of source units)).modules (first files source units).place.here.context l
      → AllByRecursion IsShared (symbols_of (k.named_in here outsides (words_of units) (first_scope here.file) (spelled here.source l)))
  module-shared l is =
      let view : ModuleView = module_at files (unread here).modules (spelled here.source l) in
      let declared : AllNamed (IsDeclared declares) view = module-says (AllNamed (IsDeclared declares)) files (unread here).modules (spelled here.source l) (nothing-holds (IsDeclared declares)) given (tt, tt) in
      let parameters : view.parameters ≡ parameters_in (exported view) = module-says (λ (v : ModuleView). v.parameters ≡ parameters_in (exported v)) files (unread here).modules (spelled here.source l) refl whole (tt, tt) in
      let entries : AllByRecursion (λ (entry : Named × Meaning). IsShared entry.1) (exported view) =
      each-there (λ (entry : Named × Meaning). IsShared entry.1) (exported view)
      (λ name m there.
      entry-shared name m (there-holds (IsIn (first files source units).place.here.context) (exported view) name m is there) (there-holds (λ entry. IsDeclared declares entry.0 entry.1) (exported view) name m declared.entries there)) in
      let kept = all-passing (λ (entry : Named × Meaning). IsShared entry.1) (λ (entry : Named × Meaning). is_meant stands_for_parameter entry.1) (exported view) entries in
      subst (λ (v : ModuleView). AllByRecursion IsShared (map (λ parameter. parameter.1) v.parameters)) (sym (view-same outsides source units (spelled here.source l)))
      (subst (λ (es : Exports). AllByRecursion IsShared (map (λ entry. entry.1) es)) (sym parameters) (meanings-all IsShared (parameters_in (exported view)) kept))

  pub extended-shared : AllByRecursion (λ l. AllByRecursion IsShared (symbols_of (k.named_in here outsides (words_of units) (first_scope here.file) (spelled here.source l)))) units.extends
  extended-shared =
      let clashing = all_clashing here (exports_by files) (unread here) units.extends in
      let found = found_from here files (words_of units) (paths_in units.units) (first files source units) units.units in
      let apart : faults clashing ≡ [] = left-empty (faults clashing) (faults found) (sym (faults-append clashing found) ∙ none) in
      all-weaker (AreIn here files (unread here).modules (first files source units).place.here.context) (λ (l : Lexeme). AllByRecursion IsShared (symbols_of (k.named_in here outsides (words_of units) (first_scope here.file) (spelled here.source l))))
      (λ l is. module-shared l is) units.extends (extends-in here files (unread here).modules (unread here) units.extends refl apart)
