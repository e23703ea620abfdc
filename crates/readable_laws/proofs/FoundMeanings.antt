-- What is found of a name is what is meant where it begins.
use Rattle.std.proofs.Common.{◌≡◌, ◌≤◌, ℕ, zero, suc, List, [], ◌∷◌, Bool, true, false, Option, Some, None, refl, sym, ap, ◌∙◌, subst, arith}
use Rattle.std.specs.Prelude.{Contains, nat_eq, slice_get}
use Rattle.std.specs.List.{AllByRecursion}
use Rattle.std.specs.Map.{lookup}
use Rattle.std.proofs.lemmas.Bool.{eqb-true, eqb-false}
use Rattle.std.proofs.lemmas.Option.{slice_get-get_or}
use Rattle.tla_symbols.specs.declared.lexeme.Lexeme.{Lexeme}
use Rattle.tla_model.specs.declared.entity.Entity.TheVariants as entity
use Rattle.tla_model.specs.declared.names.Finding.TheVariants.{Means, Implied}
use Rattle.tla_model.specs.declared.names.Meaning.TheVariants.{BuiltIn, Declared}
use Rattle.tla_model.specs.Entities.{Entity, Meaning}
use Rattle.tla_model.specs.Scopes.{Finding}
use Rattle.module_model.specs.Bindings.{faults as name_faults}
use Rattle.arity_rules.specs.Arities.{declared, is_unknown, meaning, or_built_in}
use Rattle.flattened_trees.specs.Readable.{CanStandFor}
use Rattle.lexeme_laws.specs.Apart.{BeginApart, begins_at, counted, weight}
use Rattle.readable_laws.specs.Uses.{IsSound, means_by, used_lexemes}

-- what a name that means this is where arities are looked at
abbrev pub entity_in : Meaning → Entity
entity_in BuiltIn = entity.Constant 0
entity_in (Declared e callee) = e

-- the same, where it is declared
abbrev declared_in : Meaning → Option Entity
declared_in BuiltIn = None
declared_in (Declared e callee) = Some e

-- how many uses begin here
abbrev uses : ℕ → List Finding → ℕ
uses start found = counted (begins_at start) (used_lexemes found)

other-start : (start : ℕ) (l : Lexeme) → weight (begins_at start) l ≡ 0 → nat_eq start l.span.start ≡ false
other-start start l w = by (nat_eq start l.span.start) (begins_at start l) refl refl
  where
    by : (a b : Bool) → nat_eq start l.span.start ≡ a → begins_at start l ≡ b → nat_eq start l.span.start ≡ false
    by false b e k = e
    by true false e k = absurd (eqb-false l.span.start start k (sym (eqb-true start l.span.start e)))
    by true true e k = absurd (omega (arith, w, counts k))
      where
        counts : begins_at start l ≡ true → weight (begins_at start) l ≡ 1
        counts k = rw k refl

pub own-start : (start : ℕ) → nat_eq start start ≡ true
own-start start = by (nat_eq start start) refl
  where
    by : (b : Bool) → nat_eq start start ≡ b → nat_eq start start ≡ true
    by true e = e
    by false e = absurd (eqb-false start start e refl)

pub own-counts : (l : Lexeme) → weight (begins_at l.span.start) l ≡ 1
own-counts l = rw (own-start l.span.start) refl

none-here : (start : ℕ) (found : List Finding) → uses start found ≡ 0 → lookup (nat_eq start) (declared found) ≡ None
none-here start [] few = refl
none-here start (Means l (Declared e callee) ∷ rest) few = rw (other-start start l (omega arith)) (none-here start rest (omega arith))
none-here start (Means l BuiltIn ∷ rest) few = none-here start rest (omega arith)
none-here start (_ ∷ rest) few = none-here start rest few

use-counts : (l : Lexeme) (m : Meaning) (found : List Finding) (k : ℕ) → slice_get found k ≡ Some (Means l m) → 1 ≤ uses l.span.start found
use-counts l m [] zero at = absurd (cc)
use-counts l m [] (suc k) at = absurd (cc)
use-counts l m (f ∷ rest) zero at = let same : Means l m ≡ f = cc in subst (λ g. 1 ≤ uses l.span.start (g ∷ rest)) same (omega (arith, own-counts l))
use-counts l m (Means other meant ∷ rest) (suc k) at = omega (arith, use-counts l m rest k at)
use-counts l m (_ ∷ rest) (suc k) at = use-counts l m rest k at

-- what is found of a lexeme is meant where it begins
abbrev Says : Lexeme → Meaning → List Finding → Type 0
Says l m found = (means_by found l.span.start ≡ Some m) × (lookup (nat_eq l.span.start) (declared found) ≡ declared_in m)

first-says : (l : Lexeme) (m : Meaning) (rest : List Finding) → uses l.span.start (Means l m ∷ rest) ≤ 1 → Says l m (Means l m ∷ rest)
first-says l (Declared e callee) rest few = (rw (own-start l.span.start) refl, rw (own-start l.span.start) refl)
first-says l BuiltIn rest few = (rw (own-start l.span.start) refl, none-here l.span.start rest (omega (arith, own-counts l)))

later-says : (l : Lexeme) (m : Meaning) (other : Lexeme) (meant : Meaning) (rest : List Finding) → nat_eq l.span.start other.span.start ≡ false → Says l m rest → Says l m (Means other meant ∷ rest)
later-says l m other (Declared e callee) rest apart says = (rw apart says.0, rw apart says.1)
later-says l m other BuiltIn rest apart says = (rw apart says.0, says.1)

found-says : (l : Lexeme) (m : Meaning) (found : List Finding) (k : ℕ) → uses l.span.start found ≤ 1 → slice_get found k ≡ Some (Means l m) → Says l m found
found-says l m [] zero few at = absurd (cc)
found-says l m [] (suc k) few at = absurd (cc)
found-says l m (f ∷ rest) zero few at = let same : f ≡ Means l m = cc in subst (λ g. Says l m (g ∷ rest)) (sym same) (first-says l m rest (subst (λ g. uses l.span.start (g ∷ rest) ≤ 1) same few))
found-says l m (Means other meant ∷ rest) (suc k) few at =
    later-says l m other meant rest (other-start l.span.start other (omega (arith, few, use-counts l m rest k at))) (found-says l m rest k (omega (arith, few)) at)
found-says l m (_ ∷ rest) (suc k) few at = found-says l m rest k few at

no-faults : (found : List Finding) → AllByRecursion IsSound found → name_faults found ≡ []
no-faults [] sound = refl
no-faults (Means l m ∷ rest) sound = no-faults rest sound.1
no-faults (Implied l p m ∷ rest) sound = no-faults rest sound.1
no-faults (_ ∷ rest) sound = absurd sound.0

-- the entity of a name that means this
meant-entity : (m : Meaning) → or_built_in (declared_in m) false ≡ Some (entity_in m)
meant-entity BuiltIn = refl
meant-entity (Declared e callee) = refl

-- a finding of no fault is what is known where its lexeme begins
abbrev pub IsAgreed : (ℕ → Option Meaning) → (ℕ → Option Entity) → Finding → Type 0
IsAgreed means entities (Means l m) = (means l.span.start ≡ Some m) × (entities l.span.start ≡ Some (entity_in m))
IsAgreed means entities (Implied l p m) = CanStandFor p m
IsAgreed means entities finding = ⊥

sound-at : (found : List Finding) (k : ℕ) (f : Finding) → AllByRecursion IsSound found → slice_get found k ≡ Some f → IsSound f
sound-at [] zero f sound at = absurd (cc)
sound-at [] (suc k) f sound at = absurd (cc)
sound-at (g ∷ rest) zero f sound at = let same : g ≡ f = cc in subst IsSound same sound.0
sound-at (g ∷ rest) (suc k) f sound at = sound-at rest k f sound.1 at

pub all-agreed : (found : List Finding) → AllByRecursion IsSound found → BeginApart (used_lexemes found) → ((l : Lexeme) (p m : Meaning) (k : ℕ) → slice_get found k ≡ Some (Implied l p m) → CanStandFor p m) → (f : Finding) → Contains found f → IsAgreed (means_by found) (meaning found) f
all-agreed found sound apart stands f there =
    by f (sound-at found there.0 f sound (slice_get-get_or found there.0 f there.1 ∙ ap Some there.2)) (slice_get-get_or found there.0 f there.1 ∙ ap Some there.2)
  where
    by : (f : Finding) → IsSound f → slice_get found there.0 ≡ Some f → IsAgreed (means_by found) (meaning found) f
    by (Means l m) s at =
        let says = found-says l m found there.0 (apart l.span.start) at in
        let known : is_unknown (name_faults found) l.span.start ≡ false = ap (λ faults. is_unknown faults l.span.start) (no-faults found sound) in
        (says.0, ap (λ here. or_built_in here (is_unknown (name_faults found) l.span.start)) says.1 ∙ (ap (or_built_in (declared_in m)) known ∙ meant-entity m))
    by (Implied l p m) s at = stands l p m there.0 at
    by _ s at = absurd s
