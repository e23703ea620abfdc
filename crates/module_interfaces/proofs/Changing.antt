-- What a module that is dirty has of which something changed, and what one that is not has kept.
use Rattle.std.proofs.Common.{◌≡◌, ℕ, Bool, true, false, List, [], ◌∷◌, Option, Some, None, refl, sym, ap, subst, map}
use Rattle.std.specs.Prelude.{◌&&◌, not}
use Rattle.std.specs.FinMap.{get}
use Rattle.fact_values.specs.Names.{Texts, name_eq}
use Rattle.fact_values.specs.States.{State, no_text, cyclic, broken, fact, same_given, same_state}
use Rattle.fact_values.specs.Values as values
use Rattle.fact_values.proofs.NameLemmas.{name_eq-same, same_name}
use Rattle.family_facts.specs.Facts.{needs_of, own_of}
use Rattle.tla_model.specs.declared.Diagnostic.{Diagnostic}
use Rattle.module_interfaces.specs.Interfaces.{Accepted, Broken, Cyclic, Fact, FindsImports, ImportState, Interface, Refused, TellsImports, Unknown, fact_of, import_by, import_state, imports_in, is_dirty}

both-left : (a b : Bool) → (a && b) ≡ true → a ≡ true
both-left true b e = refl
both-left false b e = e

both-right : (a b : Bool) → (a && b) ≡ true → b ≡ true
both-right true b e = e
both-right false b e = absurd (cc e)

both : (a b : Bool) → a ≡ true → b ≡ true → (a && b) ≡ true
both true b first second = second
both false b first second = first

not-false : (b : Bool) → not b ≡ false → b ≡ true
not-false true e = refl
not-false false e = absurd (cc e)

-- ---- texts

text-same : (one other : Option (List ℕ)) → values.same_text own_of needs_of fact_of one other ≡ true → one ≡ other
text-same None None e = refl
text-same None (Some b) e = absurd (cc e)
text-same (Some a) None e = absurd (cc e)
text-same (Some a) (Some b) e = ap (λ t. Some t) (same_name a b e)

same-text : (one other : Option (List ℕ)) → one ≡ other → values.same_text own_of needs_of fact_of one other ≡ true
same-text None None e = refl
same-text None (Some b) e = absurd (cc e)
same-text (Some a) None e = absurd (cc e)
same-text (Some a) (Some b) e = name_eq-same a b (some-text a b e)
  where
    some-text : (a b : List ℕ) → ◌≡◌ {A = Option (List ℕ)} (Some a) (Some b) → a ≡ b
    some-text a b e = cc

-- ---- import states

-- a module is there, without front fault, and does not lead back
abbrev IsKnown : ImportState → Type 0
IsKnown Unknown = ⊥
IsKnown Cyclic = ⊥
IsKnown Broken = ⊥
IsKnown Refused = Unit {0}
IsKnown (Accepted interface) = Unit {0}

-- so is one of which there is a fact
known-state : (faults : List Diagnostic) (interface : Interface) (other : ImportState) → import_by faults interface ≡ other → IsKnown other
known-state [] interface other e = subst IsKnown e tt
known-state (fault ∷ rest) interface other e = subst IsKnown e tt

state-same : (same : Fact → Fact → Bool) → TellsImports same → (one other : State Fact) → same_state same one other ≡ true → import_state one ≡ import_state other
state-same same tells no_text no_text e = refl
state-same same tells cyclic cyclic e = refl
state-same same tells broken broken e = refl
state-same same tells (fact one) (fact other) e = tells one other e
state-same same tells no_text cyclic e = absurd (cc e)
state-same same tells no_text broken e = absurd (cc e)
state-same same tells no_text (fact other) e = absurd (cc e)
state-same same tells cyclic no_text e = absurd (cc e)
state-same same tells cyclic broken e = absurd (cc e)
state-same same tells cyclic (fact other) e = absurd (cc e)
state-same same tells broken no_text e = absurd (cc e)
state-same same tells broken cyclic e = absurd (cc e)
state-same same tells broken (fact other) e = absurd (cc e)
state-same same tells (fact one) no_text e = absurd (cc e)
state-same same tells (fact one) cyclic e = absurd (cc e)
state-same same tells (fact one) broken e = absurd (cc e)

same-state : (same : Fact → Fact → Bool) → FindsImports same → (one other : State Fact) → import_state one ≡ import_state other → same_state same one other ≡ true
same-state same finds no_text no_text e = refl
same-state same finds cyclic cyclic e = refl
same-state same finds broken broken e = refl
same-state same finds (fact one) (fact other) e = finds one other e
same-state same finds no_text cyclic e = absurd (cc e)
same-state same finds no_text broken e = absurd (cc e)
same-state same finds cyclic no_text e = absurd (cc e)
same-state same finds cyclic broken e = absurd (cc e)
same-state same finds broken no_text e = absurd (cc e)
same-state same finds broken cyclic e = absurd (cc e)
same-state same finds no_text (fact other) e = absurd (known-state other.leveled.faults _ Unknown (sym e))
same-state same finds cyclic (fact other) e = absurd (known-state other.leveled.faults _ Cyclic (sym e))
same-state same finds broken (fact other) e = absurd (known-state other.leveled.faults _ Broken (sym e))
same-state same finds (fact one) no_text e = absurd (known-state one.leveled.faults _ Unknown e)
same-state same finds (fact one) cyclic e = absurd (known-state one.leveled.faults _ Cyclic e)
same-state same finds (fact one) broken e = absurd (known-state one.leveled.faults _ Broken e)

-- ---- those of all needs

abbrev states : List (List ℕ × State Fact) → List (List ℕ × ImportState)
states needs = map (λ need. (need.0, import_state need.1)) needs

given-same : (same : Fact → Fact → Bool) → TellsImports same → (one other : List (List ℕ × State Fact)) → same_given same one other ≡ true → states one ≡ states other
given-same same tells [] [] e = refl
given-same same tells [] (y ∷ ys) e = absurd (cc e)
given-same same tells (x ∷ xs) [] e = absurd (cc e)
given-same same tells (x ∷ xs) (y ∷ ys) e =
    let first = both-left (name_eq x.0 y.0 && same_state same x.1 y.1) (same_given same xs ys) e in
    let name = same_name x.0 y.0 (both-left (name_eq x.0 y.0) (same_state same x.1 y.1) first) in
    let state = state-same same tells x.1 y.1 (both-right (name_eq x.0 y.0) (same_state same x.1 y.1) first) in
    let rest = given-same same tells xs ys (both-right (name_eq x.0 y.0 && same_state same x.1 y.1) (same_given same xs ys) e) in
    λ i. (name i, state i) ∷ rest i

same-given : (same : Fact → Fact → Bool) → FindsImports same → (one other : List (List ℕ × State Fact)) → states one ≡ states other → same_given same one other ≡ true
same-given same finds [] [] e = refl
same-given same finds [] (y ∷ ys) e = absurd (cc e)
same-given same finds (x ∷ xs) [] e = absurd (cc e)
same-given same finds (x ∷ xs) (y ∷ ys) e =
    both (name_eq x.0 y.0 && same_state same x.1 y.1) (same_given same xs ys)
    (both (name_eq x.0 y.0) (same_state same x.1 y.1) (name_eq-same x.0 y.0 (ap (name-of x.0) e)) (same-state same finds x.1 y.1 (ap (state-in (import_state x.1)) e)))
    (same-given same finds xs ys (ap rest-of e))
  where
    name-of : List ℕ → List (List ℕ × ImportState) → List ℕ
    name-of none [] = none
    name-of none (need ∷ needs) = need.0

    state-in : ImportState → List (List ℕ × ImportState) → ImportState
    state-in none [] = none
    state-in none (need ∷ needs) = need.1

    rest-of : List (List ℕ × ImportState) → List (List ℕ × ImportState)
    rest-of [] = []
    rest-of (need ∷ needs) = needs

-- ---- modules

module _ (same : Fact → Fact → Bool) (old new : Texts) (name : List ℕ) where
  abbrev text_kept : Bool
  text_kept = values.same_text own_of needs_of fact_of (get old name) (get new name)

  abbrev given_kept : Bool
  given_kept = same_given same (values.given_in own_of needs_of fact_of old name) (values.given_in own_of needs_of fact_of new name)

  pub clean-kept : TellsImports same → is_dirty same old new name ≡ false → (get old name ≡ get new name) × (imports_in old name ≡ imports_in new name)
  clean-kept tells clean =
      let kept : (text_kept && given_kept) ≡ true = not-false (text_kept && given_kept) clean in (
        text-same (get old name) (get new name) (both-left text_kept given_kept kept),
        given-same same tells (values.given_in own_of needs_of fact_of old name) (values.given_in own_of needs_of fact_of new name) (both-right text_kept given_kept kept),
      )

  pub kept-clean : FindsImports same → get old name ≡ get new name → imports_in old name ≡ imports_in new name → is_dirty same old new name ≡ false
  kept-clean finds text imports =
      ap not (both text_kept given_kept (same-text (get old name) (get new name) text) (same-given same finds (values.given_in own_of needs_of fact_of old name) (values.given_in own_of needs_of fact_of new name) imports))
