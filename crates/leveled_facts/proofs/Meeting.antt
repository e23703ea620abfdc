-- What is found of a module of a family is what is found of it by what the modules are that it needs.
use Rattle.std.proofs.Common.{◌≡◌, ◌≢◌, ℕ, true, List, [], ◌∷◌, refl, sym, ap, ◌∙◌}
use Rattle.std.specs.Prelude.{Contains}
use Rattle.std.specs.FinMap.{get}
use Rattle.tla_model.specs.declared.Diagnostic.{Diagnostic}
use Rattle.unit_grammar.specs.Units.{ModuleUnits}
use Rattle.front_laws.specs.Fronts.{IsFront, Tree, Fault}
use Rattle.fact_values.specs.Names.{Texts}
use Rattle.fact_values.specs.States.{State}
use Rattle.fact_values.specs.Values as values
use Rattle.family_facts.specs.Family.{Member, Needs, is_there}
use Rattle.family_facts.specs.Fronts.{front_of}
use Rattle.family_facts.specs.Facts.{own_of, needs_of, texts_of}
use Rattle.family_facts.proofs.FrontLaws.{front-named}
use Rattle.family_facts.proofs.Members.{AreOneEach, member-there}
use Rattle.family_facts.proofs.Needing.{HasNoOther}
use Rattle.family_facts.proofs.States.{front-one, given-is, gives, gives-accepted, gives-cyclic, gives-refused, gives-unknown, text-of-member}
use Rattle.flat_kinds.specs.Declarations.{HasPlaces}
use Rattle.leveled_facts.specs.Modules as modules
use Rattle.leveled_facts.specs.Modules.{Leveled, Status, Refused, front_refused, leveled_by}
use Rattle.leveled_facts.specs.Families.{IsStatus, unknown, cyclic, refused, accepted, declared_by, declared_front, declared_text, declares, fact_of, leveled, leveled_front, leveled_text, status_by_faults, status_by_state, status_by_states}

refused-by : (found : Leveled) → found.faults ≢ [] → status_by_faults found.faults found.outside ≡ Refused
refused-by found some = by found.faults some
  where
    by : (faults : List Diagnostic) → faults ≢ [] → status_by_faults faults found.outside ≡ Refused
    by [] some = absurd (some refl)
    by (fault ∷ faults) some = refl

-- a module with a front fault has faults
faulty : (name bytes : List ℕ) (given : List (List ℕ × State Leveled)) (fault : Diagnostic) → front_of name bytes ≡ Fault fault → (fact_of name (own_of name bytes) given).faults ≢ []
faulty name bytes given fault e none = let k : fault ∷ [] ≡ [] = sym (ap (λ f. (leveled_front bytes f (status_by_states given)).faults) e) ∙ none in cc

module _ (one : HasNoOther) (family : List Member) (distinct : AreOneEach family) where
  abbrev texts : Texts
  texts = texts_of family

  leveled-of-member : (m : Member) → Contains family m → leveled texts m.name ≡ leveled_front m.bytes (front_of m.name m.bytes) (status_by_states (values.given_in own_of needs_of fact_of texts m.name))
  leveled-of-member m h = ap (leveled_text texts m.name) (text-of-member family distinct m h)

  -- what a module is to one that needs it is what its state gives
  status-meets : {name need : List ℕ} {status : Status} → is_there family name ≡ true → IsStatus family name need status → status ≡ status_by_state (gives fact_of one family distinct name need)
  status-meets {name} {need} t (unknown f) = ap status_by_state (sym (gives-unknown fact_of one family distinct name need t f))
  status-meets {name} {need} t (cyclic u c) = ap status_by_state (sym (gives-cyclic fact_of one family distinct name need c))
  status-meets {name} {need} t (refused u ordered some) =
      sym (gives-refused fact_of one family distinct (λ (x : Leveled). x.faults) (leveled texts) leveled-of-member faulty status_by_state Refused refl refused-by name need ordered u some)
  status-meets {name} {need} t (accepted u ordered none) =
      ap (λ fs. status_by_faults fs (leveled texts need).outside) (sym none)
      ∙ sym (gives-accepted fact_of one family distinct (λ (x : Leveled). x.faults) (leveled texts) leveled-of-member faulty status_by_state name need ordered u none)

  -- of a member with a tree that is found which is found by what its needs are
  pub tree-leveled : (m : Member) (found : ModuleUnits) (given : List ℕ → Status) → Contains family m → IsFront m.name m.bytes (Tree found) → ((need : List ℕ) → Needs family m.name need → IsStatus family m.name need (given need))
      → ((need : List ℕ) → (Needs family m.name need → ⊥) → given need ≡ modules.Unknown) → leveled texts m.name ≡ leveled_by given m.bytes found
  tree-leveled m found given h is each others =
      leveled-of-member m h
      ∙ ap (λ f. leveled_front m.bytes f (status_by_states (values.given_in own_of needs_of fact_of texts m.name))) (front-one one m (Tree found) is)
      ∙ ap (λ (g : List ℕ → Status). leveled_by g m.bytes found)
      (sym (given-is fact_of one family distinct status_by_states status_by_state modules.Unknown (λ name. refl) (λ need needs name. refl) m found h is given
      (λ need n. status-meets (member-there family m.name m h refl) (each need n)) others))

  -- and of one with a front fault that fault
  pub fault-leveled : (m : Member) (fault : Diagnostic) → Contains family m → IsFront m.name m.bytes (Fault fault) → leveled texts m.name ≡ front_refused fault
  fault-leveled m fault h is = leveled-of-member m h ∙ ap (λ f. leveled_front m.bytes f (status_by_states (values.given_in own_of needs_of fact_of texts m.name))) (front-one one m (Fault fault) is)

  -- each declaring name of a member is declared at its place
  pub places-declared : (m : Member) (found : ModuleUnits) → Contains family m → IsFront m.name m.bytes (Tree found) → HasPlaces (declares texts) m.bytes found
  places-declared m found h is place binder at =
      ap (λ name. declared_text name place (get texts name)) (front-named is)
      ∙ ap (declared_text m.name place) (text-of-member family distinct m h)
      ∙ ap (declared_front m.bytes place) (front-one one m (Tree found) is)
      ∙ ap (declared_by m.bytes) at
