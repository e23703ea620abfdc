-- What is found of a module of a family, with where its names lead, by what the modules are that it needs.
use Rattle.std.proofs.Common.{◌≡◌, ◌≢◌, ℕ, true, List, [], ◌∷◌, Option, Some, None, refl, sym, ap, subst, ◌∙◌}
use mathlib.Core.Path.{fun_ext}
use Rattle.std.specs.Prelude.{Contains, unwrap_or}
use Rattle.std.specs.FinMap.{get}
use Rattle.tla_model.specs.declared.Diagnostic.{Diagnostic}
use Rattle.tree_kinds.specs.Standing.{Outside}
use Rattle.unit_grammar.specs.Units.{ModuleUnits}
use Rattle.front_laws.specs.Fronts.{Front, IsFront, Tree, Fault}
use Rattle.written_trees.specs.Leading.{Face}
use Rattle.written_modules.specs.Modules.{no_face}
use Rattle.fact_values.specs.Names.{Texts}
use Rattle.fact_values.specs.States.{State, fact}
use Rattle.fact_values.specs.Values as values
use Rattle.fact_values.proofs.ValueLemmas.{value-step}
use Rattle.family_facts.specs.Family.{Member, Needs, is_there}
use Rattle.family_facts.specs.Fronts.{front_of}
use Rattle.family_facts.specs.Facts.{Own, own_of, needs_by, needs_of, texts_of}
use Rattle.family_facts.proofs.Members.{AreOneEach, member-there, there-member}
use Rattle.family_facts.proofs.Needing.{HasNoOther}
use Rattle.family_facts.proofs.States.{front-one, given-is, gives, gives-accepted, gives-cyclic, gives-refused, gives-unknown, text-of-member}
use Rattle.leveled_facts.specs.Modules as modules
use Rattle.leveled_facts.specs.Modules.{Leveled, Status, Refused, Unknown, leveled_by, outsides}
use Rattle.leveled_facts.specs.Families as leveled
use Rattle.leveled_facts.specs.Families.{IsStatus, unknown, cyclic, refused, accepted, leveled_front, leveled_text, status_by_faults, status_by_state, status_by_states}
use Rattle.module_interfaces.specs.Interfaces.{Fact, face_by_faults, face_by_state, face_by_status, faces_by_states, fact_front, fact_of, leveled_state, leveled_states, state_of, written_face}
use Rattle.module_interfaces.proofs.Projecting.{front-part, given-part, state-part}

refused-by : (found : Leveled) → found.faults ≢ [] → status_by_faults found.faults found.outside ≡ Refused
refused-by found some = by found.faults some
  where
    by : (faults : List Diagnostic) → faults ≢ [] → status_by_faults faults found.outside ≡ Refused
    by [] some = absurd (some refl)
    by (fault ∷ faults) some = refl

-- a module with a front fault has faults
faulty : (name bytes : List ℕ) (given : List (List ℕ × State Fact)) (fault : Diagnostic) → front_of name bytes ≡ Fault fault → (fact_of name (own_of name bytes) given).leveled.faults ≢ []
faulty name bytes given fault e none =
    let never : fault ∷ [] ≡ [] = sym (ap (λ f. (fact_front bytes f (status_by_states (leveled_states given)) (faces_by_states given)).leveled.faults) e) ∙ none in cc

-- ---- what is found of each text

module _ (texts : Texts) where
  abbrev given : List ℕ → List (List ℕ × State Fact)
  given name = values.given_in own_of needs_of fact_of texts name

  -- what needs give is what they give to what is found alone
  given-leveled : (name : List ℕ) → leveled_states (given name) ≡ values.given_in own_of needs_of leveled.fact_of texts name
  given-leveled name =
      given-part texts (state_of texts) name (values.needs_in own_of needs_of fact_of texts name)
      ∙ ap (λ f. values.all_given own_of needs_of leveled.fact_of texts f name (values.needs_in own_of needs_of leveled.fact_of texts name)) (fun_ext (state-part texts))

  fact-text : List ℕ → Option (List ℕ) → Fact
  fact-text name None = record { leveled = leveled_text texts name None; face = no_face }
  fact-text name (Some bytes) = fact_of name (own_of name bytes) (given name)

  abbrev found_of : List ℕ → Fact
  found_of name = fact-text name (get texts name)

  -- the part of it that is found alone
  found-leveled : (name : List ℕ) → (found_of name).leveled ≡ leveled.leveled texts name
  unfolding fact-text
  found-leveled name = by (get texts name)
    where
      by : (text : Option (List ℕ)) → (fact-text name text).leveled ≡ leveled_text texts name text
      by None = refl
      by (Some bytes) = front-part texts (own_of name bytes) (given name) ∙ ap (leveled.fact_of name (own_of name bytes)) (given-leveled name)

module _ (one : HasNoOther) (family : List Member) (distinct : AreOneEach family) where
  abbrev texts : Texts
  texts = texts_of family

  found-member : (m : Member) → Contains family m → found_of texts m.name ≡ fact_of m.name (own_of m.name m.bytes) (given texts m.name)
  unfolding fact-text
  found-member m h = ap (fact-text texts m.name) (text-of-member family distinct m h)

  abbrev status_of : State Fact → Status
  status_of state = status_by_state (leveled_state state)

  abbrev faults_of : Fact → List Diagnostic
  faults_of found = found.leveled.faults

  -- what a module is to one that needs it is what its state gives
  status-meets : (name need : List ℕ) (status : Status) → is_there family name ≡ true → IsStatus family name need status → status ≡ status_of (gives fact_of one family distinct name need)
  status-meets name need status t (unknown f) = ap status_of (sym (gives-unknown fact_of one family distinct name need t f))
  status-meets name need status t (cyclic u c) = ap status_of (sym (gives-cyclic fact_of one family distinct name need c))
  status-meets name need status t (refused u ordered some) =
      sym (gives-refused fact_of one family distinct faults_of (found_of texts) found-member faulty status_of Refused refl (λ f. refused-by f.leveled) name need ordered u
      (λ none. some (ap (λ (l : Leveled). l.faults) (sym (found-leveled texts need)) ∙ none)))
  status-meets name need status t (accepted u ordered none) =
      ap (λ fs. status_by_faults fs (leveled.leveled texts need).outside) (sym none)
      ∙ ap (λ (l : Leveled). status_by_faults l.faults l.outside) (sym (found-leveled texts need))
      ∙ sym (gives-accepted fact_of one family distinct faults_of (found_of texts) found-member faulty status_of name need ordered u (ap (λ (l : Leveled). l.faults) (found-leveled texts need) ∙ none))

  -- of a member with a tree there is a fact
  state-of-tree : (m : Member) (found : ModuleUnits) → Contains family m → front_of m.name m.bytes ≡ Tree found → state_of texts m.name ≡ fact (fact_of m.name (own_of m.name m.bytes) (given texts m.name))
  state-of-tree m found h e =
      value-step own_of needs_of fact_of texts m.name
      ∙ ap (λ t. values.value_of_text own_of needs_of fact_of texts (state_of texts) m.name t) (text-of-member family distinct m h)
      ∙ by (needs_by m.bytes (front_of m.name m.bytes)) refl (ap (needs_by m.bytes) e)
    where
      needs-are : values.needs_in own_of needs_of fact_of texts m.name ≡ unwrap_or (needs_by m.bytes (front_of m.name m.bytes)) []
      needs-are = ap (values.needs_of_text own_of needs_of fact_of m.name) (text-of-member family distinct m h)

      by : (needs : Option (List (List ℕ))) → needs_by m.bytes (front_of m.name m.bytes) ≡ needs → needs ≡ needs_by m.bytes (Tree found) → values.value_of_needs own_of needs_of fact_of texts (state_of texts) m.name (own_of m.name m.bytes) needs ≡ fact (fact_of m.name (own_of m.name m.bytes) (given texts m.name))
      by None is some = absurd (cc some)
      by (Some needs) is some =
          ap (λ ns. fact (fact_of m.name (own_of m.name m.bytes) (values.all_given own_of needs_of fact_of texts (state_of texts) m.name ns)))
          (sym (needs-are ∙ ap (λ z. unwrap_or z []) is))

  -- a module without faults has a tree, so there is a fact of it
  accepted-fact : (name : List ℕ) → is_there family name ≡ true → (leveled.leveled texts name).faults ≡ [] → state_of texts name ≡ fact (found_of texts name)
  accepted-fact name t none = let m = there-member family name t in by m.0 m.1 m.2
    where
      by : (m : Member) → Contains family m → m.name ≡ name → state_of texts name ≡ fact (found_of texts name)
      by m h named = subst (λ n. state_of texts n ≡ fact (found_of texts n)) named (by_front (front_of m.name m.bytes) refl)
        where
          none-found : (found_of texts m.name).leveled.faults ≡ []
          none-found = ap (λ (l : Leveled). l.faults) (found-leveled texts m.name) ∙ ap (λ n. (leveled.leveled texts n).faults) named ∙ none

          by_front : (front : Front) → front_of m.name m.bytes ≡ front → state_of texts m.name ≡ fact (found_of texts m.name)
          by_front (Tree units) e = state-of-tree m units h e ∙ ap (λ (f : Fact). fact f) (sym (found-member m h))
          by_front (Fault fault) e = absurd (faulty m.name m.bytes (given texts m.name) fault e (ap faults_of (sym (found-member m h)) ∙ none-found))

  no-faults : (found : Fact) → found.leveled.faults ≡ [] → face_by_state (fact found) ≡ found.face
  no-faults found none = ap (λ fs. face_by_faults fs found.face) none

  some-faults : (found : Fact) → found.leveled.faults ≢ [] → face_by_state (fact found) ≡ no_face
  some-faults found some = by found.leveled.faults some
    where
      by : (faults : List Diagnostic) → faults ≢ [] → face_by_faults faults found.face ≡ no_face
      by [] some = absurd (some refl)
      by (fault ∷ faults) some = refl

  -- where the names of a need lead is what its state gives
  face-meets : (name need : List ℕ) (status : Status) → is_there family name ≡ true → IsStatus family name need status → face_by_status status (face_by_state (state_of texts need)) ≡ face_by_state (gives fact_of one family distinct name need)
  face-meets name need status t (unknown f) = ap face_by_state (sym (gives-unknown fact_of one family distinct name need t f))
  face-meets name need status t (cyclic u c) = ap face_by_state (sym (gives-cyclic fact_of one family distinct name need c))
  face-meets name need status t (refused u ordered some) =
      sym (gives-refused fact_of one family distinct faults_of (found_of texts) found-member faulty face_by_state no_face refl some-faults name need ordered u
      (λ none. some (ap (λ (l : Leveled). l.faults) (sym (found-leveled texts need)) ∙ none)))
  face-meets name need status t (accepted u ordered none) =
      ap face_by_state (accepted-fact need u none)
      ∙ sym (gives-accepted fact_of one family distinct faults_of (found_of texts) found-member faulty face_by_state name need ordered u (ap (λ (l : Leveled). l.faults) (found-leveled texts need) ∙ none))

  pub face-found : (m : Member) (found : ModuleUnits) (statuses : List ℕ → Status) (files : List ℕ → Face) → Contains family m → IsFront m.name m.bytes (Tree found) → ((need : List ℕ) → Needs family m.name need → IsStatus family m.name need (statuses need))
      → ((need : List ℕ) → (Needs family m.name need → ⊥) → statuses need ≡ Unknown) → ((need : List ℕ) → files need ≡ face_by_status (statuses need) (face_by_state (state_of texts need)))
      → leveled.leveled texts m.name ≡ leveled_by statuses m.bytes found
      → state_of texts m.name ≡ fact (record { leveled = leveled.leveled texts m.name; face = written_face files (outsides statuses) m.bytes found })
  face-found m found statuses files h is each others faces alone =
      let there = member-there family m.name m h refl in
      let front = front-one one m (Tree found) is in
      let statuses_are : statuses ≡ status_by_states (leveled_states (given texts m.name)) =
      given-is fact_of one family distinct (λ gs. status_by_states (leveled_states gs)) status_of Unknown (λ name. refl) (λ need needs name. refl) m found h is statuses (λ need n. status-meets m.name need (statuses need) there (each need n)) others in
      let files_are : files ≡ faces_by_states (given texts m.name) =
      given-is fact_of one family distinct faces_by_states face_by_state no_face (λ name. refl) (λ need needs name. refl) m found h is files
      (λ need n. faces need ∙ face-meets m.name need (statuses need) there (each need n))
      (λ need never. faces need ∙ ap (λ status. face_by_status status (face_by_state (state_of texts need))) (others need never)) in
      state-of-tree m found h front
      ∙ ap (λ f. fact (fact_front m.bytes f (status_by_states (leveled_states (given texts m.name))) (faces_by_states (given texts m.name)))) front
      ∙ (λ i. fact (fact_front m.bytes (Tree found) (sym statuses_are i) (sym files_are i)))
      ∙ ap (λ (l : Leveled). fact (record { leveled = l; face = written_face files (outsides statuses) m.bytes found })) (sym alone)
