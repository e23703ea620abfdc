-- What the modules are that a module needs, and the imports of them.
use Rattle.std.proofs.Common.{◌≡◌, ◌<◌, ℕ, ◌+◌, List, [], ◌∷◌, ◌++◌, Some, None, refl, sym, ap, ◌∙◌, cond, take, length, get_or, true, false, Bool, ⊎_elim, inl, inr, subst}
use Rattle.std.specs.Prelude.{◌↔◌, Contains, IsTrue, is_none}
use Rattle.std.specs.Str.{bytes_eq}
use Rattle.std.proofs.lemmas.Bool.{cases_Bool, both_ways}
use Rattle.std.proofs.lemmas.Option.{slice_get-get_or}
use Rattle.module_model.specs.declared.imported.Import.{Import}
use Rattle.module_model.specs.Given.{face_of}
use Rattle.module_model.specs.Imports.{Imports, import_of}
use Rattle.module_facts.specs.Checks.{ImportStatus, given_by, given_in}
use Rattle.list_laws.proofs.Texts.{same-text, text-itself}
use Rattle.family_tables.specs.Modules.{Entry}
use Rattle.index_graph.specs.Leading.{LeadsBack}
use Rattle.family_tables.specs.Plans as plans
use Rattle.family_tables.specs.Plans.{IsPlan}
use Rattle.family_tables.specs.Tables.{entry_of}
use Rattle.family_tables.specs.Agreement.{AreFrom, IsFrom, found_face}
use Rattle.family_tables.specs.Outcomes.{ImportsOnly, IsNeedTold, status_by}
use Rattle.family_tables.specs.declared.order.Plan.{Plan}
use Rattle.family_tables.specs.declared.outcome.Outcome.{Outcome}
use Rattle.family_facts.proofs.Lists.{among-or-not, at-contains}
use Rattle.family_tables.proofs.Tabling.{entry-append}
use Rattle.family_tables.proofs.Taking.{before-taken, item-taken, taken-cases}

-- ---- one import

-- what is asked of a plan of the modules
abbrev pub SaysCyclic : Plan → List ℕ → List ℕ → Bool → Type 0
SaysCyclic plan name need answer = (entries : List Entry) → IsPlan entries plan → plans.Needs entries name need → IsTrue answer ↔ LeadsBack (plans.Needs entries) name need

-- what is told of a need, by its outcome
pub import-told : (plan : Plan) (outcomes : List (List ℕ × Outcome)) (name need : List ℕ) (answer : Bool) → SaysCyclic plan name need answer → (entries : List Entry) → IsPlan entries plan → plans.Needs entries name need → (status : ImportStatus) → status ≡ status_by answer (entry_of outcomes need) → IsNeedTold entries outcomes name need status
import-told plan outcomes name need answer says entries planned needs status is = record { is_cyclic = answer; exactly = says entries planned needs; is = is }

-- ---- imports that grow

-- the faces of imports are those that were found
pub from-more : (outcomes : List (List ℕ × Outcome)) (imports : Imports) (item : List ℕ) (import : Import) (imports' : Imports) → import_of imports item ≡ None → imports' ≡ imports ++ (item, import) ∷ [] → IsFrom outcomes item import → AreFrom outcomes imports → AreFrom outcomes imports'
from-more outcomes imports item import imports' none e new from name face found =
    let value : import_of imports' name ≡ cond (bytes_eq name item) (Some import) (import_of imports name) = ap (λ z. import_of z name) e ∙ entry-append imports name item import none in
    by (bytes_eq name item) refl (sym (ap face_of value) ∙ found)
  where
    by : (b : Bool) → bytes_eq name item ≡ b → face_of (cond b (Some import) (import_of imports name)) ≡ Some face → found_face outcomes name ≡ Some face
    by true same some = subst (λ z. found_face outcomes z ≡ Some face) (sym (same-text name item same)) (new face some)
    by false apart some = from name face some

-- what is said of the imports of some names
abbrev pub AreGiven : (List ℕ → ImportStatus → Type 0) → List (List ℕ) → Imports → Type 0
AreGiven Says needs imports = (need : List ℕ) → Contains needs need → Says need (given_in imports need)

module _ (needs : List (List ℕ)) (i : ℕ) (d item : List ℕ) (l : i < length needs) (is : item ≡ get_or needs i d) (imports : Imports) where
  pub item-needed : Contains needs item
  item-needed = at-contains needs i item (slice_get-get_or needs i d l ∙ ap (λ x. Some x) (sym is))

  -- one more import
  pub given-more : (Says : List ℕ → ImportStatus → Type 0) (import : Import) (imports' : Imports) → import_of imports item ≡ None → imports' ≡ imports ++ (item, import) ∷ [] → Says item (given_by (Some import)) → AreGiven Says (take i needs) imports → AreGiven Says (take (i + 1) needs) imports'
  given-more Says import imports' none e new given need c =
      let value : import_of imports' need ≡ cond (bytes_eq need item) (Some import) (import_of imports need) = ap (λ z. import_of z need) e ∙ entry-append imports need item import none in
      ⊎_elim
      (λ (t : bytes_eq need item ≡ true).
      let v : import_of imports' need ≡ Some import = value ∙ ap (λ b. cond b (Some import) (import_of imports need)) t in
      subst (λ g. Says need g) (ap given_by (sym v)) (subst (λ x. Says x (given_by (Some import))) (sym (same-text need item t)) new))
      (λ (f : bytes_eq need item ≡ false).
      let v : import_of imports' need ≡ import_of imports need = value ∙ ap (λ b. cond b (Some import) (import_of imports need)) f in
      let before : Contains (take i needs) need = elim (taken-cases needs i d item l is need c) as (λ _. Contains (take i needs) need) [
        | inl b ↦ b
        | inr s ↦ let k : true ≡ false = sym (text-itself need item (sym s)) ∙ f in cc
      ] in
      subst (λ g. Says need g) (ap given_by (sym v)) (given need before))
      (cases_Bool (bytes_eq need item))

  pub others-more : (import : Import) (imports' : Imports) → import_of imports item ≡ None → imports' ≡ imports ++ (item, import) ∷ [] → ImportsOnly (take i needs) imports → ImportsOnly (take (i + 1) needs) imports'
  others-more import imports' none e others need n =
      let value : import_of imports' need ≡ cond (bytes_eq need item) (Some import) (import_of imports need) = ap (λ z. import_of z need) e ∙ entry-append imports need item import none in
      ⊎_elim
      (λ (t : bytes_eq need item ≡ true).
      absurd (n (subst (Contains (take (i + 1) needs)) (sym (same-text need item t)) (item-taken needs i d item l is))))
      (λ (f : bytes_eq need item ≡ false).
      value ∙ (ap (λ b. cond b (Some import) (import_of imports need)) f ∙ others need (λ c. n (before-taken needs i d item l is need c))))
      (cases_Bool (bytes_eq need item))

  -- one that is there already
  pub given-again : (Says : List ℕ → ImportStatus → Type 0) → is_none (import_of imports item) ≡ false → ImportsOnly (take i needs) imports → AreGiven Says (take i needs) imports → AreGiven Says (take (i + 1) needs) imports
  given-again Says some others given need c = elim (taken-cases needs i d item l is need c) as (λ _. Says need (given_in imports need)) [
    | inl b ↦ given need b
    | inr s ↦ elim (among-or-not (take i needs) need) as (λ _. Says need (given_in imports need)) [
      | inl b ↦ given need b
      | inr n ↦ let none : import_of imports item ≡ None = ap (import_of imports) s ∙ others need n in absurd (both_ways (is_none (import_of imports item)) some (ap is_none none))
    ]
  ]

  pub others-again : ImportsOnly (take i needs) imports → ImportsOnly (take (i + 1) needs) imports
  others-again others need n = others need (λ c. n (before-taken needs i d item l is need c))
