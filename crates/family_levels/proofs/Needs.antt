-- Needs that are found equal are the same, and needs that are found twice; the numbers of versions among them.
use Rattle.std.proofs.Common.{◌≡◌, ℕ, ◌+◌, ◌<◌, ◌≤◌, Bool, true, false, cond, List, [], ◌∷◌, ◌++◌, Option, Some, None, get_or, length, take, refl, ap, sym, subst, ◌∙◌, inl, inr, arith}
use Rattle.std.specs.Prelude.{◌||◌, ◌↔◌, Contains, IsTrue, nat_eq, slice_get}
use Rattle.std.specs.List.{AllZip}
use Rattle.std.specs.Cmp.Lexicographic.{pointwise, pointwise_decides}
use Rattle.std.proofs.lemmas.Bool.{eq-eqb, eqb-true}
use Rattle.std.proofs.lemmas.Bool.Decides.{nat_tests}
use Rattle.std.proofs.lemmas.List.{take_more}
use Rattle.std.proofs.lemmas.Option.{slice_get_within}
use Rattle.indexmap.specs.IndexSet.{insert_key}
use Rattle.index_graph.specs.Leading.{LeadsBack}
use Rattle.family_facts.proofs.Lists.{behind, contains-at, contains-pushed, here, zip-left}
use Rattle.family_tables.specs.Modules.{Entry}
use Rattle.family_tables.specs.Plans as plans
use Rattle.family_tables.specs.Plans.{IsPlan}
use Rattle.family_tables.specs.Tables.{entry_of}
use Rattle.family_tables.specs.declared.order.Plan.{Plan}
use Rattle.family_tables.specs.declared.outcome.Outcome.{Outcome}
use Rattle.family_tables.proofs.Tabling.{entry-found}
use Rattle.family_levels.specs.Again.{AreIdsNeeded, HasIdsOf, HasMoreIds, IsNeed, NeedAll, has_id, need_by, version_by}
use Rattle.family_levels.specs.declared.versions.Version as Versions
use Rattle.family_levels.specs.contracts.versions.NeedPartialEq as need_eq
use Rattle.family_levels.specs.declared.versions.Need.{Need}
use Rattle.family_levels.specs.declared.versions.Need.TheVariants.{Cyclic, Refused, Unknown, Version}

-- the test of needs
abbrev pub same_need : Need → Need → Bool
same_need = (need_eq.TheImpl.eq-value).it

need-exact : (one other : Need) → same_need one other ≡ true → one ≡ other
need-exact Unknown Unknown same = refl
need-exact Cyclic Cyclic same = refl
need-exact Refused Refused same = refl
need-exact (Version id) (Version number) same = ap Version (eqb-true id number same)
need-exact one other same = cc

need-itself : (need : Need) → same_need need need ≡ true
need-itself (Version id) = eq-eqb id id refl
need-itself need = refl

pub needs-exact : (some others : List Need) → pointwise same_need some others ≡ true → some ≡ others
needs-exact some others = (pointwise_decides (λ one other. (need-exact one other, λ is. subst (λ need. same_need one need ≡ true) is (need-itself one))) some others).0

pub needs-itself : (some : List Need) → pointwise same_need some some ≡ true
needs-itself some = (pointwise_decides (λ one other. (need-exact one other, λ is. subst (λ need. same_need one need ≡ true) is (need-itself one))) some some).1 refl

-- ---- needs that are found twice

cyclic-same : (L : Type 0) (a b : Bool) → (IsTrue a ↔ L) → (IsTrue b ↔ L) → a ≡ b
cyclic-same L true true one other = refl
cyclic-same L false false one other = refl
cyclic-same L true false one other = sym (other.1 (one.0 refl))
cyclic-same L false true one other = one.1 (other.0 refl)

module _ (plan : Plan) (outcomes : List (List ℕ × Outcome)) (versions : List (List ℕ × Versions.Version)) (name : List ℕ) (modules : List Entry) (planned : IsPlan modules plan) where
  abbrev Is : List ℕ → Need → Type 0
  Is = IsNeed plan outcomes versions name

  some-need : (a b : Need) → Some a ≡ Some b → a ≡ b
  some-need a b e = cc

  -- what a need is, is told once
  pub need-same : (need : List ℕ) → plans.Needs modules name need → (a b : Need) → Is need a → Is need b → a ≡ b
  need-same need needed a b one other =
      let cyclic = cyclic-same (LeadsBack (plans.Needs modules) name need) one.cyclic other.cyclic (one.exactly modules planned needed) (other.exactly modules planned needed) in
      some-need a b (sym one.itself ∙ ap (λ z. need_by z (entry_of outcomes need) (version_by (entry_of versions need))) cyclic ∙ other.itself)

  pub needs-same : (needs : List (List ℕ)) → NeedAll modules name needs → (are others : List Need) → AllZip Is needs are → AllZip Is needs others → are ≡ others
  needs-same [] all [] [] one other = refl
  needs-same [] all [] (b ∷ others) one other = absurd other
  needs-same [] all (a ∷ are) others one other = absurd one
  needs-same (need ∷ needs) all [] others one other = absurd one
  needs-same (need ∷ needs) all (a ∷ are) [] one other = absurd other
  needs-same (need ∷ needs) all (a ∷ are) (b ∷ others) one other =
      let first = need-same need (all need (here need needs)) a b one.0 other.0 in
      let rest = needs-same needs (λ later c. all later (behind need needs later c)) are others one.1 other.1 in
      λ i. first i ∷ rest i

  -- a need that is accepted and has no version is none of those that are told
  pub need-told : (needs : List (List ℕ)) → NeedAll modules name needs → (are : List Need) → AllZip Is needs are → (need : List ℕ) → Contains needs need → (cyclic : Bool) → cyclic ≡ false → (IsTrue cyclic ↔ LeadsBack (plans.Needs modules) name need) → need_by false (entry_of outcomes need) (version_by (entry_of versions need)) ≡ None → ⊥
  need-told needs all are told need among cyclic apart exactly none =
      let is = zip-left Is needs are need told among in
      let same = cyclic-same (LeadsBack (plans.Needs modules) name need) is.2.cyclic cyclic (is.2.exactly modules planned (all need among)) exactly in
      let never : Some is.0 ≡ None = sym is.2.itself ∙ ap (λ z. need_by z (entry_of outcomes need) (version_by (entry_of versions need))) (same ∙ apart) ∙ none in
      absurd (cc never)

-- ---- numbers of versions

has-first : (a b : List ℕ) (id : ℕ) → has_id a id ≡ true → has_id (a ++ b) id ≡ true
has-first [] b id has = cc
has-first (x ∷ a) b id has = by (nat_eq id x) has (has-first a b id)
  where
    by : (c : Bool) → (c || has_id a id) ≡ true → (has_id a id ≡ true → has_id (a ++ b) id ≡ true) → (c || has_id (a ++ b) id) ≡ true
    by true is rest = refl
    by false is rest = rest is

has-last : (a : List ℕ) (id : ℕ) → has_id (a ++ id ∷ []) id ≡ true
has-last [] id = ap (λ b. b || false) (eq-eqb id id refl)
has-last (x ∷ a) id = by (nat_eq id x) (has-last a id)
  where
    by : (c : Bool) → has_id (a ++ id ∷ []) id ≡ true → (c || has_id (a ++ id ∷ []) id) ≡ true
    by true rest = refl
    by false rest = rest

pub id-kept : (old : List ℕ) (id : ℕ) → HasMoreIds (insert_key nat_eq old id) old
id-kept old id = by (has_id old id)
  where
    by : (b : Bool) → HasMoreIds (cond b old (old ++ id ∷ [])) old
    by true other has = has
    by false other has = has-first old (id ∷ []) other has

pub id-put : (old : List ℕ) (id : ℕ) → has_id (insert_key nat_eq old id) id ≡ true
id-put old id = by (has_id old id) refl
  where
    by : (b : Bool) → has_id old id ≡ b → has_id (cond b old (old ++ id ∷ [])) id ≡ true
    by true has = has
    by false none = has-last old id

-- those of one more need
pub ids-next : (needs : List Need) (i : ℕ) (d : Need) (new old : List ℕ) → i < length needs → HasMoreIds new old → ((id : ℕ) → get_or needs i d ≡ Version id → has_id new id ≡ true) → HasIdsOf (take i needs) old → HasIdsOf (take (i + 1) needs) new
ids-next needs i d new old within more put before id among = elim (contains-pushed (take i needs) (get_or needs i d) (Version id) (subst (λ z. Contains z (Version id)) (take_more needs i d within) among)) as (λ _. has_id new id ≡ true) [
  | inl was ↦ more id (before id was)
  | inr last ↦ put id last
]

-- of the first so many versions
abbrev pub AreFirstNeeded : List (List ℕ × Versions.Version) → ℕ → List ℕ → Type 0
AreFirstNeeded versions count ids = (index : ℕ) (entry : List ℕ × Versions.Version) → index < count → slice_get versions index ≡ Some entry → HasIdsOf entry.1.needs ids

pub first-needed : (versions : List (List ℕ × Versions.Version)) (count : ℕ) (entry : List ℕ × Versions.Version) (new old : List ℕ) → slice_get versions count ≡ Some entry → HasMoreIds new old → HasIdsOf entry.1.needs new → AreFirstNeeded versions count old → AreFirstNeeded versions (count + 1) new
first-needed versions count entry new old at more put before index other within is = by (nat_eq index count) refl
  where
    some-same : (a b : List ℕ × Versions.Version) → Some a ≡ Some b → a ≡ b
    some-same a b e = cc

    by : (b : Bool) → nat_eq index count ≡ b → HasIdsOf other.1.needs new
    by true same =
        let equal : index ≡ count = grind (arith, nat_tests, same) in
        subst (λ (e : List ℕ × Versions.Version). HasIdsOf e.1.needs new) (some-same entry other (sym at ∙ ap (slice_get versions) (sym equal) ∙ is)) put
    by false apart = λ id among. more id (before index other (grind (arith, nat_tests, apart, within)) is id among)

pub all-needed : (versions : List (List ℕ × Versions.Version)) (count : ℕ) (ids : List ℕ) → length versions ≤ count → AreFirstNeeded versions count ids → AreIdsNeeded versions ids
all-needed versions count ids end first name version there =
    let at = contains-at versions (name, version) (entry-found versions name version there) in
    first at.0 (name, version) (let within = slice_get_within versions at.0 (name, version) at.1 in omega (arith, within, end)) at.1
