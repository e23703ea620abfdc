-- What is found of the modules of a family, in the order of a plan.
use Rattle.std.proofs.Common.{◌≡◌, ◌≤◌, ◌<◌, ℕ, ◌+◌, List, [], ◌∷◌, ◌++◌, Option, Some, None, refl, sym, ap, ◌∙◌, cond, take, length, get_or, arith, true, false, ⊎_elim, subst}
use Rattle.std.specs.Prelude.{Contains, IsSome, is_some, slice_get, sum_by}
use Rattle.std.specs.List.{All}
use Rattle.std.specs.Str.{bytes_eq}
use Rattle.std.proofs.lemmas.Bool.{cases_Bool}
use Rattle.std.proofs.lemmas.List.{take_more, map-append}
use Rattle.std.proofs.lemmas.List.Sums.{sum_by_more}
use Rattle.std.proofs.lemmas.Option.{slice_get-get_or}
use Rattle.list_laws.proofs.Lists.{contains-map}
use Rattle.list_laws.proofs.Texts.{same-text}
use Rattle.family_facts.specs.Family as families
use Rattle.family_facts.specs.Family.{Member, is_there}
use Rattle.family_facts.specs.Verdicts.{after_checks}
use Rattle.family_tables.specs.Modules.{Entry, IsEntry, AreModules, tree_count}
use Rattle.family_tables.specs.Plans as plans
use Rattle.family_tables.specs.Plans.{AreOnce, IsPlan}
use Rattle.family_tables.specs.Outcomes.{IsMember, IsSomeModule, trees_in, trees_of}
use Rattle.family_tables.specs.Tables.{entry_of, names_in}
use Rattle.family_tables.specs.declared.order.Plan.{Plan}
use Rattle.family_tables.specs.declared.outcome.Outcome.{Outcome}
use Rattle.family_tables.specs.declared.reading.Module.{Module}
use Rattle.family_facts.proofs.Lists.{at-contains, contains-at, zip-right}
use Rattle.family_facts.proofs.Members.{there-member}
use Rattle.family_facts.proofs.Needing.{HasNoOther}
use Rattle.family_tables.proofs.Tabling.{entry-append, entry-found, entry-none, entry-some}
use Rattle.family_tables.proofs.Indices.{at-taken, at-take, named-member}
use Rattle.family_tables.proofs.Bridging.{own-needs, all-needs, cyclic-map}
use Rattle.family_tables.proofs.Graphs.{same-entry}
use Rattle.family_tables.proofs.Sums.{sum-map, sum-members}

-- ---- the modules so far

-- a module that a plan orders
module _ (modules : List Entry) (plan : Plan) (planned : IsPlan modules plan) (i : ℕ) (d name : List ℕ) (l : i < length plan.order) (is : name ≡ get_or plan.order i d) where
  ordered-at : slice_get plan.order i ≡ Some name
  ordered-at = slice_get-get_or plan.order i d l ∙ ap (λ x. Some x) (sym is)

  pub ordered-there : entry_of modules name ≡ None → ⊥
  ordered-there none =
      let s = entry-some modules name ((planned.order.all name).0 (at-contains plan.order i name ordered-at)) in
      let k : None ≡ Some s.0 = sym none ∙ s.1 in
      cc

  pub ordered-fresh : {T : Type 0} (outcomes : List (List ℕ × T)) → names_in outcomes ≡ take i plan.order → entry_of outcomes name ≡ None
  ordered-fresh outcomes names = entry-none outcomes name (λ c.
      let k = contains-at (take i plan.order) name (subst (λ ns. Contains ns name) names c) in
      let at = at-taken i plan.order k.0 name k.1 in
      let place : k.0 ≡ i = planned.order.once k.0 i name at.0 ordered-at in
      let less : k.0 < i = at.1 in
      absurd (omega (arith, place, less)))

  pub ordered-names : {T : Type 0} (outcomes outcomes' : List (List ℕ × T)) (o : T) → names_in outcomes ≡ take i plan.order → outcomes' ≡ outcomes ++ (name, o) ∷ [] → names_in outcomes' ≡ take (i + 1) plan.order
  ordered-names {T = T} outcomes outcomes' o names e =
      ap names_in e ∙ (map-append (λ (x : List ℕ × T). x.0) outcomes ((name, o) ∷ []) ∙ (ap (λ ns. ns ++ name ∷ []) names ∙ (ap (λ x. take i plan.order ++ x ∷ []) is ∙ sym (take_more plan.order i d l))))

  module _ (one : HasNoOther) (family : List Member) (are : AreModules family modules) (outcomes : List (List ℕ × Outcome)) (names : names_in outcomes ≡ take i plan.order) where
    pub before-here : (need : List ℕ) → families.Needs family name need → (families.IsCyclic family name need → ⊥) → is_there family need ≡ true → IsSome (entry_of outcomes need)
    before-here need n not there =
        let m = there-member family need there in
        let known : Contains (names_in modules) need = subst (λ x. Contains (names_in modules) x) m.2 (named-member family modules m.0 are m.1) in
        let j = contains-at plan.order need ((planned.order.all need).1 known) in
        let less : j.0 < i = planned.order.behind i j.0 name need ordered-at j.1 (all-needs one family modules are name need n, λ c. not (cyclic-map (plans.Needs modules) (families.Needs family) name need (own-needs one family modules are) c)) in
        let s = entry-some outcomes need (subst (λ ns. Contains ns need) (sym names) (at-contains (take i plan.order) j.0 need (at-take i plan.order j.0 need less j.1))) in
        ap is_some s.1

-- what holds of each entry of a table and of one more holds of each behind it
pub found-more : {T : Type 0} (P : List ℕ → T → Type 0) (entries entries' : List (List ℕ × T)) (name : List ℕ) (o : T) → entry_of entries name ≡ None → entries' ≡ entries ++ (name, o) ∷ [] → P name o →
    ((other : List ℕ) (p : T) → entry_of entries other ≡ Some p → P other p) → (other : List ℕ) (p : T) → entry_of entries' other ≡ Some p → P other p
found-more {T = T} P entries entries' name o none e new found other p h =
    let value : entry_of entries' other ≡ cond (bytes_eq other name) (Some o) (entry_of entries other) = ap (λ z. entry_of z other) e ∙ entry-append entries other name o none in
    ⊎_elim
    (λ (t : bytes_eq other name ≡ true).
    let s : ◌≡◌ {A = Option T} (Some o) (Some p) = sym (ap (λ b. cond b (Some o) (entry_of entries other)) t) ∙ (sym value ∙ h) in
    let same : o ≡ p = some-same o p s in
    subst (λ x. P x p) (sym (same-text other name t)) (subst (λ x. P name x) same new))
    (λ (f : bytes_eq other name ≡ false). found other p (sym (ap (λ b. cond b (Some o) (entry_of entries other)) f) ∙ (sym value ∙ h)))
    (cases_Bool (bytes_eq other name))
  where
    some-same : (x y : T) → ◌≡◌ {A = Option T} (Some x) (Some y) → x ≡ y
    some-same x y s = cc

-- the module under a name is the member of that name
pub member-here : (one : HasNoOther) (family : List Member) (modules : List Entry) (name : List ℕ) (m : Module) → AreOnce (names_in modules) → AreModules family modules → entry_of modules name ≡ Some m → IsMember family name m.reading m.needs
member-here one family modules name m once are e =
    let there : Contains modules (name, m) = entry-found modules name m e in
    let z = zip-right IsEntry family modules (name, m) are there in
    record {
      member = z.0;
      there = z.1;
      named = sym (z.2).named;
      is = (z.2).is.reading;
      own = λ need c. own-needs one family modules are name need (record { entry = (name, m); there = there; named = refl; needs = c });
      all = λ need n. let k = all-needs one family modules are name need n in subst (λ (x : Entry). Contains x.1.needs need) (same-entry modules k.entry (name, m) once k.there there k.named) k.needs;
    }

pub module-here : (modules : List Entry) (name : List ℕ) (m : Module) → All (λ (entry : Entry). IsSomeModule entry.0 entry.1) modules → entry_of modules name ≡ Some m → IsSomeModule name m
module-here modules name m all e =
    let h = entry-found modules name m e in
    subst (λ (x : Entry). IsSomeModule x.0 x.1) h.2 (all h.0 (name, m) h.1)

-- ---- all modules

-- each module has an entry
pub entries-all : {T : Type 0} (P : List ℕ → T → Type 0) (family : List Member) (modules : List Entry) (plan : Plan) (entries : List (List ℕ × T)) → AreModules family modules → IsPlan modules plan → names_in entries ≡ plan.order → ((other : List ℕ) (o : T) → entry_of entries other ≡ Some o → P other o) →
    (name : List ℕ) → is_there family name ≡ true → (o : T) × (entry_of entries name ≡ Some o) × P name o
entries-all P family modules plan entries are planned names found name there =
    let m = there-member family name there in
    let known : Contains (names_in modules) name = subst (λ x. Contains (names_in modules) x) m.2 (named-member family modules m.0 are m.1) in
    let s = entry-some entries name (subst (λ ns. Contains ns name) (sym names) ((planned.order.all name).1 known)) in
    (s.0, s.1, found name s.0 s.1)

-- checks, and more of them
pub checks-more : (n m before old new : ℕ) → old ≡ after_checks n before → new ≡ after_checks m old → new ≡ after_checks (n + m) before
checks-more n m before old new is more = omega (arith, is, more)

checks-most : (n m before old new : ℕ) → old ≤ after_checks n before → new ≤ after_checks m old → new ≤ after_checks (n + m) before
checks-most n m before old new is more = omega (arith, is, more)

-- the modules that a plan orders are all modules
pub trees-all : (modules : List Entry) (plan : Plan) → AreOnce (names_in modules) → IsPlan modules plan → sum_by (λ name. trees_of (entry_of modules name)) plan.order ≡ trees_in modules
trees-all modules plan once planned =
    let count : List ℕ → ℕ = λ name. trees_of (entry_of modules name) in
    sum-members count plan.order (names_in modules) planned.order.once once (λ x c. (planned.order.all x).0 c) (λ x c. (planned.order.all x).1 c)
    ∙ sum-map count (λ (e : Entry). e.0) (λ (e : Entry). tree_count e.1.reading) modules (λ e c.
    let s = entry-some modules e.0 (contains-map (λ (x : Entry). x.0) modules e c) in
    let same : (e.0, s.0) ≡ e = same-entry modules (e.0, s.0) e once (entry-found modules e.0 s.0 s.1) c refl in
    ap trees_of s.1 ∙ ap (λ (x : Entry). tree_count x.1.reading) same)

module _ (modules : List Entry) (order : List (List ℕ)) (i : ℕ) (d name : List ℕ) (m : Module) (before old new : ℕ) (l : i < length order) (is : name ≡ get_or order i d) (there : entry_of modules name ≡ Some m) where
  count : List ℕ → ℕ
  count n = trees_of (entry_of modules n)

  one-more : sum_by count (take (i + 1) order) ≡ sum_by count (take i order) + tree_count m.reading
  unfolding count
  one-more =
      let here : count (get_or order i d) ≡ tree_count m.reading = ap count (sym is) ∙ ap trees_of there in
      sum_by_more count order i d l ∙ ap (λ k. sum_by count (take i order) + k) here

  pub steps-more : old ≡ after_checks (sum_by (λ n. trees_of (entry_of modules n)) (take i order)) before → new ≡ after_checks (tree_count m.reading) old → new ≡ after_checks (sum_by (λ n. trees_of (entry_of modules n)) (take (i + 1) order)) before
  unfolding count
  steps-more h tick = checks-more (sum_by count (take i order)) (tree_count m.reading) before old new h tick ∙ ap (λ k. after_checks k before) (sym one-more)

  pub steps-most : old ≤ after_checks (sum_by (λ n. trees_of (entry_of modules n)) (take i order)) before → new ≤ after_checks (tree_count m.reading) old → new ≤ after_checks (sum_by (λ n. trees_of (entry_of modules n)) (take (i + 1) order)) before
  unfolding count
  steps-most h tick = subst (λ k. new ≤ after_checks k before) (sym one-more) (checks-most (sum_by count (take i order)) (tree_count m.reading) before old new h tick)
