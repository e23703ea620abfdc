-- Graphs of needs, the orders that they have, and cycles.
use Rattle.std.proofs.Common.{◌≡◌, ◌<◌, ℕ, zero, suc, ◌+◌, List, [], ◌∷◌, ◌++◌, Option, Some, None, Result, Ok, Err, IfOk, refl, sym, ap, ◌∙◌, cond, take, length, get_or, true, false, Bool, ⊎_elim, inl, inr, subst, add-one}
use Rattle.std.specs.Prelude.{◌⊎◌, ◌↔◌, Contains, slice_get, IsSome, IsTrue, option_map, unwrap_or}
use Rattle.std.specs.Cmp.Lexicographic.{nat_list_cmp_total}
use Rattle.std.specs.FinMap.{get, insert, empty, get-insert, get-empty}
use Rattle.std.specs.Str.{bytes_eq}
use Rattle.std.proofs.lemmas.Bool.{cases_Bool}
use Rattle.std.proofs.lemmas.List.{take_more}
use Rattle.std.proofs.lemmas.List.Elements.{Contains-append_left, Contains-append_right}
use Rattle.std.proofs.lemmas.Map.Text.{is_eq-slice_cmp}
use Rattle.std.proofs.lemmas.Option.{slice_get-map}
use Rattle.tool_list.specs.declared.Memory.{Memory}
use Rattle.name_graph.specs.Family as graphs
use Rattle.index_graph.specs.Leading.{Leads, LeadsBack, last, more}
use Rattle.name_graph.specs.Family.{name_cmp}
use Rattle.list_laws.proofs.Lists.{contains-map}
use Rattle.list_laws.proofs.Texts.{same-text, text-itself}
use Rattle.family_tables.specs.Modules.{Entry}
use Rattle.family_tables.specs.Plans.{AreOnce, Needs, NeedsBefore, IsGraph, AreKept, IsOrder}
use Rattle.family_tables.specs.Tables.{names_in}
use Rattle.family_facts.proofs.Lists.{at-contains, at-same, contains-at, contains-pushed, here, none-there}

-- ---- steps

pub leads-map : {R S : List ℕ → List ℕ → Type 0} → ((a b : List ℕ) → R a b → S a b) → {a b : List ℕ} → Leads R a b → Leads S a b
leads-map f (last {a = a} {b = b} s) = last (f a b s)
leads-map f (more {a = a} {b = b} s rest) = more (f a b s) (leads-map f rest)

pub first-step : {R : List ℕ → List ℕ → Type 0} {a c : List ℕ} → Leads R a c → (b : List ℕ) × R a b × ((b ≡ c) ⊎ Leads R b c)
first-step (last {b = b} s) = (b, s, inl refl)
first-step (more {b = b} s rest) = (b, s, inr rest)

-- ---- graphs that grow

get-put : (graph : graphs.Family) (name : List ℕ) (needs : List (List ℕ)) (q : List ℕ) → get (insert graph name needs) q ≡ cond (bytes_eq q name) (Some needs) (get graph q)
get-put graph name needs q = get-insert nat_list_cmp_total graph name needs q ∙ ap (λ b. cond b (Some needs) (get graph q)) (is_eq-slice_cmp q name)

pub graph-none : (Has : List ℕ → List ℕ → Type 0) (graph : graphs.Family) → graph ≡ empty → IsGraph [] Has graph
graph-none Has graph e = record {
  put = λ name. (λ s. let k : IsSome {T = List (List ℕ)} None = subst IsSome (ap (λ g. get g name) e ∙ get-empty name_cmp name) s in cc, λ c. absurd (none-there name c));
  needs = λ name need c. absurd (none-there name c);
}

module _ (names : List (List ℕ)) (Has : List ℕ → List ℕ → Type 0) (graph : graphs.Family) (name : List ℕ) (needs : List (List ℕ)) (is : IsGraph names Has graph) (own : (need : List ℕ) → Contains needs need ↔ Has name need) where
  put-more : (q : List ℕ) → IsSome (get (insert graph name needs) q) ↔ Contains (names ++ name ∷ []) q
  put-more q = ⊎_elim
      (λ (t : bytes_eq q name ≡ true).
      let e : get (insert graph name needs) q ≡ Some needs = get-put graph name needs q ∙ ap (λ b. cond b (Some needs) (get graph q)) t in
      (λ _. subst (λ x. Contains (names ++ name ∷ []) x) (sym (same-text q name t)) (Contains-append_right names (name ∷ []) name (here name [])), λ _. subst IsSome (sym e) refl))
      (λ (f : bytes_eq q name ≡ false).
      let e : get (insert graph name needs) q ≡ get graph q = get-put graph name needs q ∙ ap (λ b. cond b (Some needs) (get graph q)) f in (
        λ s. Contains-append_left names (name ∷ []) q ((is.put q).0 (subst IsSome e s)),
        λ c. elim (contains-pushed names name q c) as (λ _. IsSome (get (insert graph name needs) q)) [
          | inl before ↦ subst IsSome (sym e) ((is.put q).1 before)
          | inr same ↦ let k : true ≡ false = sym (text-itself q name (sym same)) ∙ f in cc
        ],
      ))
      (cases_Bool (bytes_eq q name))

  needs-more : (q need : List ℕ) → Contains (names ++ name ∷ []) q → graphs.Needs (insert graph name needs) q need ↔ Has q need
  needs-more q need c = ⊎_elim
      (λ (t : bytes_eq q name ≡ true).
      let e : get (insert graph name needs) q ≡ Some needs = get-put graph name needs q ∙ ap (λ b. cond b (Some needs) (get graph q)) t in
      let s : q ≡ name = same-text q name t in (
        λ n. subst (λ x. Has x need) (sym s) ((own need).0 (subst (λ o. Contains (unwrap_or o []) need) e n)),
        λ h. subst (λ o. Contains (unwrap_or o []) need) (sym e) ((own need).1 (subst (λ x. Has x need) s h)),
      ))
      (λ (f : bytes_eq q name ≡ false).
      let e : get (insert graph name needs) q ≡ get graph q = get-put graph name needs q ∙ ap (λ b. cond b (Some needs) (get graph q)) f in
      let before : Contains names q = elim (contains-pushed names name q c) as (λ _. Contains names q) [
        | inl b ↦ b
        | inr same ↦ let k : true ≡ false = sym (text-itself q name (sym same)) ∙ f in cc
      ] in (
        λ n. ((is.needs q need before).0 (subst (λ o. Contains (unwrap_or o []) need) e n)),
        λ h. subst (λ o. Contains (unwrap_or o []) need) (sym e) ((is.needs q need before).1 h),
      ))
      (cases_Bool (bytes_eq q name))

  pub graph-more : IsGraph (names ++ name ∷ []) Has (insert graph name needs)
  graph-more = record { put = put-more; needs = needs-more }

names-more : (entries : List Entry) (i : ℕ) (e : Entry) → slice_get entries i ≡ Some e → names_in (take (suc i) entries) ≡ names_in (take i entries) ++ e.0 ∷ []
names-more [] zero e h = cc
names-more [] (suc i) e h = cc
names-more (x ∷ xs) zero e h = let s : x ≡ e = cc in ap (λ (y : Entry). y.0 ∷ []) s
names-more (x ∷ xs) (suc i) e h = ap (λ names. x.0 ∷ names) (names-more xs i e h)

-- one more module is put
pub graph-step : (entries : List Entry) (i : ℕ) (e : Entry) (Has : List ℕ → List ℕ → Type 0) (graph graph' : graphs.Family) (needs : List (List ℕ)) → slice_get entries i ≡ Some e → IsGraph (names_in (take i entries)) Has graph →
    ((need : List ℕ) → Contains needs need ↔ Has e.0 need) → graph' ≡ insert graph e.0 needs → IsGraph (names_in (take (i + 1) entries)) Has graph'
graph-step entries i e Has graph graph' needs h is own same =
    subst (λ g. IsGraph (names_in (take (i + 1) entries)) Has g) (sym same)
    (subst (λ names. IsGraph names Has (insert graph e.0 needs)) (sym (names-more entries i e h) ∙ ap (λ n. names_in (take n entries)) (sym (add-one i))) (graph-more (names_in (take i entries)) Has graph e.0 needs is own))

-- ---- modules under their names

named-at : (entries : List Entry) (i : ℕ) (e : Entry) → slice_get entries i ≡ Some e → slice_get (names_in entries) i ≡ Some e.0
named-at entries i e h = slice_get-map (λ (x : Entry). x.0) entries i ∙ ap (option_map (λ (x : Entry). x.0)) h

pub same-entry : (entries : List Entry) (a b : Entry) → AreOnce (names_in entries) → Contains entries a → Contains entries b → a.0 ≡ b.0 → a ≡ b
same-entry entries a b once ha hb e =
    let i = contains-at entries a ha in
    let j = contains-at entries b hb in
    let index : i.0 ≡ j.0 = once i.0 j.0 b.0 (named-at entries i.0 a i.1 ∙ ap (λ n. Some n) e) (named-at entries j.0 b j.1) in
    at-same entries j.0 a b (ap (slice_get entries) (sym index) ∙ i.1) j.1

pub entry-needs : (entries : List Entry) (i : ℕ) (e : Entry) → AreOnce (names_in entries) → slice_get entries i ≡ Some e → (need : List ℕ) → Contains e.1.needs need ↔ Needs entries e.0 need
entry-needs entries i e once h need =
    let there : Contains entries e = at-contains entries i e h in (
      λ c. record { entry = e; there = there; named = refl; needs = c },
      λ n. subst (λ (x : Entry). Contains x.1.needs need) (same-entry entries n.entry e once n.there there n.named) n.needs,
    )

pub needs-named : (entries : List Entry) (name need : List ℕ) → Needs entries name need → Contains (names_in entries) name
needs-named entries name need n = subst (λ x. Contains (names_in entries) x) n.named (contains-map (λ (x : Entry). x.0) entries n.entry n.there)

-- ---- what a graph says

pub graph-has : (names : List (List ℕ)) (Has : List ℕ → List ℕ → Type 0) (graph : graphs.Family) → IsGraph names Has graph → (name need : List ℕ) → graphs.Needs graph name need → Has name need
graph-has names Has graph is name need n = (is.needs name need ((is.put name).0 (put (get graph name) n))).0 n
  where
    put : (o : Option (List (List ℕ))) → Contains (unwrap_or o []) need → IsSome o
    put None c = absurd (none-there need c)
    put (Some needs) c = refl

module _ (entries : List Entry) (graph : graphs.Family) (is : IsGraph (names_in entries) (Needs entries) graph) where
  from-graph : (name need : List ℕ) → graphs.Needs graph name need → Needs entries name need
  from-graph = graph-has (names_in entries) (Needs entries) graph is

  to-graph : (name need : List ℕ) → Needs entries name need → graphs.Needs graph name need
  to-graph name need n = (is.needs name need (needs-named entries name need n)).1 n

  cyclic-from : (name need : List ℕ) → LeadsBack (graphs.Needs graph) name need → LeadsBack (Needs entries) name need
  cyclic-from name need c = elim c as (λ _. LeadsBack (Needs entries) name need) [ inl e ↦ inl e | inr r ↦ inr (leads-map from-graph r) ]

  cyclic-to : (name need : List ℕ) → LeadsBack (Needs entries) name need → LeadsBack (graphs.Needs graph) name need
  cyclic-to name need c = elim c as (λ _. LeadsBack (graphs.Needs graph) name need) [ inl e ↦ inl e | inr r ↦ inr (leads-map to-graph r) ]

  pub cyclic-answer : (name need : List ℕ) (r : Result Bool Memory) → IfOk r (λ answer. IsTrue answer ↔ LeadsBack (graphs.Needs graph) name need) → IfOk r (λ answer. IsTrue answer ↔ LeadsBack (Needs entries) name need)
  cyclic-answer name need (Ok b) h = (λ t. cyclic-from name need (h.0 t), λ c. h.1 (cyclic-to name need c))
  cyclic-answer name need (Err e) h = tt

  -- needs that are kept are those that are not cyclic
  pub kept-own : (i : ℕ) (e : Entry) (needs kept : List (List ℕ)) → AreOnce (names_in entries) → slice_get entries i ≡ Some e → needs ≡ e.1.needs → AreKept graph e.0 needs kept → (need : List ℕ) → Contains kept need ↔ NeedsBefore entries e.0 need
  kept-own i e needs kept once h same k need = (
    λ c. let r = (k need).0 c in ((entry-needs entries i e once h need).0 (subst (λ ns. Contains ns need) same r.0), λ cyclic. r.1 (cyclic-to e.0 need cyclic)),
    λ n. (k need).1 (subst (λ ns. Contains ns need) (sym same) ((entry-needs entries i e once h need).1 n.0), λ cyclic. n.1 (cyclic-from e.0 need cyclic)),
  )

  pub acyclic : ((name : List ℕ) → graphs.Reaches graph name name → ⊥) → (name : List ℕ) → Leads (Needs entries) name name → ⊥
  acyclic none name r = none name (leads-map to-graph r)

-- no cycle has only needs that are not cyclic
pub no-cycle : (entries : List Entry) (name : List ℕ) → Leads (NeedsBefore entries) name name → ⊥
no-cycle entries name h =
    let f = first-step h in
    (f.1).1 (elim f.2 as (λ _. LeadsBack (Needs entries) name f.0) [ inl e ↦ inl e | inr rest ↦ inr (leads-map (λ a b n. n.0) rest) ])

pub no-fault : (entries : List Entry) (graph : graphs.Family) (name : List ℕ) → IsGraph (names_in entries) (NeedsBefore entries) graph → graphs.Reaches graph name name → ⊥
no-fault entries graph name is r = no-cycle entries name (leads-map (graph-has (names_in entries) (NeedsBefore entries) graph is) r)

-- the order of a graph is one of the modules
pub order-is : (entries : List Entry) (Has : List ℕ → List ℕ → Type 0) (graph : graphs.Family) (order : List (List ℕ)) → IsGraph (names_in entries) Has graph → ((name need : List ℕ) → NeedsBefore entries name need → Has name need) → graphs.IsOrder graph order → IsOrder entries order
order-is entries Has graph order is has o = record {
  all = λ name. (λ c. (is.put name).0 ((o.all name).1 c), λ c. (o.all name).0 ((is.put name).1 c));
  once = o.once;
  behind = λ i j name need hi hj n. o.behind i j name need hi hj ((is.needs name need ((is.put name).0 ((o.all name).1 (at-contains order i name hi)))).1 (has name need n));
}

pub no-need-cyclic : (entries : List Entry) (name need : List ℕ) → ((other : List ℕ) → Leads (Needs entries) other other → ⊥) → Needs entries name need → (IsTrue false → LeadsBack (Needs entries) name need) × (LeadsBack (Needs entries) name need → IsTrue false)
no-need-cyclic entries name need none n = (
  λ t. cc,
  λ c. elim c as (λ _. IsTrue false) [
    | inl e ↦ absurd (none name (last (subst (λ x. Needs entries name x) e n)))
    | inr r ↦ absurd (none name (more n r))
  ],
)

-- ---- needs that are kept

pub kept-more : (graph : graphs.Family) (name item : List ℕ) (needs : List (List ℕ)) (i : ℕ) (d : List ℕ) (kept kept' : List (List ℕ)) → i < length needs → item ≡ get_or needs i d → AreKept graph name (take i needs) kept → (LeadsBack (graphs.Needs graph) name item → ⊥) → kept' ≡ kept ++ item ∷ [] → AreKept graph name (take (i + 1) needs) kept'
kept-more graph name item needs i d kept kept' l is inv not same =
    subst (λ ks. AreKept graph name (take (i + 1) needs) ks) (sym same)
    (subst (λ ns. AreKept graph name ns (kept ++ item ∷ [])) (ap (λ x. take i needs ++ x ∷ []) is ∙ sym (take_more needs i d l)) (λ need. (
      λ c. elim (contains-pushed kept item need c) as (λ _. Contains (take i needs ++ item ∷ []) need × (LeadsBack (graphs.Needs graph) name need → ⊥)) [
        | inl b ↦ let r = (inv need).0 b in (Contains-append_left (take i needs) (item ∷ []) need r.0, r.1)
        | inr e ↦ (subst (λ x. Contains (take i needs ++ item ∷ []) x) e (Contains-append_right (take i needs) (item ∷ []) item (here item [])), subst (λ x. LeadsBack (graphs.Needs graph) name x → ⊥) e not)
      ],
      λ h. elim (contains-pushed (take i needs) item need h.0) as (λ _. Contains (kept ++ item ∷ []) need) [
        | inl b ↦ Contains-append_left kept (item ∷ []) need ((inv need).1 (b, h.1))
        | inr e ↦ subst (λ x. Contains (kept ++ item ∷ []) x) e (Contains-append_right kept (item ∷ []) item (here item []))
      ],
    )))

pub kept-skip : (graph : graphs.Family) (name item : List ℕ) (needs : List (List ℕ)) (i : ℕ) (d : List ℕ) (kept kept' : List (List ℕ)) → i < length needs → item ≡ get_or needs i d → AreKept graph name (take i needs) kept → LeadsBack (graphs.Needs graph) name item → kept' ≡ kept → AreKept graph name (take (i + 1) needs) kept'
kept-skip graph name item needs i d kept kept' l is inv cyclic same =
    subst (λ ks. AreKept graph name (take (i + 1) needs) ks) (sym same)
    (subst (λ ns. AreKept graph name ns kept) (ap (λ x. take i needs ++ x ∷ []) is ∙ sym (take_more needs i d l)) (λ need. (
      λ c. let r = (inv need).0 c in (Contains-append_left (take i needs) (item ∷ []) need r.0, r.1),
      λ h. elim (contains-pushed (take i needs) item need h.0) as (λ _. Contains kept need) [
        | inl b ↦ (inv need).1 (b, h.1)
        | inr e ↦ absurd (h.1 (subst (λ x. LeadsBack (graphs.Needs graph) name x) e cyclic))
      ],
    )))
