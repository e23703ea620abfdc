-- The names of indices in order, and the first that reaches itself.
use Rattle.std.proofs.Common.{◌≡◌, ℕ, ◌+◌, ◌<◌, ◌≤◌, Bool, true, false, List, Option, Some, None, refl, sym, ap, ◌∙◌, subst, inl, inr, map, length, get_or, arith}
use Rattle.std.specs.Prelude.{◌⊎◌, Contains, IsSome, is_some, slice_get}
use Rattle.std.specs.Cmp.Lexicographic.{nat_list_cmp_total}
use Rattle.std.specs.FinMap.{get}
use Rattle.std.specs.Ordering.{ordering_reverse, is_lt}
use Rattle.std.specs.declared.cmp.Ordering.{Ordering}
use Rattle.std.specs.declared.cmp.Ordering.TheVariants.{Less, Greater}
use Rattle.std.proofs.lemmas.List.{length-map}
use Rattle.std.proofs.lemmas.Option.{slice_get-get_or}
use Rattle.list_laws.proofs.Lists.{at-map, at-mapped}
use Rattle.list_laws.proofs.Tests.{less-is, same-or-other}
use Rattle.index_graph.specs.Leading.{Leads, last, more}
use Rattle.name_graph.specs.Family.{name_cmp, Reaches, IsOrder, IsFirstCyclic}
use Rattle.index_graph.specs.Indices.{Has, Edge, IsOrdered}
use Rattle.name_graph.specs.Rows.{Rows, AreDistinct, name_of, name_at, family_of, indices_of, edges_of, IsFirst}
use Rattle.index_graph.proofs.Lists.{at-within, at-there, at-same}
use Rattle.name_graph.proofs.Naming.{Row, name, has-contains, contains-has, family-there, family-some, needs-row, row-needs, edge-needs, needs-edge, row-at, first-row, reach-way}
use Rattle.index_graph.proofs.Walking.{cases}
use Rattle.index_graph.proofs.Ways.{way-leads}

name-there : (rows : Rows) (i : ℕ) (row : Row) → slice_get rows i ≡ Some row → name_at rows i ≡ name row
name-there rows i row e = ap name_of e

module _ (rows : Rows) (d : AreDistinct rows) where
  edges-long : length (edges_of rows) ≡ length rows
  edges-long = length-map rows (λ (row : Row). indices_of rows row.1)

  -- a name that reaches itself stands where steps lead back
  reach-leads : (q : List ℕ) → Reaches (family_of rows) q q → (i : ℕ) × (row : Row) × (slice_get rows i ≡ Some row) × (name row ≡ q) × Leads (Edge (edges_of rows)) i i
  reach-leads q l =
      let r = first-row rows d l in
      let f = reach-way rows d l r.0 r.1 r.2 r.3 in
      let back : Edge (edges_of rows) f.index r.0 = needs-edge rows d f.index r.0 f.row r.1 f.stands r.2 (subst (Contains (f.row).1) (sym r.3) f.needs) in
      (r.0, r.1, r.2, r.3, way-leads (edges_of rows) r.0 f.index r.0 f.way (last back))

  leads-reach : (i k : ℕ) (a c : Row) → slice_get rows i ≡ Some a → slice_get rows k ≡ Some c → Leads (Edge (edges_of rows)) i k → Reaches (family_of rows) (name a) (name c)
  leads-reach i k a c e f (last g) = last (row-needs rows d i a (name c) e (edge-needs rows d i k a c e f g))
  leads-reach i k a c e f (more {b = m} g l) = let r = row-at rows d i m g in more (row-needs rows d i a (name r.0) e (edge-needs rows d i m a r.0 e r.1 g)) (leads-reach m k r.0 c r.1 f l)

  module _ (order cyclic : List ℕ) (o : IsOrdered (edges_of rows) order cyclic) where
    row-of : (index : ℕ) → Has order index → (row : Row) × (slice_get rows index ≡ Some row)
    row-of index h = at-there rows index (let l : index < length (edges_of rows) = o.within index h in omega (arith, l, edges-long))

    -- what reaches itself is among those that were found
    cyclic-found : (index : ℕ) → Has order index → Leads (Edge (edges_of rows)) index index → Has cyclic index
    cyclic-found index h l = cases (o.others h.0 index h.1) (λ c. c) (λ b. absurd (b.plain l))

    ordered-at : (i : ℕ) (row : Row) → slice_get rows i ≡ Some row → Has order i
    ordered-at i row e = o.all i (let l : i < length rows = at-within rows i row e in omega (arith, l, edges-long))

    pub no-cycle : length cyclic ≡ 0 → (q : List ℕ) → Reaches (family_of rows) q q → ⊥
    no-cycle none q l =
        let r = reach-leads q l in
        let h = cyclic-found r.0 (ordered-at r.0 r.1 r.2) r.4 in
        let k : h.0 < length cyclic = at-within cyclic h.0 r.0 h.1 in
        omega (arith, k, none)

    -- each name of the order stands in a row
    placed : (i : ℕ) (q : List ℕ) → slice_get (map (name_at rows) order) i ≡ Some q → (index : ℕ) × (row : Row) × (slice_get order i ≡ Some index) × (slice_get rows index ≡ Some row) × (name row ≡ q)
    placed i q e =
        let p = at-mapped (name_at rows) order i q e in
        let r = row-of p.0 (i, p.1) in
        (p.0, r.0, p.1, r.1, sym (name-there rows p.0 r.0 r.1) ∙ p.2)

    pub names-ordered : length cyclic ≡ 0 → IsOrder (family_of rows) (map (name_at rows) order)
    names-ordered none = record {
      all = λ q. (λ s. put-in q (get (family_of rows) q) refl s, λ c. named-put q (contains-has (map (name_at rows) order) q c));
      once = λ i j q e f.
          let a = placed i q e in
          let b = placed j q f in
          let same : a.0 ≡ b.0 = d a.0 b.0 a.1 b.1 a.3 b.3 (a.4 ∙ sym b.4) in
          o.once i j b.0 (a.2 ∙ ap Some same) b.2;
      behind = λ i j q need e f n.
          let a = placed i q e in
          let b = placed j need f in
          let r = needs-row rows q need n in
          let same : r.0 ≡ a.0 = d r.0 a.0 r.1 a.1 r.2 a.3 (r.3 ∙ sym a.4) in
          let g : Edge (edges_of rows) a.0 b.0 = needs-edge rows d a.0 b.0 r.1 b.1 (ap (slice_get rows) (sym same) ∙ r.2) b.3 (subst (Contains (r.1).1) (sym b.4) r.4) in
          cases (o.others i a.0 a.2)
          (λ h. let k : h.0 < length cyclic = at-within cyclic h.0 a.0 h.1 in absurd (omega (arith, k, none)))
          (λ h.
          let k = h.needs b.0 g in
          let z : k.0 ≡ j = o.once k.0 j b.0 k.1 b.2 in
          let l : k.0 < i = k.2 in
          omega arith);
    }
      where
        put-in : (q : List ℕ) (s : Option (List (List ℕ))) → get (family_of rows) q ≡ s → IsSome s → Contains (map (name_at rows) order) q
        put-in q None e h = cc h
        put-in q (Some needs) e h =
            let r = family-some rows q needs e in
            let p = ordered-at r.0 r.1 r.2 in
            has-contains (map (name_at rows) order) q (p.0, at-map (name_at rows) order p.0 r.0 p.1 ∙ ap Some (name-there rows r.0 r.1 r.2 ∙ r.3))

        named-put : (q : List ℕ) → Has (map (name_at rows) order) q → IsSome (get (family_of rows) q)
        named-put q h = let a = placed h.0 q h.1 in ap (λ n. is_some (get (family_of rows) n)) (sym a.4) ∙ ap is_some (family-there rows d a.0 a.1 a.3)

    pub first-cyclic : (index : ℕ) → IsFirst rows cyclic index → IsFirstCyclic (family_of rows) (name_at rows index)
    first-cyclic index f =
        let c = o.loops index f.among in
        let r = row-of index c.0 in
        let n : name r.0 ≡ name_at rows index = sym (name-there rows index r.0 r.1) in
        record {
          cyclic = subst (λ q. Reaches (family_of rows) q q) n (leads-reach index index r.0 r.0 r.1 r.1 c.1);
          first = λ other l less.
              let s = reach-leads other l in
              f.first s.0 (cyclic-found s.0 (ordered-at s.0 s.1 s.2) s.4) (ap (λ q. name_cmp q (name_at rows index)) (name-there rows s.0 s.1 s.2 ∙ s.3) ∙ less);
        }

    pub cyclic-row : (index : ℕ) → IsFirst rows cyclic index → index < length rows
    cyclic-row index f = let c = o.loops index f.among in let r = row-of index c.0 in at-within rows index r.0 r.1

    -- the indices are those of rows
    pub within-rows : (indices : List ℕ) → ((index : ℕ) → Has indices index → Has order index) → (k p : ℕ) → k < length indices → get_or indices k p < length rows
    within-rows indices h k p l = let r = row-of (get_or indices k p) (h (get_or indices k p) (k, slice_get-get_or indices k p l)) in at-within rows (get_or indices k p) r.0 r.1

-- the first of names in byte order
not-less-itself : (q : List ℕ) → name_cmp q q ≡ Less → ⊥
not-less-itself q e = let k : Less ≡ Greater = sym e ∙ nat_list_cmp_total.antisymm q q ∙ ap ordering_reverse e in cc k

-- what does not come before one comes before none that is earlier
pub not-less : (x y z : List ℕ) → name_cmp y z ≡ Less → (name_cmp x z ≡ Less → ⊥) → name_cmp x y ≡ Less → ⊥
not-less x y z l n m = n (nat_list_cmp_total.trans x y z m l)

pub record IsFirstOf (rows : Rows) (indices : List ℕ) (k index : ℕ) : Type 0 where
  pub among : Has indices index
  pub first : (j other : ℕ) → j < k → slice_get indices j ≡ Some other → name_cmp (name_at rows other) (name_at rows index) ≡ Less → ⊥

-- one index further
pub first-next : (rows : Rows) (indices : List ℕ) (k first index next : ℕ) → slice_get indices k ≡ Some index → IsFirstOf rows indices k first
    → ((name_cmp (name_at rows index) (name_at rows first) ≡ Less) × (next ≡ index)) ⊎ ((name_cmp (name_at rows index) (name_at rows first) ≡ Less → ⊥) × (next ≡ first)) → IsFirstOf rows indices (k + 1) next
first-next rows indices k first index next e f (inl q) = subst (IsFirstOf rows indices (k + 1)) (sym q.1) (record {
  among = (k, e);
  first = λ j other m g. cases (same-or-other j k)
      (λ same.
      let s : other ≡ index = at-same indices k other index (ap (slice_get indices) (sym same) ∙ g) e in
      λ z. not-less-itself (name_at rows index) (ap (λ p. name_cmp (name_at rows p) (name_at rows index)) (sym s) ∙ z))
      (λ n. not-less (name_at rows other) (name_at rows index) (name_at rows first) q.0 (f.first j other (omega (arith, m, n)) g));
})
first-next rows indices k first index next e f (inr q) = subst (IsFirstOf rows indices (k + 1)) (sym q.1) (record {
  among = f.among;
  first = λ j other m g. cases (same-or-other j k)
      (λ same.
      let s : other ≡ index = at-same indices k other index (ap (slice_get indices) (sym same) ∙ g) e in
      λ z. q.0 (ap (λ p. name_cmp (name_at rows p) (name_at rows first)) (sym s) ∙ z))
      (λ n. f.first j other (omega (arith, m, n)) g);
})

less-not : (o : Ordering) → is_lt o ≡ false → o ≡ Less → ⊥
less-not o e q = let k : is_lt o ≡ true = ap is_lt q in cc

pub first-step : (rows : Rows) (indices : List ℕ) (k first index next : ℕ) (t : Bool) (a b : List ℕ) → slice_get indices k ≡ Some index → IsFirstOf rows indices k first → t ≡ is_lt (name_cmp a b) → a ≡ name_at rows index → b ≡ name_at rows first → ((t ≡ true) × (next ≡ index)) ⊎ ((t ≡ false) × (next ≡ first)) → IsFirstOf rows indices (k + 1) next
first-step rows indices k first index next t a b e f c p q r =
    let names : is_lt (name_cmp (name_at rows index) (name_at rows first)) ≡ t = sym (c ∙ ap (λ z. is_lt (name_cmp z b)) p ∙ ap (λ z. is_lt (name_cmp (name_at rows index) z)) q) in
    first-next rows indices k first index next e f (cases r
    (λ l. inl (less-is (name_cmp (name_at rows index) (name_at rows first)) (names ∙ l.0), l.1))
    (λ l. inr (less-not (name_cmp (name_at rows index) (name_at rows first)) (names ∙ l.0), l.1)))

pub first-all : (rows : Rows) (indices : List ℕ) (k index : ℕ) → length indices ≤ k → IsFirstOf rows indices k index → IsFirst rows indices index
first-all rows indices k index l f = record { among = f.among; first = λ other h. f.first h.0 other (let m : h.0 < length indices = at-within indices h.0 other h.1 in omega (arith, m, l)) h.1 }
