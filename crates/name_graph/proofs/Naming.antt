-- Names and the indices where they stand.
use Rattle.std.proofs.Common.{◌≡◌, ℕ, zero, suc, ◌+◌, ◌<◌, Bool, true, false, List, [], ◌∷◌, ◌++◌, Option, Some, None, refl, sym, ap, ◌∙◌, subst, cond, inl, inr, map, take, length, get_or, arith}
use Rattle.std.specs.Prelude.{◌⊎◌, Contains, slice_get, filter_map, nat_lt, string_bytes, String, All, unwrap_or}
use Rattle.std.specs.List.{cons_option, position_or_len, list_any, IsDistinct}
use Rattle.std.specs.Map.{keys_of}
use Rattle.std.specs.Ordering.{eq_by_cmp}
use Rattle.std.specs.Str.{bytes_eq}
use Rattle.std.specs.String.{string_eq}
use Rattle.std.specs.declared.alloc.Global.{Global}
use Rattle.std.specs.Cmp.Lexicographic.{nat_list_cmp_total}
use Rattle.std.specs.FinMap.{get, find, insert, get-from_entries, get-insert, same_map, nat_cmp-IsAntisymmetric, slice_cmp-IsAntisymmetric}
use Rattle.std.proofs.lemmas.Bool.{ltb-false}
use Rattle.std.proofs.lemmas.List.{length-map, take_more}
use Rattle.std.proofs.lemmas.List.Elements.{filter_map-append, All-from_recursion}
use Rattle.std.proofs.lemmas.List.Quantifiers.{position-Some}
use Rattle.std.proofs.lemmas.List.Sums.{fails_before_first}
use Rattle.std.proofs.lemmas.Map.Text.{is_eq-slice_cmp}
use Rattle.std.proofs.lemmas.Option.{slice_get-get_or, get_or_from_slice_get}
use Rattle.indexmap.specs.IndexMap.{insert_entry}
use Rattle.list_laws.proofs.Lists.{at-map, at-mapped}
use Rattle.list_laws.proofs.Texts.{any-contains, contains-any, same-text, text-itself}
use Rattle.index_graph.specs.Leading.{Leads, last, more}
use Rattle.name_graph.specs.Family.{name_cmp, Needs, Reaches}
use Rattle.index_graph.specs.Indices.{Has, Edge, Way, HasIndices, AreReached}
use Rattle.name_graph.specs.Rows.{Rows, AreDistinct, named, family_of, index_of, indices_of, edges_of, SomeNeeds}
use Rattle.index_graph.proofs.Lists.{at-within, at-there, at-same}
use Rattle.index_graph.proofs.Ways.{edge-way}

abbrev pub Row : Type 0
Row = String Global × List (List ℕ)

abbrev pub name : Row → List ℕ
name row = string_bytes row.0

tied : (a b : List ℕ) → eq_by_cmp name_cmp a b ≡ bytes_eq a b
tied a b = is_eq-slice_cmp a b

-- what stands in a list is contained in it
pub has-contains : {A : Type 0} (xs : List A) (x : A) → Has xs x → Contains xs x
has-contains xs x h = (h.0, at-within xs h.0 x h.1, get_or_from_slice_get xs h.0 x x h.1)

pub contains-has : {A : Type 0} (xs : List A) (x : A) → Contains xs x → Has xs x
contains-has xs x h = (h.0, slice_get-get_or xs h.0 x h.1 ∙ ap Some h.2)

-- what is found of some item
has-found : {A B : Type 0} (h : A → Option B) (xs : List A) (x : A) (y : B) → Has xs x → h x ≡ Some y → Has (filter_map h xs) y
has-found h [] x y (zero, e) f = cc
has-found h [] x y (suc i, e) f = cc
has-found {A} {B} h (z ∷ xs) x y (zero, e) f = let s : z ≡ x = cc in (0, ap (λ (o : Option B). slice_get (cons_option o (filter_map h xs)) 0) (ap h s ∙ f))
has-found {A} {B} h (z ∷ xs) x y (suc i, e) f = by (h z) (has-found h xs x y (i, e) f)
  where
    by : (o : Option B) → Has (filter_map h xs) y → Has (cons_option o (filter_map h xs)) y
    by None k = k
    by (Some w) k = (suc k.0, k.1)

found-has : {A B : Type 0} (h : A → Option B) (xs : List A) (y : B) → Has (filter_map h xs) y → (x : A) × Has xs x × (h x ≡ Some y)
found-has h [] y (zero, e) = cc
found-has h [] y (suc i, e) = cc
found-has {A} {B} h (z ∷ xs) y k = by (h z) refl (found-has h xs y) k
  where
    by : (o : Option B) → h z ≡ o → (Has (filter_map h xs) y → (x : A) × Has xs x × (h x ≡ Some y)) → Has (cons_option o (filter_map h xs)) y → (x : A) × Has (z ∷ xs) x × (h x ≡ Some y)
    by None q rest k = let r = rest k in (r.0, (suc (r.1).0, (r.1).1), r.2)
    by (Some v) q rest (zero, e) = let s : v ≡ y = cc in (z, (0, refl), q ∙ ap Some s)
    by (Some v) q rest (suc i, e) = let r = rest (i, e) in (r.0, (suc (r.1).0, (r.1).1), r.2)

-- the first row whose name passes
pub index-some : (rows : Rows) (q : List ℕ) (i : ℕ) → index_of rows q ≡ Some i → (row : Row) × (slice_get rows i ≡ Some row) × (name row ≡ q)
index-some [] q i h = cc
index-some (a ∷ rows) q i h =
    let p : String Global → Bool = λ key. bytes_eq q (string_bytes key) in
    let r = position-Some p (keys_of (a ∷ rows)) i a.0 h in
    let l : i < length (a ∷ rows) = omega (arith, r.0, length-map (a ∷ rows) (λ (e : Row). e.0)) in
    let e = at-there (a ∷ rows) i l in
    let g : get_or (keys_of (a ∷ rows)) i a.0 ≡ (e.0).0 = get_or_from_slice_get (keys_of (a ∷ rows)) i (e.0).0 a.0 (at-map (λ (z : Row). z.0) (a ∷ rows) i e.0 e.1) in
    (e.0, e.1, sym (same-text q (name e.0) (ap p (sym g) ∙ r.1)))

pub index-none : (rows : Rows) (q : List ℕ) → index_of rows q ≡ None → (i : ℕ) (row : Row) → slice_get rows i ≡ Some row → name row ≡ q → ⊥
index-none rows q h i row e n = by (nat_lt (position_or_len p (keys_of rows)) (length (keys_of rows))) refl
  where
    p : String Global → Bool
    p key = bytes_eq q (string_bytes key)

    by : (b : Bool) → nat_lt (position_or_len p (keys_of rows)) (length (keys_of rows)) ≡ b → ⊥
    by true t = let k : ◌≡◌ {A = Option ℕ} (Some (position_or_len p (keys_of rows))) None = sym (ap (λ (b : Bool). cond b (Some (position_or_len p (keys_of rows))) None) t) ∙ h in cc k
    by false t =
        let g : get_or (keys_of rows) i row.0 ≡ row.0 = get_or_from_slice_get (keys_of rows) i row.0 row.0 (at-map (λ (z : Row). z.0) rows i row e) in
        let f : p (get_or (keys_of rows) i row.0) ≡ false = fails_before_first p (keys_of rows) i row.0 (omega (arith, ltb-false (position_or_len p (keys_of rows)) (length (keys_of rows)) t, at-within rows i row e, length-map rows (λ (z : Row). z.0))) in
        let k : true ≡ false = sym (text-itself q (name row) (sym n)) ∙ sym (ap p g) ∙ f in
        cc k

-- no name stands twice
distinct-at : {K : Type 0} (eq : K → K → Bool) (ks : List K) → IsDistinct eq ks → (i j : ℕ) (a b : K) → slice_get ks i ≡ Some a → slice_get ks j ≡ Some b → i < j → eq a b ≡ false
unfolding IsDistinct
distinct-at eq [] d zero j a b e f l = cc
distinct-at eq [] d (suc i) j a b e f l = cc
distinct-at eq (x ∷ ks) d i zero a b e f l = absurd (omega arith)
distinct-at {K} eq (x ∷ ks) d zero (suc j) a b e f l =
    let s : x ≡ a = cc in
    let all : All (λ (y : K). eq x y ≡ false) ks = All-from_recursion (λ (y : K). eq x y ≡ false) ks d.0 in
    ap (λ z. eq z b) (sym s) ∙ ap (eq x) (sym (get_or_from_slice_get ks j b b f)) ∙ all j b (at-within ks j b f)
distinct-at eq (x ∷ ks) d (suc i) (suc j) a b e f l = distinct-at eq ks d.1 i j a b e f (omega arith)

order-of : (i j : ℕ) → (i < j) ⊎ (i ≡ j) ⊎ (j < i)
order-of zero zero = inr (inl refl)
order-of zero (suc j) = inl (omega arith)
order-of (suc i) zero = inr (inr (omega arith))
order-of (suc i) (suc j) = elim (order-of i j) as (λ _. (suc i < suc j) ⊎ (suc i ≡ suc j) ⊎ (suc j < suc i)) [
  | inl l ↦ inl (omega arith)
  | inr r ↦ elim r as (λ _. (suc i < suc j) ⊎ (suc i ≡ suc j) ⊎ (suc j < suc i)) [ inl e ↦ inr (inl (ap suc e)) | inr g ↦ inr (inr (omega arith)) ]
]

pub distinct-rows : (rows : Rows) → IsDistinct string_eq (keys_of rows) → AreDistinct rows
distinct-rows rows d i j a b e f n = elim (order-of i j) as (λ _. i ≡ j) [
  | inl l ↦ absurd (apart i j a b e f n l)
  | inr r ↦ elim r as (λ _. i ≡ j) [ inl s ↦ s | inr g ↦ absurd (apart j i b a f e (sym n) g) ]
]
  where
    apart : (i j : ℕ) (a b : Row) → slice_get rows i ≡ Some a → slice_get rows j ≡ Some b → name a ≡ name b → i < j → ⊥
    apart i j a b e f n l =
        let q : string_eq a.0 b.0 ≡ false = distinct-at string_eq (keys_of rows) d i j a.0 b.0 (at-map (λ (z : Row). z.0) rows i a e) (at-map (λ (z : Row). z.0) rows j b f) l in
        let k : true ≡ false = sym (text-itself (name a) (name b) n) ∙ q in
        cc k

-- what the family has of a name
find-there : (rows : Rows) → AreDistinct rows → (i : ℕ) (row : Row) → slice_get rows i ≡ Some row → find name_cmp (name row) (named rows) ≡ Some row.1
find-there [] d zero row e = cc
find-there [] d (suc i) row e = cc
find-there (z ∷ rows) d zero row e =
    let s : z ≡ row = cc in
    ap (λ b. cond b (Some z.1) (find name_cmp (name row) (named rows))) (tied (name row) (name z) ∙ text-itself (name row) (name z) (ap name (sym s))) ∙ ap (λ (r : Row). Some r.1) s
find-there (z ∷ rows) d (suc i) row e = by (eq_by_cmp name_cmp (name row) (name z)) refl (find-there rows (λ a b x y f g n. let k : suc a ≡ suc b = d (suc a) (suc b) x y f g n in cc k) i row e)
  where
    by : (b : Bool) → eq_by_cmp name_cmp (name row) (name z) ≡ b → find name_cmp (name row) (named rows) ≡ Some row.1 → cond b (Some z.1) (find name_cmp (name row) (named rows)) ≡ Some row.1
    by true t rest = let k : suc i ≡ zero = d (suc i) zero row z e refl (same-text (name row) (name z) (sym (tied (name row) (name z)) ∙ t)) in cc k
    by false t rest = rest

find-some : (rows : Rows) (q : List ℕ) (needs : List (List ℕ)) → find name_cmp q (named rows) ≡ Some needs → (i : ℕ) × (row : Row) × (slice_get rows i ≡ Some row) × (name row ≡ q) × (row.1 ≡ needs)
find-some [] q needs h = cc
find-some (z ∷ rows) q needs h = by (eq_by_cmp name_cmp q (name z)) refl (find-some rows q needs) h
  where
    by : (b : Bool) → eq_by_cmp name_cmp q (name z) ≡ b
        → (find name_cmp q (named rows) ≡ Some needs → (i : ℕ) × (row : Row) × (slice_get rows i ≡ Some row) × (name row ≡ q) × (row.1 ≡ needs))
        → cond b (Some z.1) (find name_cmp q (named rows)) ≡ Some needs → (i : ℕ) × (row : Row) × (slice_get (z ∷ rows) i ≡ Some row) × (name row ≡ q) × (row.1 ≡ needs)
    by true t rest e = (0, z, refl, sym (same-text q (name z) (sym (tied q (name z)) ∙ t)), cc)
    by false t rest e = let r = rest e in (suc r.0, r.1, r.2, r.3, r.4)

pub family-there : (rows : Rows) → AreDistinct rows → (i : ℕ) (row : Row) → slice_get rows i ≡ Some row → get (family_of rows) (name row) ≡ Some row.1
family-there rows d i row e = get-from_entries nat_list_cmp_total (named rows) (name row) ∙ find-there rows d i row e

pub family-some : (rows : Rows) (q : List ℕ) (needs : List (List ℕ)) → get (family_of rows) q ≡ Some needs → (i : ℕ) × (row : Row) × (slice_get rows i ≡ Some row) × (name row ≡ q) × (row.1 ≡ needs)
family-some rows q needs h = find-some rows q needs (sym (get-from_entries nat_list_cmp_total (named rows) q) ∙ h)

-- a name that needs another stands in a row
pub needs-row : (rows : Rows) (q need : List ℕ) → Needs (family_of rows) q need → (i : ℕ) × (row : Row) × (slice_get rows i ≡ Some row) × (name row ≡ q) × Contains row.1 need
needs-row rows q need h = by (get (family_of rows) q) refl h
  where
    by : (o : Option (List (List ℕ))) → get (family_of rows) q ≡ o → Contains (unwrap_or o []) need → (i : ℕ) × (row : Row) × (slice_get rows i ≡ Some row) × (name row ≡ q) × Contains row.1 need
    by None t c = let l : c.0 < 0 = c.1 in absurd (omega arith)
    by (Some needs) t c = let r = family-some rows q needs t in (r.0, r.1, r.2, r.3, subst (λ ns. Contains ns need) (sym r.4) c)

module _ (rows : Rows) (d : AreDistinct rows) where
  pub row-needs : (i : ℕ) (row : Row) (need : List ℕ) → slice_get rows i ≡ Some row → Contains row.1 need → Needs (family_of rows) (name row) need
  row-needs i row need e c = subst (λ (o : Option (List (List ℕ))). Contains (unwrap_or o []) need) (sym (family-there rows d i row e)) c

  pub edge-needs : (i j : ℕ) (a b : Row) → slice_get rows i ≡ Some a → slice_get rows j ≡ Some b → Edge (edges_of rows) i j → Contains a.1 (name b)
  edge-needs i j a b e f g =
      let r = at-mapped (λ (row : Row). indices_of rows row.1) rows i g.0 g.1 in
      let same : r.0 ≡ a = at-same rows i r.0 a r.1 e in
      let h : Has (indices_of rows a.1) j = subst (λ z. Has z j) (sym r.2 ∙ ap (λ (row : Row). indices_of rows row.1) same) g.2 in
      let q = found-has (index_of rows) a.1 j h in
      let p = index-some rows q.0 j q.2 in
      let s : p.0 ≡ b = at-same rows j p.0 b p.1 f in
      subst (Contains a.1) (sym p.2 ∙ ap name s) (has-contains a.1 q.0 q.1)

  pub needs-edge : (i j : ℕ) (a b : Row) → slice_get rows i ≡ Some a → slice_get rows j ≡ Some b → Contains a.1 (name b) → Edge (edges_of rows) i j
  needs-edge i j a b e f c = by (index_of rows (name b)) refl
    where
      by : (o : Option ℕ) → index_of rows (name b) ≡ o → Edge (edges_of rows) i j
      by None t = absurd (index-none rows (name b) t j b f refl)
      by (Some k) t =
          let p = index-some rows (name b) k t in
          let same : k ≡ j = d k j p.0 b p.1 f p.2 in
          (indices_of rows a.1, at-map (λ (row : Row). indices_of rows row.1) rows i a e, has-found (index_of rows) a.1 (name b) j (contains-has a.1 (name b) c) (t ∙ ap Some same))

  pub edges-indices : HasIndices (edges_of rows)
  edges-indices i j g =
      let r = at-mapped (λ (row : Row). indices_of rows row.1) rows i g.0 g.1 in
      let h : Has (indices_of rows (r.0).1) j = subst (λ z. Has z j) (sym r.2) g.2 in
      let q = found-has (index_of rows) (r.0).1 j h in
      let p = index-some rows q.0 j q.2 in
      omega (arith, at-within rows j p.0 p.1, length-map rows (λ (row : Row). indices_of rows row.1))

  pub row-at : (i j : ℕ) → Edge (edges_of rows) i j → (row : Row) × (slice_get rows j ≡ Some row)
  row-at i j g = at-there rows j (omega (arith, edges-indices i j g, length-map rows (λ (row : Row). indices_of rows row.1)))

  -- steps between indices are needs between their names
  pub steps-reach : (i k : ℕ) (a c : Row) (need : List ℕ) → slice_get rows i ≡ Some a → slice_get rows k ≡ Some c → Leads (Edge (edges_of rows)) i k → Contains c.1 need → Reaches (family_of rows) (name a) need
  steps-reach i k a c need e f (last g) h = more (row-needs i a (name c) e (edge-needs i k a c e f g)) (last (row-needs k c need f h))
  steps-reach i k a c need e f (more {b = m} g l) h = let r = row-at i m g in more (row-needs i a (name r.0) e (edge-needs i m a r.0 e r.1 g)) (steps-reach m k r.0 c need r.1 f l h)

  pub way-reach : (i k : ℕ) (a c : Row) (need : List ℕ) → slice_get rows i ≡ Some a → slice_get rows k ≡ Some c → Way (edges_of rows) i k → Contains c.1 need → Reaches (family_of rows) (name a) need
  way-reach i k a c need e f (inl same) h =
      let s : a ≡ c = at-same rows k a c (ap (slice_get rows) (sym same) ∙ e) f in
      last (subst (λ (row : Row). Needs (family_of rows) (name row) need) (sym s) (row-needs k c need f h))
  way-reach i k a c need e f (inr l) h = steps-reach i k a c need e f l h

  -- and the other way round
  pub record Found (i : ℕ) (need : List ℕ) : Type 0 where
    pub index : ℕ
    pub row : Row
    pub way : Way (edges_of rows) i index
    pub stands : slice_get rows index ≡ Some row
    pub needs : Contains row.1 need

  pub first-row : {q need : List ℕ} → Reaches (family_of rows) q need → (i : ℕ) × (row : Row) × (slice_get rows i ≡ Some row) × (name row ≡ q)
  first-row (last n) = let r = needs-row rows _ _ n in (r.0, r.1, r.2, r.3)
  first-row (more n l) = let r = needs-row rows _ _ n in (r.0, r.1, r.2, r.3)

  pub reach-way : {q need : List ℕ} → Reaches (family_of rows) q need → (i : ℕ) (a : Row) → slice_get rows i ≡ Some a → name a ≡ q → Found i need
  reach-way {q} {need} (last n) i a e s =
      let r = needs-row rows q need n in
      let same : r.0 ≡ i = d r.0 i r.1 a r.2 e (r.3 ∙ sym s) in
      record { index = i; row = r.1; way = inl refl; stands = ap (slice_get rows) (sym same) ∙ r.2; needs = r.4 }
  reach-way {q} {need} (more {b = m} n l) i a e s =
      let r = needs-row rows q m n in
      let same : r.0 ≡ i = d r.0 i r.1 a r.2 e (r.3 ∙ sym s) in
      let f = first-row l in
      let g : Edge (edges_of rows) i f.0 = needs-edge i f.0 r.1 f.1 (ap (slice_get rows) (sym same) ∙ r.2) f.2 (subst (Contains (r.1).1) (sym f.3) r.4) in
      let w = reach-way l f.0 f.1 f.2 f.3 in
      record { index = w.index; row = w.row; way = inr (edge-way (edges_of rows) i f.0 w.index g w.way); stands = w.stands; needs = w.needs }

  -- the answer of a search
  pub found-reaches : (i : ℕ) (a : Row) (seen : List Bool) (need : List ℕ) → slice_get rows i ≡ Some a → AreReached (edges_of rows) i seen → SomeNeeds rows seen need → Reaches (family_of rows) (name a) need
  found-reaches i a seen need e r s = way-reach i s.index a s.row need e s.stands (r.sound s.index s.marked) s.needs

  pub reaches-found : (i : ℕ) (a : Row) (seen : List Bool) (need : List ℕ) → slice_get rows i ≡ Some a → AreReached (edges_of rows) i seen → Reaches (family_of rows) (name a) need → SomeNeeds rows seen need
  reaches-found i a seen need e r l = let f = reach-way l i a e refl in record { index = f.index; row = f.row; marked = r.all f.index f.way; stands = f.stands; needs = f.needs }

pub absent-reaches : (rows : Rows) (q need : List ℕ) → index_of rows q ≡ None → Reaches (family_of rows) q need → ⊥
absent-reaches rows q need h (last n) = let r = needs-row rows _ _ n in index-none rows q h r.0 r.1 r.2 r.3
absent-reaches rows q need h (more n l) = let r = needs-row rows _ _ n in index-none rows q h r.0 r.1 r.2 r.3

pub needs-here : (rows : Rows) (seen : List Bool) (k : ℕ) (needs : List (List ℕ)) (q : List ℕ) → slice_get seen k ≡ Some true → slice_get (map (λ (row : Row). row.1) rows) k ≡ Some needs → list_any (bytes_eq q) needs ≡ true → SomeNeeds rows seen q
needs-here rows seen k needs q m e h =
    let r = at-mapped (λ (row : Row). row.1) rows k needs e in
    record { index = k; row = r.0; marked = m; stands = r.1; needs = any-contains (r.0).1 q (ap (list_any (bytes_eq q)) r.2 ∙ h) }

pub needs-not : (rows : Rows) (k : ℕ) (needs : List (List ℕ)) (q : List ℕ) → slice_get (map (λ (row : Row). row.1) rows) k ≡ Some needs → list_any (bytes_eq q) needs ≡ false → (row : Row) → slice_get rows k ≡ Some row → Contains row.1 q → ⊥
needs-not rows k needs q e h row f c =
    let r = at-mapped (λ (row : Row). row.1) rows k needs e in
    let same : r.0 ≡ row = at-same rows k r.0 row r.1 f in
    let t : true ≡ false = sym (contains-any row.1 q c) ∙ ap (list_any (bytes_eq q)) (sym (ap (λ (z : Row). z.1) same) ∙ r.2) ∙ h in
    cc t

-- indices and edges that grow by one
pub indices-skip : (rows : Rows) (names : List (List ℕ)) (k : ℕ) (n : List ℕ) → k < length names → get_or names k n ≡ n → index_of rows n ≡ None → indices_of rows (take k names) ≡ indices_of rows (take (k + 1) names)
indices-skip rows names k n l g e =
    sym (ap (indices_of rows) (take_more names k n l ∙ ap (λ z. take k names ++ z ∷ []) g) ∙ filter_map-append (index_of rows) (take k names) (n ∷ []) ∙ ap (λ (o : Option ℕ). indices_of rows (take k names) ++ cons_option o []) e ∙ nothing (indices_of rows (take k names)))
  where
    nothing : (xs : List ℕ) → xs ++ [] ≡ xs
    nothing [] = refl
    nothing (x ∷ xs) = ap (λ ys. x ∷ ys) (nothing xs)

pub indices-more : (rows : Rows) (names : List (List ℕ)) (k i : ℕ) (n : List ℕ) → k < length names → get_or names k n ≡ n → index_of rows n ≡ Some i → indices_of rows (take k names) ++ i ∷ [] ≡ indices_of rows (take (k + 1) names)
indices-more rows names k i n l g e =
    sym (ap (indices_of rows) (take_more names k n l ∙ ap (λ z. take k names ++ z ∷ []) g) ∙ filter_map-append (index_of rows) (take k names) (n ∷ []) ∙ ap (λ (o : Option ℕ). indices_of rows (take k names) ++ cons_option o []) e)

pub map-pushed : {A B : Type 0} (f : A → B) (xs : List A) (x : A) → map f (xs ++ x ∷ []) ≡ map f xs ++ f x ∷ []
map-pushed f [] x = refl
map-pushed f (y ∷ xs) x = ap (λ ys. f y ∷ ys) (map-pushed f xs x)

pub edges-more : (rows all : Rows) (k : ℕ) (needs : List (List ℕ)) → slice_get (map (λ (row : Row). row.1) rows) k ≡ Some needs → map (λ (row : Row). indices_of all row.1) (take k rows) ++ indices_of all needs ∷ [] ≡ map (λ (row : Row). indices_of all row.1) (take (k + 1) rows)
edges-more rows all k needs h =
    let r = at-mapped (λ (row : Row). row.1) rows k needs h in
    ap (λ z. map (λ (row : Row). indices_of all row.1) (take k rows) ++ indices_of all z ∷ []) (sym r.2)
    ∙ sym (map-pushed (λ (row : Row). indices_of all row.1) (take k rows) r.0)
    ∙ ap (map (λ (row : Row). indices_of all row.1)) (sym (take_more rows k r.0 (at-within rows k r.0 r.1) ∙ ap (λ z. take k rows ++ z ∷ []) (get_or_from_slice_get rows k r.0 r.0 r.1)))

pub edges-step : (rows : Rows) (k : ℕ) (old new : List (List ℕ)) (now : List ℕ) (needs : List (List ℕ)) → new ≡ old ++ now ∷ [] → now ≡ indices_of rows needs → old ≡ map (λ (row : Row). indices_of rows row.1) (take k rows) → slice_get (map (λ (row : Row). row.1) rows) k ≡ Some needs → new ≡ map (λ (row : Row). indices_of rows row.1) (take (k + 1) rows)
edges-step rows k old new now needs e p o h = e ∙ ap (λ z. z ++ now ∷ []) o ∙ ap (λ z. map (λ (row : Row). indices_of rows row.1) (take k rows) ++ z ∷ []) p ∙ edges-more rows rows k needs h

-- the family after a name was put
put-find : (rows : Rows) (key : String Global) (needs : List (List ℕ)) (q : List ℕ) → find name_cmp q (named (insert_entry string_eq rows key needs)) ≡ cond (eq_by_cmp name_cmp q (string_bytes key)) (Some needs) (find name_cmp q (named rows))
put-find [] key needs q = refl
put-find (z ∷ rows) key needs q = by (string_eq key z.0) refl (put-find rows key needs q)
  where
    shadowed : {A : Type 0} (b : Bool) (u v w : A) → cond b u w ≡ cond b u (cond b v w)
    shadowed true u v w = refl
    shadowed false u v w = refl

    swapped : {A : Type 0} (a b : Bool) (u v w : A) → (a ≡ true → b ≡ true → ⊥) → cond a u (cond b v w) ≡ cond b v (cond a u w)
    swapped true true u v w h = absurd (h refl refl)
    swapped true false u v w h = refl
    swapped false b u v w h = refl

    rest : Option (List (List ℕ))
    rest = find name_cmp q (named rows)

    by : (b : Bool) → string_eq key z.0 ≡ b → find name_cmp q (named (insert_entry string_eq rows key needs)) ≡ cond (eq_by_cmp name_cmp q (string_bytes key)) (Some needs) rest → find name_cmp q (named (cond b ((z.0, needs) ∷ rows) (z ∷ insert_entry string_eq rows key needs))) ≡ cond (eq_by_cmp name_cmp q (string_bytes key)) (Some needs) (cond (eq_by_cmp name_cmp q (name z)) (Some z.1) rest)
    by true t grown =
        let same : string_bytes key ≡ name z = same-text (string_bytes key) (name z) t in
        shadowed (eq_by_cmp name_cmp q (name z)) (Some needs) (Some z.1) rest ∙ ap (λ n. cond (eq_by_cmp name_cmp q n) (Some needs) (cond (eq_by_cmp name_cmp q (name z)) (Some z.1) rest)) (sym same)
    by false t grown =
        ap (cond (eq_by_cmp name_cmp q (name z)) (Some z.1)) grown
        ∙ swapped (eq_by_cmp name_cmp q (name z)) (eq_by_cmp name_cmp q (string_bytes key)) (Some z.1) (Some needs) rest
        (λ a b.
        let here : q ≡ name z = same-text q (name z) (sym (tied q (name z)) ∙ a) in
        let there : q ≡ string_bytes key = same-text q (string_bytes key) (sym (tied q (string_bytes key)) ∙ b) in
        let k : true ≡ false = sym (text-itself (string_bytes key) (name z) (sym there ∙ here)) ∙ t in
        cc k)

pub family-put : (rows : Rows) (key : String Global) (needs : List (List ℕ)) → family_of (insert_entry string_eq rows key needs) ≡ insert (family_of rows) (string_bytes key) needs
family-put rows key needs = same_map nat_list_cmp_total (slice_cmp-IsAntisymmetric nat_cmp-IsAntisymmetric) (family_of (insert_entry string_eq rows key needs)) (insert (family_of rows) (string_bytes key) needs) (λ q.
    get-from_entries nat_list_cmp_total (named (insert_entry string_eq rows key needs)) q ∙ put-find rows key needs q
    ∙ ap (cond (eq_by_cmp name_cmp q (string_bytes key)) (Some needs)) (sym (get-from_entries nat_list_cmp_total (named rows) q))
    ∙ sym (get-insert nat_list_cmp_total (family_of rows) (string_bytes key) needs q))
