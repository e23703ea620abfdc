-- A need that leads back to an open index joins the groups from there on.
use Rattle.std.proofs.Common.{◌≡◌, ℕ, ◌<◌, ◌≤◌, true, false, List, [], ◌∷◌, ◌++◌, Some, refl, sym, ap, ◌∙◌, subst, inl, inr, take, length, arith}
use Rattle.std.specs.Prelude.{◌⊎◌, slice_get}
use Rattle.std.proofs.lemmas.List.{length-append, length-take}
use Rattle.list_laws.proofs.Tests.{same-or-other}
use Rattle.index_graph.specs.declared.components.Mark.{Mark}
use Rattle.index_graph.specs.declared.components.Group.{Group}
use Rattle.index_graph.specs.Indices.{Edges, Edge, Way}
use Rattle.index_graph.specs.SearchState.{InGroup, Followed, left, closed, pending, ahead, IsOwned, AreParted, AreOpen, IsWalk}
use Rattle.index_graph.proofs.Lists.{at-within, at-there, at-same, at-left, at-one, at-last, at-pushed, at-taken, at-take}
use Rattle.index_graph.proofs.Walking.{cases, less-or, GroupOf, group-of, to-last}
use Rattle.index_graph.proofs.Ways.{edge-way, way-leads, way-way, way-edge}

module _ (edges : Edges) (marks : List Mark) (path todo : List ℕ) (groups : List Group) (order cyclic numbers : List ℕ) (need : ℕ) (w : IsWalk edges (need ∷ []) marks path todo groups order cyclic numbers)
    (b : ℕ) (m : slice_get marks need ≡ Some (Mark.Open b)) (i0 index : ℕ) (at0 : slice_get path i0 ≡ Some index) (d0 : Edge edges index need) (last0 : (r : ℕ) (group : Group) → slice_get groups r ≡ Some group → group.first ≤ i0)
    (q : ℕ) (held : Group) (h0 : InGroup groups q held b) where
  one : Group
  one = record held { cyclic = true }

  some : 0 < length groups
  some = let l : q < length groups = at-within groups q held h0.stands in omega arith

  here : slice_get path b ≡ Some need
  here = let k = w.marked in k.open_there need b m

  front : length (take q groups) ≡ q
  front = let l : q < length groups = at-within groups q held h0.stands in omega (arith, length-take q groups)

  -- an earlier group, or the one that was joined
  stands-joined : (r : ℕ) (group : Group) → slice_get (take q groups ++ one ∷ []) r ≡ Some group → (slice_get groups r ≡ Some group × (r < q)) ⊎ ((r ≡ q) × (one ≡ group))
  stands-joined r group f = cases (at-pushed (take q groups) one r group f) (λ before. inl (at-taken q groups r group before)) (λ end. inr (end.0 ∙ front, end.1))

  at-joined : slice_get (take q groups ++ one ∷ []) q ≡ Some one
  at-joined = ap (slice_get (take q groups ++ one ∷ [])) (sym front) ∙ at-last (take q groups) one

  at-before : (r : ℕ) (group : Group) → r < q → slice_get groups r ≡ Some group → slice_get (take q groups ++ one ∷ []) r ≡ Some group
  at-before r group l f = at-left (take q groups) (one ∷ []) r group (at-take q groups r group l f)

  in-joined : (r : ℕ) (group : Group) (i : ℕ) → InGroup (take q groups ++ one ∷ []) r group i → (InGroup groups r group i × (r < q) × (i < held.first)) ⊎ ((one ≡ group) × (held.first ≤ i))
  unfolding one
  in-joined r group i h = cases (stands-joined r group h.stands)
      (λ before.
      let under : i < held.first = h.ends q one before.1 at-joined in
      inl (
        record {
          stands = before.0;
          begun = h.begun;
          ends = λ s other l f. cases (less-or s q)
              (λ k. h.ends s other l (at-before s other k f))
              (λ k. cases (same-or-other s q) (λ same. let z : other ≡ held = at-same groups q other held (ap (slice_get groups) (sym same) ∙ f) h0.stands in subst (λ (g : Group). i < g.first) (sym z) under)
              (λ n. let p = w.parted in let z = p.rising q s held other (omega (arith, k, n)) h0.stands f in let y : held.first < other.first = z.0 in omega arith));
        },
        before.1,
        under,
      ))
      (λ end. inr (end.1, subst (λ (g : Group). g.first ≤ i) (sym end.1) h.begun))

  -- from each open index to the one that the need leads back to
  to-here : (i x : ℕ) → slice_get path i ≡ Some x → Way edges x index
  to-here i x f = to-last edges (need ∷ []) path todo groups order w.parted w.opened i i0 x index f at0 last0 some

  onto : (i x : ℕ) → slice_get path i ≡ Some x → held.first ≤ i → Way edges need x
  onto i x f l =
      let o = w.opened in
      let p = w.parted in
      let g : (z : ℕ) × (slice_get path held.first ≡ Some z) = at-there path held.first (let k = p.within q held h0.stands in k.0) in
      way-way edges need g.0 x (o.back q held b need g.0 h0 here g.1) (o.onward held.first i g.0 x g.1 f l)

  parted-joined : AreParted path todo (take q groups ++ one ∷ [])
  unfolding one
  parted-joined = let p = w.parted in record {
    base = λ group f. cases (stands-joined 0 group f) (λ before. p.base group before.0) (λ end. subst (λ (g : Group). (g.first ≡ 0) × (g.pending ≡ 0)) end.1 (p.base held (ap (slice_get groups) end.0 ∙ h0.stands)));
    none = λ z. absurd (omega (arith, z, length-append (take q groups) (one ∷ [])));
    within = λ r group f. cases (stands-joined r group f) (λ before. p.within r group before.0) (λ end. subst (λ (g : Group). (g.first < length path) × (g.pending ≤ length todo)) end.1 (p.within q held h0.stands));
    rising = λ r s group other l f g. cases (stands-joined s other g)
        (λ before. p.rising r s group other l (cases (stands-joined r group f) (λ k. k.0) (λ end. let z : r ≡ q = end.0 in let y : s < q = before.1 in absurd (omega arith))) before.0)
        (λ end.
        let k : slice_get groups r ≡ Some group = cases (stands-joined r group f) (λ z. z.0) (λ z. let y : r ≡ q = z.0 in let x : s ≡ q = end.0 in absurd (omega arith)) in
        subst (λ (g : Group). (group.first < g.first) × (group.pending ≤ g.pending)) end.1 (p.rising r q group held (let x : s ≡ q = end.0 in omega arith) k h0.stands));
  }

  -- what became of a need, seen from a group that holds more
  follow-before : (group : Group) (i j : ℕ) → i < held.first → group.first < held.first → Followed (need ∷ []) path todo order group i j → Followed [] path todo order group i j
  follow-before group i j l k (left (z, f)) = let y : held.first ≤ b = h0.begun in ahead b (here ∙ ap Some ((at-one need z j f).1)) (omega arith) (λ n. omega arith)
  follow-before group i j l k (closed h) = closed h
  follow-before group i j l k (pending u f n) = pending u f n
  follow-before group i j l k (ahead c f n t) = ahead c f n t

  follow-joined : (group : Group) (i j : ℕ) → held.first ≤ group.first → held.pending ≤ group.pending → Followed (need ∷ []) path todo order group i j → Followed [] path todo order one i j
  unfolding one
  follow-joined group i j l k (left (z, f)) = ahead b (here ∙ ap Some ((at-one need z j f).1)) h0.begun (λ n. cc n)
  follow-joined group i j l k (closed h) = closed h
  follow-joined group i j l k (pending u f n) = pending u f (omega arith)
  follow-joined group i j l k (ahead c f n t) = ahead c f (omega arith) (λ n. cc n)

  -- the group in which an open index was, at the joined one or behind it
  behind-joined : (i : ℕ) → held.first ≤ i → (g : GroupOf groups i) × (held.first ≤ (g.group).first) × (held.pending ≤ (g.group).pending)
  behind-joined i l =
      let p = w.parted in
      let g = group-of path todo groups p i some in
      let h = g.holds in
      cases (less-or g.r q)
      (λ k. let z : i < held.first = h.ends q held k h0.stands in absurd (omega arith))
      (λ k. cases (same-or-other g.r q)
      (λ same. let z : held ≡ g.group = at-same groups q held g.group h0.stands (ap (slice_get groups) (sym same) ∙ h.stands) in (g, subst (λ (y : Group). held.first ≤ y.first) z (omega arith), subst (λ (y : Group). held.pending ≤ y.pending) z (omega arith)))
      (λ n. let y = p.rising q g.r held g.group (omega (arith, k, n)) h0.stands h.stands in let a : held.first < (g.group).first = y.0 in (g, omega arith, y.1)))

  own-joined : (u j : ℕ) → IsOwned edges path groups u j → IsOwned edges path (take q groups ++ one ∷ []) u j
  unfolding one
  own-joined u j o = record {
    i = o.i;
    index = o.index;
    stands = o.stands;
    needs = o.needs;
    behind = λ r group f n. cases (stands-joined r group f) (λ before. o.behind r group before.0 n) (λ end. subst (λ (g : Group). g.first ≤ o.i) end.1 (o.behind q held h0.stands (subst (λ (g : Group). g.pending ≤ u) (sym end.1) n)));
    before = λ r group f n. cases (stands-joined r group f) (λ k. o.before r group k.0 n) (λ end. subst (λ (g : Group). o.i < g.first) end.1 (o.before q held h0.stands (subst (λ (g : Group). u < g.pending) (sym end.1) n)));
  }

  opened-joined : AreOpen edges [] path todo (take q groups ++ one ∷ []) order
  unfolding one
  opened-joined = let o = w.opened in record {
    onward = o.onward;
    back = λ r group i x y h f g. cases (in-joined r group i h)
        (λ k. o.back r group i x y k.0 f g)
        (λ k. way-way edges x index y (to-here i x f) (way-way edges index need y (way-edge edges index index need (inl refl) d0) (onto group.first y g (let z : held.first ≡ group.first = ap (λ (z : Group). z.first) k.0 in omega arith))));
    alone = λ r group i h l n. cases (in-joined r group i h) (λ k. o.alone r group i k.0 l n) (λ k. let z : true ≡ false = ap (λ (z : Group). z.cyclic) k.0 ∙ n in cc z);
    loops = λ r group i x h f n. cases (in-joined r group i h) (λ k. o.loops r group i x k.0 f n) (λ k. way-leads edges x index x (to-here i x f) (edge-way edges index need x d0 (onto i x f k.1)));
    follows = λ r group i x j h f d. cases (in-joined r group i h)
        (λ k.
        let p = w.parted in
        let y = p.rising r q group held k.1 (let z = k.0 in z.stands) h0.stands in
        follow-before group i j k.2 y.0 (o.follows r group i x j k.0 f d))
        (λ k. let g = behind-joined i k.1 in subst (λ (z : Group). Followed [] path todo order z i j) k.0 (follow-joined (g.0).group i j g.1 g.2 (o.follows (g.0).r (g.0).group i x j (g.0).holds f d)));
    owned = λ u j f. own-joined u j (o.owned u j f);
  }

  walk-one : IsWalk edges [] marks path todo (take q groups ++ one ∷ []) order cyclic numbers
  walk-one = record { long = w.long; marked = w.marked; parted = parted-joined; opened = opened-joined; shut = w.shut; numbered = w.numbered }

  pub walk-joined-at : IsWalk edges [] marks path todo (take q groups ++ record held { cyclic = true } ∷ []) order cyclic numbers
  unfolding one
  walk-joined-at = walk-one
