-- What is known of a walk after each of its moves.
use Rattle.std.proofs.Common.{◌≡◌, ◌≢◌, ℕ, zero, suc, ◌+◌, ◌<◌, ◌≤◌, true, false, List, [], ◌∷◌, ◌++◌, Some, sym, ap, ◌∙◌, subst, inl, inr, length, arith}
use Rattle.std.specs.Prelude.{◌⊎◌, slice_get, slice_set}
use Rattle.std.proofs.lemmas.List.{length-set, length-append}
use Rattle.list_laws.proofs.Tests.{same-or-other}
use Rattle.index_graph.specs.declared.components.Mark.{Mark}
use Rattle.index_graph.specs.declared.components.Group.{Group}
use Rattle.index_graph.specs.Indices.{Has, Edges, Way}
use Rattle.index_graph.specs.SearchState.{InGroup, Followed, left, closed, pending, ahead, IsOwned, AreMarked, AreParted, AreOpen, IsWalk}
use Rattle.index_graph.proofs.Lists.{at-within, at-there, at-same, at-left, at-right, at-either, at-one, at-last, at-pushed, at-set-same, at-set-other}
use Rattle.index_graph.proofs.Ways.{way-way}

pub cases : {A B C : Type 0} → A ⊎ B → (A → C) → (B → C) → C
cases (inl a) f g = f a
cases (inr b) f g = g b

pub new-open : (i : ℕ) → ◌≡◌ {A = Mark} Mark.New (Mark.Open i) → ⊥
new-open i e = cc

pub new-closed : ◌≡◌ {A = Mark} Mark.New Mark.Closed → ⊥
new-closed e = cc

pub open-closed : (i : ℕ) → ◌≡◌ {A = Mark} (Mark.Open i) Mark.Closed → ⊥
open-closed i e = cc

pub open-open : (i j : ℕ) → ◌≡◌ {A = Mark} (Mark.Open i) (Mark.Open j) → i ≡ j
open-open i j e = cc

-- the first index is open before all others
pub less-or : (i j : ℕ) → (i < j) ⊎ (j ≤ i)
less-or i zero = inr (omega arith)
less-or zero (suc j) = inl (omega arith)
less-or (suc i) (suc j) = cases (less-or i j) (λ l. inl (omega arith)) (λ l. inr (omega arith))

-- the group of an open index
pub record GroupOf (groups : List Group) (i : ℕ) : Type 0 where
  pub r : ℕ
  pub group : Group
  pub holds : InGroup groups r group i

group-below : (groups : List Group) (i n : ℕ) → n ≤ length groups → ((group : Group) → slice_get groups 0 ≡ Some group → group.first ≤ i) → ((s : ℕ) (other : Group) → n ≤ s → slice_get groups s ≡ Some other → i < other.first) → 0 < length groups → GroupOf groups i
group-below groups i zero l base above some = let g = at-there groups 0 some in let a : i < (g.0).first = above 0 g.0 (omega arith) g.1 in let b : (g.0).first ≤ i = base g.0 g.1 in absurd (omega arith)
group-below groups i (suc n) l base above some =
    let g = at-there groups n (omega arith) in
    cases (less-or i (g.0).first)
    (λ a. group-below groups i n (omega arith) base (λ s other k e. cases (less-or n s) (λ m. above s other (omega arith) e) (λ m. let same : s ≡ n = omega arith in let q : other ≡ g.0 = at-same groups n other g.0 (ap (slice_get groups) (sym same) ∙ e) g.1 in subst (λ (h : Group). i < h.first) (sym q) a)) some)
    (λ b. record { r = n; group = g.0; holds = record { stands = g.1; begun = b; ends = λ s other k e. above s other (omega arith) e } })

pub group-of : (path todo : List ℕ) (groups : List Group) → AreParted path todo groups → (i : ℕ) → 0 < length groups → GroupOf groups i
group-of path todo groups p i some = group-below groups i (length groups) (omega arith) (λ group e. let b = p.base group e in let z : group.first ≡ 0 = b.0 in omega arith) (λ s other k e. let l : s < length groups = at-within groups s other e in absurd (omega arith)) some

-- from each open index steps lead to each of the last group
pub to-last : (edges : Edges) (loose path todo : List ℕ) (groups : List Group) (order : List ℕ) → AreParted path todo groups → AreOpen edges loose path todo groups order → (a i x y : ℕ) → slice_get path a ≡ Some x → slice_get path i ≡ Some y → ((r : ℕ) (group : Group) → slice_get groups r ≡ Some group → group.first ≤ i) → 0 < length groups → Way edges x y
to-last edges loose path todo groups order p o a i x y e f top some = cases (less-or i a)
    (λ l.
    let q = group-of path todo groups p a some in
    let h = q.holds in
    let g : (z : ℕ) × (slice_get path (q.group).first ≡ Some z) = at-there path (q.group).first (let w = p.within q.r q.group h.stands in w.0) in
    way-way edges x g.0 y (o.back q.r q.group a x g.0 h e g.1) (o.onward (q.group).first i g.0 y g.1 f (top q.r q.group h.stands)))
    (λ l. o.onward a i x y e f l)

module _ (edges : Edges) (marks : List Mark) (path todo : List ℕ) (groups : List Group) (order cyclic numbers : List ℕ) where
  -- other needs are loose, and all that were followed are so still
  walk-over : (loose loose' : List ℕ) → ((group : Group) (i j : ℕ) → Followed loose path todo order group i j → Followed loose' path todo order group i j) → IsWalk edges loose marks path todo groups order cyclic numbers → IsWalk edges loose' marks path todo groups order cyclic numbers
  walk-over loose loose' again w = record {
    long = w.long;
    marked = w.marked;
    parted = w.parted;
    shut = w.shut;
    numbered = w.numbered;
    opened = let o = w.opened in record {
      onward = o.onward;
      back = o.back;
      alone = o.alone;
      loops = o.loops;
      owned = o.owned;
      follows = λ r group i x j h e d. again group i j (o.follows r group i x j h e d);
    };
  }

  -- nothing is loose
  pub walk-loose : (need : ℕ) → IsWalk edges [] marks path todo groups order cyclic numbers → IsWalk edges (need ∷ []) marks path todo groups order cyclic numbers
  walk-loose need w = walk-over [] (need ∷ []) again w
    where
      again : (group : Group) (i j : ℕ) → Followed [] path todo order group i j → Followed (need ∷ []) path todo order group i j
      again group i j (left (zero, e)) = cc
      again group i j (left (suc k, e)) = cc
      again group i j (closed h) = closed h
      again group i j (pending u e l) = pending u e l
      again group i j (ahead b e l n) = ahead b e l n

  -- what was loose is closed
  pub walk-closed : (need : ℕ) → IsWalk edges (need ∷ []) marks path todo groups order cyclic numbers → slice_get marks need ≡ Some Mark.Closed → IsWalk edges [] marks path todo groups order cyclic numbers
  walk-closed need w m = walk-over (need ∷ []) [] again w
    where
      again : (group : Group) (i j : ℕ) → Followed (need ∷ []) path todo order group i j → Followed [] path todo order group i j
      again group i j (left (k, e)) = closed (let mk = w.marked in mk.closed_there j (ap (slice_get marks) (sym ((at-one need k j e).1)) ∙ m))
      again group i j (closed h) = closed h
      again group i j (pending u e l) = pending u e l
      again group i j (ahead b e l n) = ahead b e l n

-- a need of the last group is taken out
pub walk-popped : (edges : Edges) (marks : List Mark) (path rest : List ℕ) (groups : List Group) (order cyclic numbers : List ℕ) (need : ℕ) → IsWalk edges [] marks path (rest ++ need ∷ []) groups order cyclic numbers → ((r : ℕ) (group : Group) → slice_get groups r ≡ Some group → group.pending ≤ length rest) → IsWalk edges (need ∷ []) marks path rest groups order cyclic numbers
walk-popped edges marks path rest groups order cyclic numbers need w top = record {
  long = w.long;
  marked = w.marked;
  parted = let p = w.parted in record {
    base = p.base;
    none = λ z. let q = p.none z in let k : length (rest ++ need ∷ []) ≡ 0 = q.1 in (q.0, omega (arith, k, length-append rest (need ∷ [])));
    within = λ r group e. (let q = p.within r group e in q.0, top r group e);
    rising = p.rising;
  };
  shut = w.shut;
  numbered = w.numbered;
  opened = let o = w.opened in record {
    onward = o.onward;
    back = o.back;
    alone = o.alone;
    loops = o.loops;
    owned = λ u j e. o.owned u j (at-left rest (need ∷ []) u j e);
    follows = λ r group i x j h e d. again group i j (o.follows r group i x j h e d);
  };
}
  where
    again : (group : Group) (i j : ℕ) → Followed [] path (rest ++ need ∷ []) order group i j → Followed (need ∷ []) path rest order group i j
    again group i j (left (zero, e)) = cc
    again group i j (left (suc k, e)) = cc
    again group i j (closed h) = closed h
    again group i j (pending u e l) = cases (at-pushed rest need u j e) (λ before. pending u before l) (λ end. left (0, ap Some end.1))
    again group i j (ahead b e l n) = ahead b e l n

-- an index is opened in a group of its own
module _ (edges : Edges) (marks : List Mark) (path todo : List ℕ) (groups : List Group) (order cyclic numbers : List ℕ) (index : ℕ) (row : List ℕ) (w : IsWalk edges (index ∷ []) marks path todo groups order cyclic numbers)
    (new : slice_get marks index ≡ Some Mark.New) (ways : (a y : ℕ) → slice_get path a ≡ Some y → Way edges y index) (e : slice_get edges index ≡ Some row) where
  grown : Group
  grown = record { first = length path; pending = length todo; cyclic = false }

  apart : (x : ℕ) (m : Mark) → slice_get marks x ≡ Some m → (Mark.New ≡ m → ⊥) → x ≢ index
  apart x m f n same = n (at-same marks index Mark.New m new (ap (slice_get marks) (sym same) ∙ f))

  -- the last group, or an earlier one
  in-grown : (r : ℕ) (group : Group) (i : ℕ) → InGroup (groups ++ grown ∷ []) r group i → (InGroup groups r group i × (i < length path)) ⊎ ((grown ≡ group) × (length path ≤ i))
  unfolding grown
  in-grown r group i h = cases (at-pushed groups grown r group h.stands)
      (λ before. inl (
        record { stands = before; begun = h.begun; ends = λ s other l f. h.ends s other l (at-left groups (grown ∷ []) s other f) },
        h.ends (length groups) grown (at-within groups r group before) (at-last groups grown),
      ))
      (λ end. inr (end.1, subst (λ (g : Group). g.first ≤ i) (sym end.1) h.begun))

  old-at : (i x : ℕ) → i < length path → slice_get (path ++ index ∷ []) i ≡ Some x → slice_get path i ≡ Some x
  old-at i x l f = cases (at-pushed path index i x f) (λ before. before) (λ end. let same : i ≡ length path = end.0 in absurd (omega arith))

  new-at : (i x : ℕ) → length path ≤ i → slice_get (path ++ index ∷ []) i ≡ Some x → (i ≡ length path) × (index ≡ x)
  new-at i x l f = cases (at-pushed path index i x f) (λ before. let k : i < length path = at-within path i x before in absurd (omega arith)) (λ end. end)

  marked-open : AreMarked (slice_set marks index (Mark.Open (length path))) (path ++ index ∷ []) order
  marked-open = let m = w.marked in record {
    open_there = λ x i f. cases (same-or-other x index)
        (λ same.
        let k : ◌≡◌ {A = Mark} (Mark.Open (length path)) (Mark.Open i) = at-same (slice_set marks index (Mark.Open (length path))) index (Mark.Open (length path)) (Mark.Open i) (at-set-same marks index (Mark.Open (length path)) (at-within marks index Mark.New new)) (ap (slice_get (slice_set marks index (Mark.Open (length path)))) (sym same) ∙ f) in
        ap (slice_get (path ++ index ∷ [])) (sym (open-open (length path) i k)) ∙ at-last path index ∙ ap Some (sym same))
        (λ other. at-left path (index ∷ []) i x (m.open_there x i (sym (at-set-other marks index x (Mark.Open (length path)) other) ∙ f)));
    open_mark = λ i x f. cases (at-pushed path index i x f)
        (λ before. let g = m.open_mark i x before in at-set-other marks index x (Mark.Open (length path)) (apart x (Mark.Open i) g (new-open i)) ∙ g)
        (λ end. ap (slice_get (slice_set marks index (Mark.Open (length path)))) (sym end.1) ∙ at-set-same marks index (Mark.Open (length path)) (at-within marks index Mark.New new) ∙ ap (λ z. Some (Mark.Open z)) (sym end.0));
    closed_there = λ x f. cases (same-or-other x index)
        (λ same.
        let k : ◌≡◌ {A = Mark} (Mark.Open (length path)) Mark.Closed = at-same (slice_set marks index (Mark.Open (length path))) index (Mark.Open (length path)) Mark.Closed (at-set-same marks index (Mark.Open (length path)) (at-within marks index Mark.New new)) (ap (slice_get (slice_set marks index (Mark.Open (length path)))) (sym same) ∙ f) in
        absurd (open-closed (length path) k))
        (λ other. m.closed_there x (sym (at-set-other marks index x (Mark.Open (length path)) other) ∙ f));
    closed_mark = λ x h. let g = m.closed_mark x h in at-set-other marks index x (Mark.Open (length path)) (apart x Mark.Closed g new-closed) ∙ g;
  }

  parted-open : AreParted (path ++ index ∷ []) (todo ++ row) (groups ++ grown ∷ [])
  unfolding grown
  parted-open = let p = w.parted in record {
    base = λ group f. cases (at-pushed groups grown 0 group f) (λ before. p.base group before) (λ end. let q = p.none (sym end.0) in (ap (λ (g : Group). g.first) (sym end.1) ∙ q.0, ap (λ (g : Group). g.pending) (sym end.1) ∙ q.1));
    none = λ z. absurd (omega (arith, z, length-append groups (grown ∷ [])));
    within = λ r group f. cases (at-pushed groups grown r group f)
        (λ before. let q = p.within r group before in (omega (arith, q.0, length-append path (index ∷ [])), omega (arith, q.1, length-append todo row)))
        (λ end. subst (λ (g : Group). (g.first < length (path ++ index ∷ [])) × (g.pending ≤ length (todo ++ row))) end.1 (omega (arith, length-append path (index ∷ [])), omega (arith, length-append todo row)));
    rising = λ r s group other l f g. cases (at-pushed groups grown s other g)
        (λ before. p.rising r s group other l (cases (at-pushed groups grown r group f) (λ b. b) (λ end. let k : s < length groups = at-within groups s other before in let q : r ≡ length groups = end.0 in absurd (omega arith))) before)
        (λ end. let b : slice_get groups r ≡ Some group = cases (at-pushed groups grown r group f) (λ b. b) (λ q. let k : s ≡ length groups = end.0 in let z : r ≡ length groups = q.0 in absurd (omega arith)) in subst (λ (g : Group). (group.first < g.first) × (group.pending ≤ g.pending)) end.1 (p.within r group b));
  }

  follow-old : (group : Group) (i j : ℕ) → group.first ≤ i → i < length path → Followed (index ∷ []) path todo order group i j → Followed [] (path ++ index ∷ []) (todo ++ row) order group i j
  follow-old group i j b l (left (k, f)) = ahead (length path) (at-last path index ∙ ap Some ((at-one index k j f).1)) (omega arith) (λ n. l)
  follow-old group i j b l (closed h) = closed h
  follow-old group i j b l (pending u f m) = pending u (at-left todo row u j f) m
  follow-old group i j b l (ahead c f m n) = ahead c (at-left path (index ∷ []) c j f) m n

  own-old : (u j : ℕ) → u < length todo → IsOwned edges path groups u j → IsOwned edges (path ++ index ∷ []) (groups ++ grown ∷ []) u j
  unfolding grown
  own-old u j l q = record {
    i = q.i;
    index = q.index;
    stands = at-left path (index ∷ []) q.i q.index q.stands;
    needs = q.needs;
    behind = λ r group f m. cases (at-pushed groups grown r group f) (λ before. q.behind r group before m) (λ end. let k : length todo ≤ u = subst (λ (g : Group). g.pending ≤ u) (sym end.1) m in absurd (omega arith));
    before = λ r group f m. cases (at-pushed groups grown r group f) (λ b. q.before r group b m) (λ end. subst (λ (g : Group). q.i < g.first) end.1 (at-within path q.i q.index q.stands));
  }

  own-new : (k j : ℕ) → slice_get row k ≡ Some j → IsOwned edges (path ++ index ∷ []) (groups ++ grown ∷ []) (length todo + k) j
  unfolding grown
  own-new k j f = let p = w.parted in record {
    i = length path;
    index = index;
    stands = at-last path index;
    needs = (row, e, (k, f));
    behind = λ r group g m. cases (at-pushed groups grown r group g) (λ b. let q = p.within r group b in let l : group.first < length path = q.0 in omega arith) (λ end. subst (λ (h : Group). h.first ≤ length path) end.1 (omega arith));
    before = λ r group g m. cases (at-pushed groups grown r group g) (λ b. let q = p.within r group b in let l : group.pending ≤ length todo = q.1 in absurd (omega arith)) (λ end. let l : length todo + k < length todo = subst (λ (h : Group). length todo + k < h.pending) (sym end.1) m in absurd (omega arith));
  }

  opened-open : AreOpen edges [] (path ++ index ∷ []) (todo ++ row) (groups ++ grown ∷ []) order
  unfolding grown
  opened-open = let o = w.opened in record {
    onward = λ a b x y f g l. cases (at-pushed path index b y g)
        (λ before. o.onward a b x y (old-at a x (let k : b < length path = at-within path b y before in omega arith) f) before l)
        (λ end. cases (at-pushed path index a x f) (λ before. subst (Way edges x) end.1 (ways a x before)) (λ same. inl (sym same.1 ∙ end.1)));
    back = λ r group i x y h f g. cases (in-grown r group i h)
        (λ q. o.back r group i x y q.0 (old-at i x q.1 f) (old-at group.first y (let l : group.first ≤ i = h.begun in let k : i < length path = q.1 in omega arith) g))
        (λ q.
        let a = new-at i x q.1 f in
        let b = new-at group.first y (let l : length path ≡ group.first = ap (λ (z : Group). z.first) q.0 in omega arith) g in
        inl (sym a.1 ∙ b.1));
    alone = λ r group i h l n. cases (in-grown r group i h)
        (λ q. o.alone r group i q.0 q.1 n)
        (λ q. let k : length path ≡ group.first = ap (λ (z : Group). z.first) q.0 in let m : length path ≤ i = q.1 in omega (arith, l, k, m, length-append path (index ∷ [])));
    loops = λ r group i x h f n. cases (in-grown r group i h)
        (λ q. o.loops r group i x q.0 (old-at i x q.1 f) n)
        (λ q. let k : false ≡ true = ap (λ (z : Group). z.cyclic) q.0 ∙ n in cc k);
    follows = λ r group i x j h f d. cases (in-grown r group i h)
        (λ q. follow-old group i j h.begun q.1 (o.follows r group i x j q.0 (old-at i x q.1 f) d))
        (λ q.
        let a = new-at i x q.1 f in
        let same : d.0 ≡ row = at-same edges index d.0 row (ap (slice_get edges) a.1 ∙ d.1) e in
        let k : Has row j = subst (λ z. Has z j) same d.2 in
        pending (length todo + k.0) (at-right todo row k.0 j k.1) (let l : length todo ≡ group.pending = ap (λ (z : Group). z.pending) q.0 in omega arith));
    owned = λ u j f. cases (at-either todo row u j f)
        (λ before. own-old u j (at-within todo u j before) (o.owned u j before))
        (λ q. subst (λ z. IsOwned edges (path ++ index ∷ []) (groups ++ grown ∷ []) z j) (sym q.1) (own-new q.0 j q.2));
  }

  pub walk-opened : IsWalk edges [] (slice_set marks index (Mark.Open (length path))) (path ++ index ∷ []) (todo ++ row) (groups ++ record { first = length path; pending = length todo; cyclic = false } ∷ []) order cyclic numbers
  unfolding grown
  walk-opened = record {
    long = length-set marks index (Mark.Open (length path)) ∙ w.long;
    marked = marked-open;
    parted = parted-open;
    opened = opened-open;
    shut = w.shut;
    numbered = w.numbered;
  }
