-- The last group is closed, once all its needs were followed.
use Rattle.std.proofs.Common.{◌≡◌, ◌≢◌, ℕ, zero, suc, ◌+◌, ◌<◌, ◌≤◌, Bool, true, false, List, [], ◌∷◌, ◌++◌, Some, refl, sym, ap, ◌∙◌, subst, inl, inr, take, drop, length, arith}
use Rattle.std.specs.Prelude.{◌⊎◌, slice_get, slice_index, slice_set, unwrap_or, if◌then◌else◌}
use Rattle.std.proofs.lemmas.List.{length-set, length-append, length-take}
use Rattle.list_laws.proofs.Tests.{same-or-other}
use Rattle.index_graph.specs.declared.components.Mark.{Mark}
use Rattle.index_graph.specs.declared.components.Group.{Group}
use Rattle.index_graph.specs.Leading.{Leads, last, more}
use Rattle.index_graph.specs.Indices.{Has, Edges, Edge, Way, IsBehind}
use Rattle.index_graph.specs.SearchState.{InGroup, Followed, left, closed, pending, ahead, AreMarked, AreParted, AreOpen, AreClosed, AreNumbered, IsWalk, set_all}
use Rattle.index_graph.proofs.Lists.{at-within, at-there, at-same, at-left, at-either, at-last, at-pushed, at-taken, at-take, at-dropped, at-drop, at-set-same, at-set-other, has-left, has-right, has-either}
use Rattle.index_graph.proofs.Ways.{way-way}
use Rattle.index_graph.proofs.Walking.{cases, less-or, open-closed, open-open, new-closed}

-- what stands after one item was put at many places
module _ {A : Type 0} where
  pub set-all-long : (xs : List A) (indices : List ℕ) (y : A) → length (set_all xs indices y) ≡ length xs
  set-all-long xs [] y = refl
  set-all-long xs (x ∷ indices) y = set-all-long (slice_set xs x y) indices y ∙ length-set xs x y

  pub set-all-snoc : (xs : List A) (indices : List ℕ) (x : ℕ) (y : A) → set_all xs (indices ++ x ∷ []) y ≡ slice_set (set_all xs indices y) x y
  set-all-snoc xs [] x y = refl
  set-all-snoc xs (z ∷ indices) x y = set-all-snoc (slice_set xs z y) indices x y

  -- where it stood already it stays
  pub set-all-stay : (xs : List A) (indices : List ℕ) (x : ℕ) (y : A) → slice_get xs x ≡ Some y → slice_get (set_all xs indices y) x ≡ Some y
  set-all-stay xs [] x y e = e
  set-all-stay xs (z ∷ indices) x y e = set-all-stay (slice_set xs z y) indices x y (cases (same-or-other x z)
      (λ same. ap (slice_get (slice_set xs z y)) same ∙ at-set-same xs z y (let l : x < length xs = at-within xs x y e in omega arith))
      (λ other. at-set-other xs z x y other ∙ e))

  -- the places where it was put
  pub set-all-there : (xs : List A) (indices : List ℕ) (k x : ℕ) (y : A) → slice_get indices k ≡ Some x → x < length xs → slice_get (set_all xs indices y) x ≡ Some y
  set-all-there xs [] zero x y e l = cc
  set-all-there xs [] (suc k) x y e l = cc
  set-all-there xs (z ∷ indices) zero x y e l = let s : z ≡ x = cc in set-all-stay (slice_set xs z y) indices x y (ap (λ q. slice_get (slice_set xs q y) x) s ∙ at-set-same xs x y l)
  set-all-there xs (z ∷ indices) (suc k) x y e l = set-all-there (slice_set xs z y) indices k x y e (omega (arith, l, length-set xs z y))

  -- and the others
  pub set-all-other : (xs : List A) (indices : List ℕ) (x : ℕ) (y : A) → (Has indices x → ⊥) → slice_get (set_all xs indices y) x ≡ slice_get xs x
  set-all-other xs [] x y n = refl
  set-all-other xs (z ∷ indices) x y n =
      set-all-other (slice_set xs z y) indices x y (λ h. n (suc h.0, h.1)) ∙ at-set-other xs z x y (λ same. n (0, ap Some (sym same)))

-- what is new was new
pub marks-new : (marks : List Mark) (indices : List ℕ) (x : ℕ) → slice_get (set_all marks indices Mark.Closed) x ≡ Some Mark.New → slice_get marks x ≡ Some Mark.New
marks-new marks [] x e = e
marks-new marks (y ∷ indices) x e =
    let f = marks-new (slice_set marks y Mark.Closed) indices x e in
    cases (same-or-other x y)
    (λ same.
    let l : x < length (slice_set marks y Mark.Closed) = at-within (slice_set marks y Mark.Closed) x Mark.New f in
    absurd (new-closed (at-same (slice_set marks y Mark.Closed) y Mark.New Mark.Closed (ap (slice_get (slice_set marks y Mark.Closed)) (sym same) ∙ f) (at-set-same marks y Mark.Closed (omega (arith, l, same, length-set marks y Mark.Closed))))))
    (λ other. sym (at-set-other marks y x Mark.Closed other) ∙ f)

-- a number, by what stands at its place
number-read : (numbers : List ℕ) (x : ℕ) → slice_index numbers x ≡ unwrap_or (slice_get numbers x) 0
number-read [] x = refl
number-read (n ∷ numbers) zero = refl
number-read (n ∷ numbers) (suc x) = number-read numbers x

has-or-not : (xs : List ℕ) (x : ℕ) → Has xs x ⊎ (Has xs x → ⊥)
has-or-not [] x = inr none
  where
    none : Has [] x → ⊥
    none (zero, e) = cc
    none (suc k, e) = cc
has-or-not (y ∷ xs) x = cases (same-or-other y x)
    (λ same. inl (0, ap Some same))
    (λ other. cases (has-or-not xs x) (λ h. inl (suc h.0, h.1)) (λ n. inr (not-in other n)))
  where
    not-in : y ≢ x → (Has xs x → ⊥) → Has (y ∷ xs) x → ⊥
    not-in other n (zero, e) = other cc
    not-in other n (suc k, e) = n (k, e)

module _ (edges : Edges) (marks : List Mark) (path todo : List ℕ) (before : List Group) (top : Group) (order cyclic numbers : List ℕ) (w : IsWalk edges [] marks path todo (before ++ top ∷ []) order cyclic numbers) (done : length todo ≤ top.pending) where
  group : List ℕ
  group = drop top.first path

  stands : slice_get (before ++ top ∷ []) (length before) ≡ Some top
  stands = at-last before top

  inside : top.first < length path
  inside = let p = w.parted in let q = p.within (length before) top stands in q.0

  -- an open index of an earlier group
  in-before : (r : ℕ) (g : Group) (i : ℕ) → InGroup before r g i → i < top.first → InGroup (before ++ top ∷ []) r g i
  in-before r g i h l = record {
    stands = at-left before (top ∷ []) r g h.stands;
    begun = h.begun;
    ends = λ s other k f. cases (at-pushed before top s other f) (λ z. h.ends s other k z) (λ end. subst (λ (y : Group). i < y.first) end.1 l);
  }

  -- and of the last one
  in-top : (i : ℕ) → top.first ≤ i → InGroup (before ++ top ∷ []) (length before) top i
  in-top i l = record { stands = stands; begun = l; ends = λ s other k f. let z : s < length (before ++ top ∷ []) = at-within (before ++ top ∷ []) s other f in absurd (omega (arith, z, k, length-append before (top ∷ []))) }

  grouped : (x : ℕ) → Has group x → (i : ℕ) × (top.first ≤ i) × (slice_get path i ≡ Some x)
  unfolding group
  grouped x h = (top.first + h.0, omega arith, at-dropped top.first path h.0 x h.1)

  group-has : (i x : ℕ) → top.first ≤ i → slice_get path i ≡ Some x → Has group x
  unfolding group
  group-has i x l e = let k : (n : ℕ) × (i ≡ top.first + n) = rest i top.first l in (k.0, at-drop top.first path i k.0 x k.1 e)
    where
      rest : (i f : ℕ) → f ≤ i → (n : ℕ) × (i ≡ f + n)
      rest i zero l = (i, omega arith)
      rest zero (suc f) l = absurd (omega arith)
      rest (suc i) (suc f) l = let r = rest i f (omega arith) in (r.0, let q : i ≡ f + r.0 = r.1 in omega arith)

  -- an open index before the group is not in it
  not-grouped : (i x : ℕ) → slice_get path i ≡ Some x → i < top.first → Has group x → ⊥
  not-grouped i x e l h =
      let m = w.marked in
      let g = grouped x h in
      let same : i ≡ g.0 = open-open i g.0 (at-same marks x (Mark.Open i) (Mark.Open g.0) (m.open_mark i x e) (m.open_mark g.0 x g.2)) in
      let k : top.first ≤ g.0 = g.1 in
      omega arith

  placed : (x : ℕ) → Has group x → x < length marks
  placed x h = let m = w.marked in let g = grouped x h in at-within marks x (Mark.Open g.0) (m.open_mark g.0 x g.2)

  apart : (x : ℕ) → Has group x → Has order x → ⊥
  apart x h k = let m = w.marked in let g = grouped x h in open-closed g.0 (at-same marks x (Mark.Open g.0) Mark.Closed (m.open_mark g.0 x g.2) (m.closed_mark x k))

  marked-shut : AreMarked (set_all marks group Mark.Closed) (take top.first path) (order ++ group)
  marked-shut = let m = w.marked in record {
    open_there = λ x i f. cases (has-or-not group x)
        (λ h. absurd (open-closed i (at-same (set_all marks group Mark.Closed) x (Mark.Open i) Mark.Closed f (set-all-there marks group h.0 x Mark.Closed h.1 (placed x h)))))
        (λ n.
        let e = m.open_there x i (sym (set-all-other marks group x Mark.Closed n) ∙ f) in
        at-take top.first path i x (cases (less-or i top.first) (λ l. l) (λ l. absurd (n (group-has i x l e)))) e);
    open_mark = λ i x f. let e = at-taken top.first path i x f in set-all-other marks group x Mark.Closed (not-grouped i x e.0 e.1) ∙ m.open_mark i x e.0;
    closed_there = λ x f. cases (has-or-not group x) (λ h. has-right order group x h) (λ n. has-left order group x (m.closed_there x (sym (set-all-other marks group x Mark.Closed n) ∙ f)));
    closed_mark = λ x h. cases (has-either order group x h) (λ k. set-all-stay marks group x Mark.Closed (m.closed_mark x k)) (λ k. set-all-there marks group k.0 x Mark.Closed k.1 (placed x k));
  }

  parted-shut : AreParted (take top.first path) todo before
  parted-shut = let p = w.parted in record {
    base = λ g f. p.base g (at-left before (top ∷ []) 0 g f);
    none = λ z.
        let b = p.base top (ap (slice_get (before ++ top ∷ [])) (sym z) ∙ stands) in
        let first : top.first ≡ 0 = b.0 in
        let last : top.pending ≡ 0 = b.1 in
        (omega (arith, first, length-take top.first path), omega (arith, last, done));
    within = λ r g f.
        let l : r < length before = at-within before r g f in
        let k = p.rising r (length before) g top l (at-left before (top ∷ []) r g f) stands in
        let q = p.within r g (at-left before (top ∷ []) r g f) in
        (omega (arith, k.0, inside, length-take top.first path), q.1);
    rising = λ r s g other l e f. p.rising r s g other l (at-left before (top ∷ []) r g e) (at-left before (top ∷ []) s other f);
  }

  follow-shut : (g : Group) (i j : ℕ) → Followed [] path todo order g i j → Followed [] (take top.first path) todo (order ++ group) g i j
  follow-shut g i j (left (zero, e)) = cc
  follow-shut g i j (left (suc k, e)) = cc
  follow-shut g i j (closed h) = closed (has-left order group j h)
  follow-shut g i j (pending u e l) = pending u e l
  follow-shut g i j (ahead b e l n) = cases (less-or b top.first) (λ k. ahead b (at-take top.first path b j k e) l n) (λ k. closed (has-right order group j (group-has b j k e)))

  opened-shut : AreOpen edges [] (take top.first path) todo before (order ++ group)
  opened-shut = let o = w.opened in record {
    onward = λ a b x y e f l. (let p = at-taken top.first path a x e in let q = at-taken top.first path b y f in o.onward a b x y p.0 q.0 l);
    back = λ r g i x y h e f. (let p = at-taken top.first path i x e in let q = at-taken top.first path g.first y f in o.back r g i x y (in-before r g i h p.1) p.0 q.0);
    alone = λ r g i h l n. o.alone r g i (in-before r g i h (omega (arith, l, length-take top.first path))) (omega (arith, l, length-take top.first path)) n;
    loops = λ r g i x h e n. (let p = at-taken top.first path i x e in o.loops r g i x (in-before r g i h p.1) p.0 n);
    follows = λ r g i x j h e d. (let p = at-taken top.first path i x e in follow-shut g i j (o.follows r g i x j (in-before r g i h p.1) p.0 d));
    owned = λ u j e.
        let q = o.owned u j e in
        record {
          i = q.i;
          index = q.index;
          stands = at-take top.first path q.i q.index (q.before (length before) top stands (let l : u < length todo = at-within todo u j e in omega (arith, l, done))) q.stands;
          needs = q.needs;
          behind = λ r g f n. q.behind r g (at-left before (top ∷ []) r g f) n;
          before = λ r g f n. q.before r g (at-left before (top ∷ []) r g f) n;
        };
  }

  -- what an index of the group needs is closed, or in the group
  needs-of : (i x j : ℕ) → top.first ≤ i → slice_get path i ≡ Some x → Edge edges x j → Has order j ⊎ ((b : ℕ) × (slice_get path b ≡ Some j) × (top.first ≤ b) × (top.cyclic ≡ false → i < b))
  needs-of i x j l e d = let o = w.opened in by (o.follows (length before) top i x j (in-top i l) e d)
    where
      by : Followed [] path todo order top i j → Has order j ⊎ ((b : ℕ) × (slice_get path b ≡ Some j) × (top.first ≤ b) × (top.cyclic ≡ false → i < b))
      by (left (zero, f)) = cc
      by (left (suc k, f)) = cc
      by (closed h) = inl h
      by (pending u f k) = let z : u < length todo = at-within todo u j f in absurd (omega (arith, z, k, done))
      by (ahead b f k n) = inr (b, f, k, n)

  cyclic-now : List ℕ
  cyclic-now = if top.cyclic then cyclic ++ group else cyclic

  stays-cyclic : (x : ℕ) → Has cyclic x → Has cyclic-now x
  unfolding cyclic-now
  stays-cyclic x h = by top.cyclic
    where
      by : (c : Bool) → Has (if c then cyclic ++ group else cyclic) x
      by true = has-left cyclic group x h
      by false = h

  -- where it is not cyclic, it is one index, and needs none of the group
  plain-needs : (i x j : ℕ) → top.cyclic ≡ false → top.first ≤ i → slice_get path i ≡ Some x → Edge edges x j → Has order j
  plain-needs i x j n l e d = let o = w.opened in cases (needs-of i x j l e d) (λ h. h) (λ k.
      let a : i ≡ top.first = o.alone (length before) top i (in-top i l) (at-within path i x e) n in
      let c : k.0 ≡ top.first = o.alone (length before) top k.0 (in-top k.0 k.2) (at-within path k.0 j k.1) n in
      let f : i < k.0 = k.3 n in
      absurd (omega arith))

  leads-shut : (x j : ℕ) → Has order x → Leads (Edge edges) x j → Has order j
  leads-shut x j h (last d) = let s = w.shut in s.shut x j h d
  leads-shut x j h (more {b = k} d l) = let s = w.shut in leads-shut k j (s.shut x k h d) l

  plain-leads : (i x : ℕ) → top.cyclic ≡ false → top.first ≤ i → slice_get path i ≡ Some x → Leads (Edge edges) x x → ⊥
  plain-leads i x n l e t = apart x (group-has i x l e) (by x t e refl)
    where
      by : (y : ℕ) → Leads (Edge edges) x y → slice_get path i ≡ Some x → x ≡ x → Has order y
      by y (last d) f q = plain-needs i x y n l f d
      by y (more {b = k} d t) f q = leads-shut k y (plain-needs i x k n l f d) t

  shut-shut : AreClosed edges (order ++ group) cyclic-now
  unfolding group cyclic-now
  shut-shut = let s = w.shut in let o = w.opened in let m = w.marked in record {
    shut = λ x j h d. cases (has-either order group x h)
        (λ k. has-left order group j (s.shut x j k d))
        (λ k. let g = grouped x k in cases (needs-of g.0 x j g.1 g.2 d) (λ z. has-left order group j z) (λ z. has-right order group j (group-has z.0 j z.2 z.1)));
    once = λ a b x e f. cases (at-either order group a x e)
        (λ p. cases (at-either order group b x f) (λ q. s.once a b x p q) (λ q. absurd (apart x (q.0, q.2) (a, p))))
        (λ p. cases (at-either order group b x f) (λ q. absurd (apart x (p.0, p.2) (b, q)))
        (λ q.
        let i = at-dropped top.first path p.0 x (group-at p.0 x p.2) in
        let k = at-dropped top.first path q.0 x (group-at q.0 x q.2) in
        let same : top.first + p.0 ≡ top.first + q.0 = open-open (top.first + p.0) (top.first + q.0) (at-same marks x (Mark.Open (top.first + p.0)) (Mark.Open (top.first + q.0)) (m.open_mark (top.first + p.0) x i) (m.open_mark (top.first + q.0) x k)) in
        let l : a ≡ length order + p.0 = p.1 in
        let n : b ≡ length order + q.0 = q.1 in
        omega arith));
    cycles = λ x h. by-cycle x top.cyclic refl h;
    behind = λ a x e. cases (at-either order group a x e)
        (λ p. cases (s.behind a x p)
        (λ c. inl (stays-cyclic x c))
        (λ b. inr (record { plain = b.plain; needs = λ j d. (let q = b.needs j d in (q.0, at-left order group q.0 j q.1, q.2)) })))
        (λ p. by-group a x p.0 p.1 p.2 top.cyclic refl);
  }
    where
      group-at : (k x : ℕ) → slice_get group k ≡ Some x → slice_get (drop top.first path) k ≡ Some x
      group-at k x e = e

      by-cycle : (x : ℕ) (c : Bool) → top.cyclic ≡ c → Has (if c then cyclic ++ group else cyclic) x → Has (order ++ group) x × Leads (Edge edges) x x
      by-cycle x true t h = let s = w.shut in let o = w.opened in cases (has-either cyclic group x h)
          (λ k. let q = s.cycles x k in (has-left order group x q.0, q.1))
          (λ k. let g = grouped x k in (has-right order group x k, o.loops (length before) top g.0 x (in-top g.0 g.1) g.2 t))
      by-cycle x false t h = let s = w.shut in let q = s.cycles x h in (has-left order group x q.0, q.1)

      by-group : (a x k : ℕ) → a ≡ length order + k → slice_get group k ≡ Some x → (c : Bool) → top.cyclic ≡ c → Has (if c then cyclic ++ group else cyclic) x ⊎ IsBehind edges (order ++ group) a x
      by-group a x k l e true t = inl (has-right cyclic group x (k, e))
      by-group a x k l e false t = let g = grouped x (k, e) in inr (record {
        plain = plain-leads g.0 x t g.1 g.2;
        needs = λ j d. (let h = plain-needs g.0 x j t g.1 g.2 d in (h.0, at-left order group h.0 j h.1, let q : h.0 < length order = at-within order h.0 j h.1 in omega arith));
      })

  -- the numbers of closed indices, and of those that are closed now
  numbers-now : List ℕ
  numbers-now = set_all numbers group (length order)

  numbers-long : length numbers-now ≡ length numbers
  unfolding numbers-now
  numbers-long = set-all-long numbers group (length order)

  number-before : (x : ℕ) → Has order x → slice_index numbers-now x ≡ slice_index numbers x
  unfolding numbers-now
  number-before x h =
      number-read (set_all numbers group (length order)) x ∙ ap (λ z. unwrap_or z 0) (set-all-other numbers group x (length order) (λ k. apart x k h)) ∙ sym (number-read numbers x)

  number-grouped : (x : ℕ) → Has group x → slice_index numbers-now x ≡ length order
  unfolding numbers-now
  number-grouped x h =
      let n = w.numbered in
      number-read (set_all numbers group (length order)) x ∙ ap (λ z. unwrap_or z 0) (set-all-there numbers group h.0 x (length order) h.1 (let l : x < length marks = placed x h in omega (arith, l, w.long, n.long)))

  -- the indices of the group lead to each other
  group-way : (x y : ℕ) → Has group x → Has group y → Way edges x y
  group-way x y h k =
      let o = w.opened in
      let g = grouped x h in
      let q = grouped y k in
      let f : (z : ℕ) × (slice_get path top.first ≡ Some z) = at-there path top.first inside in
      way-way edges x f.0 y (o.back (length before) top g.0 x f.0 (in-top g.0 g.1) g.2 f.1) (o.onward top.first q.0 f.0 y f.1 q.2 q.1)

  numbered-shut : AreNumbered edges (order ++ group) numbers-now
  numbered-shut = let n = w.numbered in let s = w.shut in record {
    long = numbers-long ∙ n.long;
    below = λ x h. cases (has-either order group x h)
        (λ k. let l : slice_index numbers x < length order = n.below x k in omega (arith, l, number-before x k, length-append order group))
        (λ k. let l : k.0 < length group = at-within group k.0 x k.1 in omega (arith, l, number-grouped x k, length-append order group));
    same = λ x y h k e. cases (has-either order group x h)
        (λ a. cases (has-either order group y k)
        (λ b. n.same x y a b (sym (number-before x a) ∙ e ∙ number-before y b))
        (λ b. let l : slice_index numbers x < length order = n.below x a in absurd (omega (arith, l, e, number-before x a, number-grouped y b))))
        (λ a. cases (has-either order group y k)
        (λ b. let l : slice_index numbers y < length order = n.below y b in absurd (omega (arith, l, e, number-before y b, number-grouped x a)))
        (λ b. group-way x y a b));
    needs = λ x j h d. cases (has-either order group x h)
        (λ k. let l : slice_index numbers j ≤ slice_index numbers x = n.needs x j k d in omega (arith, l, number-before x k, number-before j (s.shut x j k d)))
        (λ k.
        let g = grouped x k in
        cases (needs-of g.0 x j g.1 g.2 d)
        (λ z. let l : slice_index numbers j < length order = n.below j z in omega (arith, l, number-before j z, number-grouped x k))
        (λ z. omega (arith, number-grouped x k, number-grouped j (group-has z.0 j z.2 z.1))));
    rising = λ a b x y m e f. cases (at-either order group a x e)
        (λ p. cases (at-either order group b y f)
        (λ q. let l : slice_index numbers x ≤ slice_index numbers y = n.rising a b x y m p q in omega (arith, l, number-before x (a, p), number-before y (b, q)))
        (λ q. let l : slice_index numbers x < length order = n.below x (a, p) in omega (arith, l, number-before x (a, p), number-grouped y (q.0, q.2))))
        (λ p. cases (at-either order group b y f)
        (λ q. let l : b < length order = at-within order b y q in let k : a ≡ length order + p.0 = p.1 in absurd (omega (arith, l, k, m)))
        (λ q. omega (arith, number-grouped x (p.0, p.2), number-grouped y (q.0, q.2))));
  }

  walk-shut-here : IsWalk edges [] (set_all marks group Mark.Closed) (take top.first path) todo before (order ++ group) cyclic-now numbers-now
  walk-shut-here = record { long = set-all-long marks group Mark.Closed ∙ w.long; marked = marked-shut; parted = parted-shut; opened = opened-shut; shut = shut-shut; numbered = numbered-shut }

  pub walk-shut : IsWalk edges [] (set_all marks (drop top.first path) Mark.Closed) (take top.first path) todo before (order ++ drop top.first path) (if top.cyclic then cyclic ++ drop top.first path else cyclic) (set_all numbers (drop top.first path) (length order))
  unfolding group cyclic-now numbers-now
  walk-shut = walk-shut-here
