-- The moves of a walk as the code makes them, and how much work each leaves.
use Rattle.std.proofs.Common.{◌≡◌, ℕ, zero, suc, ◌+◌, ◌<◌, ◌≤◌, true, false, List, [], ◌∷◌, ◌++◌, Some, Result, Ok, Err, refl, sym, ap, ◌∙◌, subst, inl, inr, take, drop, length, get_or, arith}
use Rattle.std.specs.Prelude.{OnOk, slice_get, slice_index, slice_set, if◌then◌else◌}
use Rattle.std.proofs.lemmas.List.{length-set, length-append, length-take, take_more}
use Rattle.std.proofs.lemmas.Option.{slice_get-get_or}
use Rattle.list_laws.proofs.Tests.{same-or-other}
use Rattle.index_graph.specs.declared.components.Mark.{Mark}
use Rattle.index_graph.specs.declared.components.Group.{Group}
use Rattle.index_graph.specs.declared.components.Walk.{Walk}
use Rattle.index_graph.specs.Leading.{Leads, last, more}
use Rattle.index_graph.specs.Indices.{Has, Edges, Edge, Way, HasIndices, IsOrdered, AreGrouped}
use Rattle.index_graph.specs.SearchState.{AreParted, AreClosed, AreNumbered, IsWalk, AreWalk, IsTop, IsPopped, AreJoined, WentOn, set_all, unvisited, work, KeepsFound}
use Rattle.index_graph.proofs.Lists.{at-within, at-there, at-same, at-taken, at-last, at-set-same, at-set-other}
use Rattle.index_graph.proofs.Ways.{way-edge}
use Rattle.index_graph.proofs.Walking.{cases, less-or, new-open, to-last, walk-loose, walk-closed, walk-popped, walk-opened}
use Rattle.index_graph.proofs.Joining.{walk-joined-at}
use Rattle.index_graph.proofs.Closing.{marks-new, set-all-snoc, walk-shut}

-- what an answer that is no fault says
pub on-ok : {T E : Type 0} (A B C D P : Type 0) (r : Result T E) → OnOk r A → OnOk r B → OnOk r C → OnOk r D → (A → B → C → D → P) → OnOk r P
on-ok A B C D P (Ok x) a b c d f = f a b c d
on-ok A B C D P (Err x) a b c d f = tt

pub on-ok-five : {T E : Type 0} (A B C D F P : Type 0) (r : Result T E) → OnOk r A → OnOk r B → OnOk r C → OnOk r D → OnOk r F → (A → B → C → D → F → P) → OnOk r P
on-ok-five A B C D F P (Ok x) a b c d e f = f a b c d e
on-ok-five A B C D F P (Err x) a b c d e f = tt

pub on-ok-one : {T E : Type 0} (A P : Type 0) (r : Result T E) → OnOk r A → (A → P) → OnOk r P
on-ok-one A P (Ok x) a f = f a
on-ok-one A P (Err x) a f = tt

pub set-all-next : {A : Type 0} (xs : List A) (indices : List ℕ) (y : A) (k : ℕ) → k < length indices → slice_set (set_all xs (take k indices) y) (get_or indices k 0) y ≡ set_all xs (take (k + 1) indices) y
set-all-next xs indices y k l = sym (ap (λ z. set_all xs z y) (take_more indices k 0 l) ∙ set-all-snoc xs (take k indices) (get_or indices k 0) y)

-- the last of those that are kept is written
set-last : {A : Type 0} (xs : List A) (t : ℕ) (y : A) → t < length xs → slice_set (take (suc t) xs) t y ≡ take t xs ++ y ∷ []
set-last [] t y l = absurd (omega arith)
set-last (x ∷ xs) zero y l = refl
set-last (x ∷ xs) (suc t) y l = ap (λ z. x ∷ z) (set-last xs t y (omega arith))

pub joined-at : (groups : List Group) (index top : ℕ) (seen held : Group) → top < length groups → seen ≡ get_or groups top seen → seen.first ≤ index → held ≡ get_or (take (top + 1) groups) top held → ((s : ℕ) (other : Group) → top < s → slice_get groups s ≡ Some other → index < other.first) → AreJoined groups index (slice_set (take (top + 1) groups) top (record held { cyclic = true }))
joined-at groups index top seen held l e b h above =
    let t : (k : ℕ) × (k ≡ top + 1) = (top + 1, refl) in
    let next : top + 1 ≡ suc top = omega arith in
    let s : slice_get groups top ≡ Some seen = slice_get-get_or groups top seen l ∙ ap Some (sym e) in
    let g : slice_get (take (top + 1) groups) top ≡ Some held = slice_get-get_or (take (top + 1) groups) top held (omega (arith, l, length-take (top + 1) groups)) ∙ ap Some (sym h) in
    let u = at-taken (top + 1) groups top held g in
    let same : seen ≡ held = at-same groups top seen held s u.0 in
    record {
      r = top;
      group = held;
      holds = record { stands = u.0; begun = subst (λ (z : Group). z.first ≤ index) same b; ends = above };
      joined = ap (λ n. slice_set (take n groups) top (record held { cyclic = true })) next ∙ set-last groups top (record held { cyclic = true }) l;
    }

-- a list with its last item
whole : {A : Type 0} (xs : List A) (r : ℕ) (x : A) → slice_get xs r ≡ Some x → length xs ≡ suc r → xs ≡ take r xs ++ x ∷ []
whole [] zero x e l = cc
whole [] (suc r) x e l = cc
whole (y ∷ []) zero x e l = let s : y ≡ x = cc in ap (λ z. z ∷ []) s
whole (y ∷ z ∷ xs) zero x e l = absurd (omega arith)
whole (y ∷ xs) (suc r) x e l = ap (λ z. y ∷ z) (whole xs r x e (omega arith))

-- the work that is left
unvisited-open : (marks : List Mark) (edges : Edges) (i k : ℕ) (row : List ℕ) → slice_get marks i ≡ Some Mark.New → slice_get edges i ≡ Some row → unvisited (slice_set marks i (Mark.Open k)) edges + suc (length row) ≡ unvisited marks edges
unvisited-open [] edges zero k row m e = cc
unvisited-open [] edges (suc i) k row m e = cc
unvisited-open (n ∷ marks) [] zero k row m e = cc
unvisited-open (n ∷ marks) [] (suc i) k row m e = cc
unvisited-open (Mark.New ∷ marks) (r ∷ edges) zero k row m e = let s : r ≡ row = cc in let q : length r ≡ length row = ap length s in omega arith
unvisited-open (Mark.Open j ∷ marks) (r ∷ edges) zero k row m e = cc
unvisited-open (Mark.Closed ∷ marks) (r ∷ edges) zero k row m e = cc
unvisited-open (Mark.New ∷ marks) (r ∷ edges) (suc i) k row m e = omega (arith, unvisited-open marks edges i k row m e)
unvisited-open (Mark.Open j ∷ marks) (r ∷ edges) (suc i) k row m e = unvisited-open marks edges i k row m e
unvisited-open (Mark.Closed ∷ marks) (r ∷ edges) (suc i) k row m e = unvisited-open marks edges i k row m e

unvisited-set : (marks : List Mark) (edges : Edges) (i : ℕ) → unvisited (slice_set marks i Mark.Closed) edges ≤ unvisited marks edges
unvisited-set [] edges i = omega arith
unvisited-set (n ∷ marks) [] zero = omega arith
unvisited-set (n ∷ marks) [] (suc i) = omega arith
unvisited-set (Mark.New ∷ marks) (r ∷ edges) zero = omega arith
unvisited-set (Mark.Open j ∷ marks) (r ∷ edges) zero = omega arith
unvisited-set (Mark.Closed ∷ marks) (r ∷ edges) zero = omega arith
unvisited-set (Mark.New ∷ marks) (r ∷ edges) (suc i) = omega (arith, unvisited-set marks edges i)
unvisited-set (Mark.Open j ∷ marks) (r ∷ edges) (suc i) = unvisited-set marks edges i
unvisited-set (Mark.Closed ∷ marks) (r ∷ edges) (suc i) = unvisited-set marks edges i

unvisited-closed : (marks : List Mark) (edges : Edges) (indices : List ℕ) → unvisited (set_all marks indices Mark.Closed) edges ≤ unvisited marks edges
unvisited-closed marks edges [] = omega arith
unvisited-closed marks edges (x ∷ indices) = omega (arith, unvisited-closed (slice_set marks x Mark.Closed) edges indices, unvisited-set marks edges x)

-- a walk in other words
pub walk-as : (edges : Edges) (loose : List ℕ) (m m' : List Mark) (p p' t t' : List ℕ) (g g' : List Group) (o o' c c' n n' : List ℕ) → m' ≡ m → p' ≡ p → t' ≡ t → g' ≡ g → o' ≡ o → c' ≡ c → n' ≡ n → IsWalk edges loose m p t g o c n → IsWalk edges loose m' p' t' g' o' c' n'
walk-as edges loose m m' p p' t t' g g' o o' c c' n n' em ep et eg eo ec en w =
    subst (λ z. IsWalk edges loose m' p' t' g' o' c' z) (sym en) (subst (λ z. IsWalk edges loose m' p' t' g' o' z n) (sym ec) (subst (λ z. IsWalk edges loose m' p' t' g' z c n) (sym eo) (subst (λ z. IsWalk edges loose m' p' t' z o c n) (sym eg)
    (subst (λ z. IsWalk edges loose m' p' z g o c n) (sym et) (subst (λ z. IsWalk edges loose m' z t g o c n) (sym ep) (subst (λ z. IsWalk edges loose z p t g o c n) (sym em) w))))))

some-groups : (path todo : List ℕ) (groups : List Group) (i x : ℕ) → AreParted path todo groups → slice_get path i ≡ Some x → 0 < length groups
some-groups path todo groups i x p e = cases (less-or 0 (length groups)) (λ l. l) (λ l. let q = p.none (omega (arith, l)) in let k : i < length path = at-within path i x e in absurd (omega (arith, k, q.0)))

-- an index that was opened is new no more
set-new : (marks : List Mark) (y x k : ℕ) → slice_get (slice_set marks y (Mark.Open k)) x ≡ Some Mark.New → slice_get marks x ≡ Some Mark.New
set-new marks y x k e = cases (same-or-other x y)
    (λ same.
    let l : x < length (slice_set marks y (Mark.Open k)) = at-within (slice_set marks y (Mark.Open k)) x Mark.New e in
    absurd (new-open k (at-same (slice_set marks y (Mark.Open k)) y Mark.New (Mark.Open k) (ap (slice_get (slice_set marks y (Mark.Open k))) (sym same) ∙ e) (at-set-same marks y (Mark.Open k) (omega (arith, l, same, length-set marks y (Mark.Open k)))))))
    (λ other. sym (at-set-other marks y x (Mark.Open k) other) ∙ e)

pub still-new : (marks new : List Mark) (y k : ℕ) → new ≡ slice_set marks y (Mark.Open k) → KeepsFound marks new
still-new marks new y k e x f = set-new marks y x k (ap (λ z. slice_get z x) (sym e) ∙ f)

pub not-new : (marks : List Mark) (y k : ℕ) → y < length marks → slice_get (slice_set marks y (Mark.Open k)) y ≡ Some Mark.New → ⊥
not-new marks y k l e = new-open k (at-same (slice_set marks y (Mark.Open k)) y Mark.New (Mark.Open k) e (at-set-same marks y (Mark.Open k) l))

-- the first index of a walk with none open
pub begun : (edges : Edges) (old new : Walk) (index : ℕ) → AreWalk edges [] old → length old.groups.items ≡ 0 → slice_get old.marks.items index ≡ Some Mark.New → index < length edges
    → new.marks.items ≡ slice_set old.marks.items index (Mark.Open (length old.path.items)) → new.path.items ≡ old.path.items ++ index ∷ []
    → ((row : List ℕ) → slice_get edges index ≡ Some row → new.todo.items ≡ old.todo.items ++ row)
    → new.groups.items ≡ old.groups.items ++ record { first = length old.path.items; pending = length old.todo.items; cyclic = false } ∷ []
    → new.order.items ≡ old.order.items → new.cyclic.items ≡ old.cyclic.items → new.numbers.items ≡ old.numbers.items → AreWalk edges [] new
begun edges old new index w none n l em ep et eg eo ec en =
    let r = at-there edges index l in
    let p = w.parted in
    let z = p.none none in
    walk-as edges [] _ new.marks.items _ new.path.items _ new.todo.items _ new.groups.items _ new.order.items _ new.cyclic.items _ new.numbers.items em ep (et r.0 r.1) eg eo ec en
    (walk-opened edges old.marks.items old.path.items old.todo.items old.groups.items old.order.items old.cyclic.items old.numbers.items index r.0 (walk-loose edges old.marks.items old.path.items old.todo.items old.groups.items old.order.items old.cyclic.items old.numbers.items index w) n
    (λ a y f. let k : a < length old.path.items = at-within old.path.items a y f in absurd (omega (arith, k, z.0))) r.1)

-- all indices closed
pub arranged : (edges : Edges) (walk : Walk) → AreWalk edges [] walk → length walk.groups.items ≡ 0 → ((index : ℕ) → index < length edges → slice_get walk.marks.items index ≡ Some Mark.New → ⊥) → IsOrdered edges walk.order.items walk.cyclic.items
arranged edges walk w none found = let s = w.shut in let m = w.marked in let p = w.parted in record {
  all = λ index l. (let r = at-there walk.marks.items index (omega (arith, l, w.long)) in by index l r.0 r.1);
  within = λ index h. (let l : index < length walk.marks.items = at-within walk.marks.items index Mark.Closed (m.closed_mark index h) in omega (arith, l, w.long));
  once = s.once;
  loops = s.cycles;
  others = s.behind;
}
  where
    by : (index : ℕ) → index < length edges → (mark : Mark) → slice_get walk.marks.items index ≡ Some mark → Has walk.order.items index
    by index l Mark.New e = absurd (found index l e)
    by index l (Mark.Open i) e = let m = w.marked in let p = w.parted in let q = p.none none in let k : i < length walk.path.items = at-within walk.path.items i index (m.open_there index i e) in absurd (omega (arith, k, q.0))
    by index l Mark.Closed e = let m = w.marked in m.closed_there index e

-- the numbers of what is reached are no greater
number-falls : (edges : Edges) (order cyclic numbers : List ℕ) → AreClosed edges order cyclic → AreNumbered edges order numbers → (x y : ℕ) → Has order x → Way edges x y → slice_index numbers y ≤ slice_index numbers x
number-falls edges order cyclic numbers s n x y h (inl same) = let e : slice_index numbers x ≡ slice_index numbers y = ap (slice_index numbers) same in omega arith
number-falls edges order cyclic numbers s n x y h (inr l) = along x y h l
  where
    along : (x y : ℕ) → Has order x → Leads (Edge edges) x y → slice_index numbers y ≤ slice_index numbers x
    along x y h (last d) = n.needs x y h d
    along x y h (more {b = k} d l) =
        let a : slice_index numbers k ≤ slice_index numbers x = n.needs x k h d in
        let b : slice_index numbers y ≤ slice_index numbers k = along k y (s.shut x k h d) l in
        omega arith

pub grouped : (edges : Edges) (walk : Walk) → AreWalk edges [] walk → IsOrdered edges walk.order.items walk.cyclic.items → AreGrouped edges walk.order.items walk.numbers.items
grouped edges walk w o = let n = w.numbered in record {
  long = n.long;
  same = λ i j l k. (
    λ e. (n.same i j (o.all i l) (o.all j k) e, n.same j i (o.all j k) (o.all i l) (sym e)),
    λ q.
        let a : slice_index walk.numbers.items j ≤ slice_index walk.numbers.items i = number-falls edges walk.order.items walk.cyclic.items walk.numbers.items w.shut n i j (o.all i l) q.0 in
        let b : slice_index walk.numbers.items i ≤ slice_index walk.numbers.items j = number-falls edges walk.order.items walk.cyclic.items walk.numbers.items w.shut n j i (o.all j k) q.1 in
        omega arith,
  );
  needs = λ i need d. n.needs i need (o.all i (at-within edges i d.0 d.1)) d;
  rising = n.rising;
}

module _ (edges : Edges) (old new : Walk) (need : ℕ) (all : HasIndices edges) (p : IsPopped edges need old) where
  -- an index that was new
  pub opened-on : slice_get old.marks.items need ≡ Some Mark.New → need < length edges
      → new.marks.items ≡ slice_set old.marks.items need (Mark.Open (length old.path.items)) → new.path.items ≡ old.path.items ++ need ∷ []
      → ((row : List ℕ) → slice_get edges need ≡ Some row → new.todo.items ≡ old.todo.items ++ row)
      → new.groups.items ≡ old.groups.items ++ record { first = length old.path.items; pending = length old.todo.items; cyclic = false } ∷ []
      → new.order.items ≡ old.order.items → new.cyclic.items ≡ old.cyclic.items → new.numbers.items ≡ old.numbers.items → WentOn edges (work edges old + 1) old new
  opened-on n l em ep et eg eo ec en =
      let w = p.walk_on in
      let r = at-there edges need l in
      let ways : (a y : ℕ) → slice_get old.path.items a ≡ Some y → Way edges y need = λ a y f.
      way-edge edges y p.index need (to-last edges (need ∷ []) old.path.items old.todo.items old.groups.items old.order.items w.parted w.opened a p.i y p.index f p.stands p.last (some-groups old.path.items old.todo.items old.groups.items p.i p.index w.parted p.stands)) p.needs
      in
      record {
        walk = walk-as edges [] _ new.marks.items _ new.path.items _ new.todo.items _ new.groups.items _ new.order.items _ new.cyclic.items _ new.numbers.items em ep (et r.0 r.1) eg eo ec en (walk-opened edges old.marks.items old.path.items old.todo.items old.groups.items old.order.items old.cyclic.items old.numbers.items need r.0 w n ways r.1);
        less = omega (arith, ap length (et r.0 r.1), length-append old.todo.items r.0, ap length eg, length-append old.groups.items (record { first = length old.path.items; pending = length old.todo.items; cyclic = false } ∷ []), ap (λ z. unvisited z edges) em, unvisited-open old.marks.items edges need (length old.path.items) r.0 n r.1);
        keeps = λ x c. set-new old.marks.items need x (length old.path.items) (ap (λ z. slice_get z x) (sym em) ∙ c);
      }

  -- one that was closed
  pub closed-on : slice_get old.marks.items need ≡ Some Mark.Closed → new ≡ old → WentOn edges (work edges old + 1) old new
  closed-on m e = subst (WentOn edges (work edges old + 1) old) (sym e) (record {
    walk = walk-closed edges old.marks.items old.path.items old.todo.items old.groups.items old.order.items old.cyclic.items old.numbers.items need p.walk_on m;
    less = omega arith;
    keeps = λ x c. c;
  })

  -- one that was open
  pub joined-on : (b : ℕ) → slice_get old.marks.items need ≡ Some (Mark.Open b) → AreJoined old.groups.items b new.groups.items
      → new.marks.items ≡ old.marks.items → new.path.items ≡ old.path.items → new.todo.items ≡ old.todo.items → new.order.items ≡ old.order.items → new.cyclic.items ≡ old.cyclic.items → new.numbers.items ≡ old.numbers.items → WentOn edges (work edges old + 1) old new
  joined-on b m j em ep et eo ec en =
      let h = j.holds in
      let l : j.r < length old.groups.items = at-within old.groups.items j.r j.group h.stands in
      record {
        walk = walk-as edges [] _ new.marks.items _ new.path.items _ new.todo.items _ new.groups.items _ new.order.items _ new.cyclic.items _ new.numbers.items em ep et j.joined eo ec en (walk-joined-at edges old.marks.items old.path.items old.todo.items old.groups.items old.order.items old.cyclic.items old.numbers.items need p.walk_on b m p.i p.index p.stands p.needs p.last j.r j.group j.holds);
        less = omega (arith, ap length et, ap length j.joined, length-append (take j.r old.groups.items) (record j.group { cyclic = true } ∷ []), length-take j.r old.groups.items, l, ap (λ z. unvisited z edges) em);
        keeps = λ x c. ap (λ z. slice_get z x) (sym em) ∙ c;
      }

module _ (edges : Edges) (old : Walk) (all : HasIndices edges) (w : AreWalk edges [] old) (top : Group) (t : IsTop old.groups.items top) where
  -- a need that is to be followed is one of the indices
  pub need-within : (rest : List ℕ) (need : ℕ) → old.todo.items ≡ rest ++ need ∷ [] → need < length edges
  need-within rest need e =
      let o = w.opened in
      let q = o.owned (length rest) need (ap (λ z. slice_get z (length rest)) e ∙ at-last rest need) in
      all q.index need q.needs

  pub is-popped : (new : Walk) (need : ℕ) → top.pending < length old.todo.items → old.todo.items ≡ new.todo.items ++ need ∷ [] → new.marks.items ≡ old.marks.items → new.path.items ≡ old.path.items → new.groups.items ≡ old.groups.items → new.order.items ≡ old.order.items → new.cyclic.items ≡ old.cyclic.items → new.numbers.items ≡ old.numbers.items → IsPopped edges need new
  is-popped new need l e em ep eg eo ec en =
      let o = w.opened in
      let rest = new.todo.items in
      let q = o.owned (length rest) need (ap (λ z. slice_get z (length rest)) e ∙ at-last rest need) in
      let under : (r : ℕ) (group : Group) → slice_get old.groups.items r ≡ Some group → group.pending ≤ length rest = λ r group f. below r group f (ap length e ∙ length-append rest (need ∷ [])) in
      record {
        walk_on = walk-as edges (need ∷ []) _ new.marks.items _ new.path.items _ rest _ new.groups.items _ new.order.items _ new.cyclic.items _ new.numbers.items em ep refl eg eo ec en (walk-popped edges old.marks.items old.path.items rest old.groups.items old.order.items old.cyclic.items old.numbers.items need (subst (λ z. IsWalk edges [] old.marks.items old.path.items z old.groups.items old.order.items old.cyclic.items old.numbers.items) e w) under);
        i = q.i;
        index = q.index;
        stands = ap (λ z. slice_get z q.i) ep ∙ q.stands;
        needs = q.needs;
        last = λ r group f. (let g = ap (λ z. slice_get z r) (sym eg) ∙ f in q.behind r group g (under r group g));
      }
    where
      below : (r : ℕ) (group : Group) → slice_get old.groups.items r ≡ Some group → length old.todo.items ≡ length new.todo.items + length (need ∷ []) → group.pending ≤ length new.todo.items
      below r group f q =
          let p = w.parted in
          let k : r < length old.groups.items = at-within old.groups.items r group f in
          cases (same-or-other r t.0)
          (λ same. let z : group ≡ top = at-same old.groups.items t.0 group top (ap (slice_get old.groups.items) (sym same) ∙ f) t.1 in subst (λ (y : Group). y.pending ≤ length new.todo.items) (sym z) (omega (arith, l, q)))
          (λ other. let z = p.rising r t.0 group top (omega (arith, k, t.2, other)) f t.1 in omega (arith, z.1, l, q))

  pub path-within : (k d : ℕ) → k < length old.path.items → get_or old.path.items k d < length old.marks.items
  path-within k d l = let m = w.marked in at-within old.marks.items (get_or old.path.items k d) (Mark.Open k) (m.open_mark k (get_or old.path.items k d) (slice_get-get_or old.path.items k d l))

  pub path-numbered : (k d : ℕ) → k < length old.path.items → get_or old.path.items k d < length old.numbers.items
  path-numbered k d l = let n = w.numbered in omega (arith, path-within k d l, n.long, w.long)

  -- what the last group's end leaves
  pub shut-on : (new : Walk) → length old.todo.items ≤ top.pending
      → new.marks.items ≡ set_all old.marks.items (drop top.first old.path.items) Mark.Closed → new.path.items ≡ take top.first old.path.items → new.todo.items ≡ old.todo.items → new.groups.items ≡ take t.0 old.groups.items
      → new.order.items ≡ old.order.items ++ drop top.first old.path.items → new.cyclic.items ≡ (if top.cyclic then old.cyclic.items ++ drop top.first old.path.items else old.cyclic.items) → new.numbers.items ≡ set_all old.numbers.items (drop top.first old.path.items) (length old.order.items) → WentOn edges (work edges old) old new
  shut-on new done em ep et eg eo ec en =
      let split : old.groups.items ≡ take t.0 old.groups.items ++ top ∷ [] = whole old.groups.items t.0 top t.1 t.2 in
      let v : IsWalk edges [] old.marks.items old.path.items old.todo.items (take t.0 old.groups.items ++ top ∷ []) old.order.items old.cyclic.items old.numbers.items = subst (λ z. IsWalk edges [] old.marks.items old.path.items old.todo.items z old.order.items old.cyclic.items old.numbers.items) split w in
      record {
        walk = walk-as edges [] _ new.marks.items _ new.path.items _ new.todo.items _ new.groups.items _ new.order.items _ new.cyclic.items _ new.numbers.items em ep et eg eo ec en (walk-shut edges old.marks.items old.path.items old.todo.items (take t.0 old.groups.items) top old.order.items old.cyclic.items old.numbers.items v done);
        less = omega (arith, ap length et, ap length eg, length-take t.0 old.groups.items, t.2, ap (λ z. unvisited z edges) em, unvisited-closed old.marks.items edges (drop top.first old.path.items));
        keeps = λ x c. marks-new old.marks.items (drop top.first old.path.items) x (ap (λ z. slice_get z x) (sym em) ∙ c);
      }
