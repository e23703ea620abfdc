-- What the machine does at each move of a frame, and how it reads expressions and bounds.
use Rattle.std.proofs.Common.{◌≡◌, ℕ, Bool, true, false, List, [], ◌∷◌, ◌++◌, Option, Some, None, refl, ap, sym, subst, ◌∙◌, append_assoc, append-nil}
use Rattle.std.specs.Prelude.{cond, nat_lt}
use Rattle.tla_symbols.specs.declared.lexeme.Lexeme.{Lexeme}
use Rattle.tla_tree.specs.declared.form.Form.{Form}
use Rattle.tla_tree.specs.Syntax.{Tree, Trees, Nil}
use Rattle.tla_tree.specs.Lexemes.{built, then}
use Rattle.tla_tree.specs.Derivation.{Derives}
use Rattle.expr_grammar.specs.declared.wait.Wait.TheVariants as Waits
use Rattle.expr_grammar.specs.declared.wait.Mode.TheVariants as Mode
use Rattle.expr_grammar.specs.declared.wait.Start.TheVariants as Start
use Rattle.expr_grammar.specs.Kinds.{is_right_bracket}
use Rattle.expr_grammar.specs.Tables.{begins}
use Rattle.expr_grammar.specs.Machine as Expressions
use Rattle.expr_grammar.specs.Machine.{start, start_bounds, finish, finish_bounds, parse_bounds, begun as begun_with}
use Rattle.expr_grammar.specs.Following.{stops, done_before, bounds_done_before}
use Rattle.expr_laws.proofs.Complete.{run-none}
use Rattle.expr_laws.proofs.Stopping.{derives-done}
use Rattle.unit_grammar.specs.Units.{UnitTree}
use Rattle.unit_machine.specs.declared.wait.Wait.{Wait}
use Rattle.unit_machine.specs.declared.wait.Move.{Move}
use Rattle.unit_machine.specs.Tables.{move, after_expression, after_bounds}
use Rattle.unit_machine.specs.Machine.{Frame, frame, Begun, OfConstants, Part, Expression, Bounds, State, state, finished, node, taking, shut, reading, moved, part_step, given, expression_step, reading_bounds, bounds_step, run}
use Rattle.unit_laws.proofs.Stopping.{done-refused, bounds-refused}

-- the unit that is read, what waits for the part, and where in the modules that is
pub record Around : Type 0 where
  pub begun : Begun
  pub frames : List Frame
  pub depth : ℕ
  pub units : List UnitTree

abbrev pub around : Begun → List Frame → ℕ → List UnitTree → Around
around begun fs d us = record { begun = begun; frames = fs; depth = d; units = us }

abbrev pub at : Around → Wait → Trees → List Lexeme → Option State
at k w ps a = Some (state k.depth k.units (Part k.begun (frame w ps a) k.frames))

-- what a lexeme does after a part, which the frame below has then
abbrev pub taken : List Frame → Begun → Tree → List Lexeme → ℕ → List UnitTree → Lexeme → Option State
taken [] begun x b d us t = finished begun x d us t
taken (g ∷ gs) begun x b d us t = part_step gs begun (taking g x b) d us t

abbrev pub took : Around → Tree → List Lexeme → Lexeme → Option State
took k x b t = taken k.frames k.begun x b k.depth k.units t

pub by-move : (fs : List Frame) (begun : Begun) (f : Frame) (d : ℕ) (us : List UnitTree) (t : Lexeme) (m : Move) → move f.wait t ≡ m → part_step fs begun f d us t ≡ moved m begun f fs d us t (λ form. taken fs begun (node form f) f.read d us t)
by-move [] begun f d us t m e = ap (λ z. moved z begun f [] d us t (λ form. finished begun (node form f) d us t)) e
by-move (g ∷ gs) begun f d us t m e = ap (λ z. moved z begun f (g ∷ gs) d us t (λ form. part_step gs begun (taking g (node form f) f.read) d us t)) e

-- one lexeme of a frame, by its move
pub shifts : (k : Around) (w : Wait) (ps : Trees) (a : List Lexeme) (t : Lexeme) (ts : List Lexeme) (v : Wait) → move w t ≡ Move.Shift v → run (at k w ps a) (t ∷ ts) ≡ run (at k v ps (a ++ t ∷ [])) ts
shifts k w ps a t ts v e = ap (λ o. run o ts) (by-move k.frames k.begun (frame w ps a) k.depth k.units t (Move.Shift v) e)

pub leafs : (k : Around) (w : Wait) (ps : Trees) (a : List Lexeme) (t : Lexeme) (ts : List Lexeme) (form : Form) (v : Wait) → move w t ≡ Move.Leaf form v → run (at k w ps a) (t ∷ ts) ≡ run (at k v (then ps (built form Nil (t ∷ []))) (a ++ t ∷ [])) ts
leafs k w ps a t ts form v e = ap (λ o. run o ts) (by-move k.frames k.begun (frame w ps a) k.depth k.units t (Move.Leaf form v) e)

pub leafs-of : (k : Around) (w : Wait) (ps : Trees) (a : List Lexeme) (t : Lexeme) (ts : List Lexeme) (form : Form) (n : Lexeme) (v : Wait) → move w t ≡ Move.LeafOf form n v → run (at k w ps a) (t ∷ ts) ≡ run (at k v (then ps (built form Nil (n ∷ []))) (a ++ t ∷ [])) ts
leafs-of k w ps a t ts form n v e = ap (λ o. run o ts) (by-move k.frames k.begun (frame w ps a) k.depth k.units t (Move.LeafOf form n v) e)

-- a frame above
abbrev pub above : Around → Frame → Around
above k f = around k.begun (f ∷ k.frames) k.depth k.units

pub pushes : (k : Around) (w : Wait) (ps : Trees) (a : List Lexeme) (t : Lexeme) (ts : List Lexeme) (v : Wait) → move w t ≡ Move.Push v → run (at k w ps a) (t ∷ ts) ≡ run (at (above k (frame w ps a)) v Nil (t ∷ [])) ts
pushes k w ps a t ts v e = ap (λ o. run o ts) (by-move k.frames k.begun (frame w ps a) k.depth k.units t (Move.Push v) e)

pub opens : (k : Around) (w : Wait) (ps : Trees) (a : List Lexeme) (t : Lexeme) (ts : List Lexeme) (v c : Wait) → move w t ≡ Move.Opens v c → run (at k w ps a) (t ∷ ts) ≡ run (at (above k (frame v ps (a ++ t ∷ []))) c Nil []) ts
opens k w ps a t ts v c e = ap (λ o. run o ts) (by-move k.frames k.begun (frame w ps a) k.depth k.units t (Move.Opens v c) e)

pub bounded : (k : Around) (w : Wait) (ps : Trees) (a : List Lexeme) (t : Lexeme) (ts : List Lexeme) (v : Wait) → move w t ≡ Move.Bounds v → run (at k w ps a) (t ∷ ts) ≡ run (Some (state k.depth k.units (Bounds k.begun (frame v ps (a ++ t ∷ [])) start_bounds []))) ts
bounded k w ps a t ts v e = ap (λ o. run o ts) (by-move k.frames k.begun (frame w ps a) k.depth k.units t (Move.Bounds v) e)

pub ends : (k : Around) (w : Wait) (ps : Trees) (a : List Lexeme) (t : Lexeme) (ts : List Lexeme) (form : Form) → move w t ≡ Move.Ends form → run (at k w ps a) (t ∷ ts) ≡ run (took k (built form ps a) a t) ts
ends k w ps a t ts form e = ap (λ o. run o ts) (by-move k.frames k.begun (frame w ps a) k.depth k.units t (Move.Ends form) e)

-- where a part may end with its own last lexeme
pub data Concludes : Begun → List Frame → Type 0 where
  declares : {xs : Trees} → Concludes (OfConstants xs) []
  held : {begun : Begun} {g : Frame} {gs : List Frame} → Concludes begun (g ∷ gs)

shut-takes : {begun : Begun} {fs : List Frame} → Concludes begun fs → (x : Tree) (b : List Lexeme) (d : ℕ) (us : List UnitTree) (t : Lexeme) (ts : List Lexeme) → run (shut begun fs x b d us) (t ∷ ts) ≡ run (taken fs begun x b d us t) ts
shut-takes declares x b d us t ts = refl
shut-takes held x b d us t ts = refl

pub closes : (k : Around) (w : Wait) (ps : Trees) (a : List Lexeme) (u t : Lexeme) (ts : List Lexeme) (form : Form) → Concludes k.begun k.frames → move w u ≡ Move.Close form → run (at k w ps a) (u ∷ t ∷ ts) ≡ run (took k (built form ps (a ++ u ∷ [])) (a ++ u ∷ []) t) ts
closes k w ps a u t ts form h e =
    ap (λ o. run o (t ∷ ts)) (by-move k.frames k.begun (frame w ps a) k.depth k.units u (Move.Close form) e)
    ∙ shut-takes h (built form ps (a ++ u ∷ [])) (a ++ u ∷ []) k.depth k.units t ts

-- ---- expressions

-- the machine for expressions goes on where it still finds a tree
pub goes-on : (st : Expressions.State) (s : Lexeme) (a : List Lexeme) (o : Option Expressions.State) → Expressions.step st s ≡ o → (x : Tree) → finish (Expressions.run (Some st) (s ∷ a)) ≡ Some x → (next : Expressions.State) × (Expressions.step st s ≡ Some next)
goes-on st s a None e x h = let q : finish (Expressions.run (Some st) (s ∷ a)) ≡ None = ap (λ z. finish (Expressions.run z a)) e ∙ ap finish (run-none a) in cc
goes-on st s a (Some next) e x h = (next, e)

pub run-snoc : (b : List Lexeme) (s : Lexeme) (o : Option Expressions.State) (st next : Expressions.State) → Expressions.run o b ≡ Some st → Expressions.step st s ≡ Some next → Expressions.run o (b ++ s ∷ []) ≡ Some next
run-snoc [] s None st next e h = cc
run-snoc [] s (Some su) st next e h = let q : su ≡ st = cc in subst (λ z. Expressions.step z s ≡ Some next) (sym q) h
run-snoc (t ∷ b) s None st next e h = cc
run-snoc (t ∷ b) s (Some su) st next e h = run-snoc b s (Expressions.step su t) st next e h

run-parts : (b c : List Lexeme) (o : Option Expressions.State) (st : Expressions.State) → Expressions.run o b ≡ Some st → Expressions.run o (b ++ c) ≡ Expressions.run (Some st) c
run-parts [] c o st e = ap (λ z. Expressions.run z c) e
run-parts (t ∷ b) c None st e = cc
run-parts (t ∷ b) c (Some su) st e = run-parts b c (Expressions.step su t) st e

-- it is not done too early
not-done : (b : List Lexeme) (st next : Expressions.State) (s : Lexeme) → Expressions.run (Some start) b ≡ Some st → Expressions.step st s ≡ Some next → done_before (Some st) s.kind ≡ None
not-done b st next s e h = by (stops s.kind) refl (finish (Some st)) refl
  where
    by : (c : Bool) → stops s.kind ≡ c → (o : Option Tree) → finish (Some st) ≡ o → cond c o None ≡ None
    by false q o r = refl
    by true q None r = refl
    by true q (Some x) r = let z : Expressions.step st s ≡ None = done-refused b st x s e r q in cc

pub reads-on : (a : List Lexeme) (begun : Begun) (fs : List Frame) (st : Expressions.State) (b : List Lexeme) (d : ℕ) (us : List UnitTree) (t : Lexeme) (ts : List Lexeme) (x : Tree) → Expressions.run (Some start) b ≡ Some st → stops t.kind ≡ true → Derives x (b ++ a) 0 (Some t) → run (Some (state d us (Expression begun fs st b))) (a ++ t ∷ ts) ≡ run (given fs begun x (b ++ a) d us t) ts
reads-on [] begun fs st b d us t ts x e s h =
    let p : done_before (Expressions.run (Some start) (b ++ [])) t.kind ≡ Some x = derives-done (b ++ []) x t s h in
    let q : done_before (Some st) t.kind ≡ Some x = subst (λ z. done_before z t.kind ≡ Some x) (ap (λ z. Expressions.run (Some start) z) (append-nil b) ∙ e) p in
    ap (λ z. run (expression_step z begun fs st b d us t) ts) q ∙ ap (λ z. run (given fs begun x z d us t) ts) (sym (append-nil b))
reads-on (u ∷ a) begun fs st b d us t ts x e s h =
    let p : done_before (Expressions.run (Some start) (b ++ u ∷ a)) t.kind ≡ Some x = derives-done (b ++ u ∷ a) x t s h in
    let r : Expressions.run (Some start) (b ++ u ∷ a) ≡ Expressions.run (Some st) (u ∷ a) = run-parts b (u ∷ a) (Some start) st e in
    let f : finish (Expressions.run (Some st) (u ∷ a)) ≡ Some x = subst (λ z. finish z ≡ Some x) r (subst (λ z. cond z (finish (Expressions.run (Some start) (b ++ u ∷ a))) None ≡ Some x) s p) in
    let g : (next : Expressions.State) × (Expressions.step st u ≡ Some next) = goes-on st u a (Expressions.step st u) refl x f in
    let n : done_before (Some st) u.kind ≡ None = not-done b st g.0 u e g.1 in
    let l : (b ++ u ∷ []) ++ a ≡ b ++ u ∷ a = append_assoc b (u ∷ []) a in
    let i : run (Some (state d us (Expression begun fs g.0 (b ++ u ∷ [])))) (a ++ t ∷ ts) ≡ run (given fs begun x ((b ++ u ∷ []) ++ a) d us t) ts =
    reads-on a begun fs g.0 (b ++ u ∷ []) d us t ts x (run-snoc b u (Some start) st g.0 e g.1) s (subst (λ z. Derives x z 0 (Some t)) (sym l) h)
    in
    ap (λ z. run (expression_step z begun fs st b d us u) (a ++ t ∷ ts)) n
    ∙ (ap (λ z. run (reading z begun fs (b ++ u ∷ []) d us) (a ++ t ∷ ts)) g.1 ∙ (i ∙ ap (λ z. run (given fs begun x z d us t) ts) l))

-- what the machine takes first begins an expression under the wait
abbrev pub Expects : Wait → Type 0
Expects w = (s : Lexeme) (next : Expressions.State) → Expressions.step start s ≡ Some next → move w s ≡ Move.Expression

no-expression : (t : Lexeme) (x : Tree) → stops t.kind ≡ true → done_before (Some start) t.kind ≡ Some x → ⊥
no-expression t x s h = let q : None ≡ Some x = subst (λ z. cond z (finish (Some start)) None ≡ Some x) s h in cc

begins-expression : (k : Around) (w : Wait) (ps : Trees) (c a : List Lexeme) (t : Lexeme) (ts : List Lexeme) (x : Tree) → Expects w → stops t.kind ≡ true → Derives x a 0 (Some t) → run (at k w ps c) (a ++ t ∷ ts) ≡ run (given (frame w ps c ∷ k.frames) k.begun x a k.depth k.units t) ts
begins-expression k w ps c [] t ts x m s h = absurd (no-expression t x s (derives-done [] x t s h))
begins-expression k w ps c (u ∷ a) t ts x m s h =
    let p : done_before (Expressions.run (Some start) (u ∷ a)) t.kind ≡ Some x = derives-done (u ∷ a) x t s h in
    let f : finish (Expressions.run (Some start) (u ∷ a)) ≡ Some x = subst (λ z. cond z (finish (Expressions.run (Some start) (u ∷ a))) None ≡ Some x) s p in
    let g : (next : Expressions.State) × (Expressions.step start u ≡ Some next) = goes-on start u a (Expressions.step start u) refl x f in
    ap (λ o. run o (a ++ t ∷ ts)) (by-move k.frames k.begun (frame w ps c) k.depth k.units u Move.Expression (m u g.0 g.1))
    ∙ (ap (λ z. run (reading z k.begun (frame w ps c ∷ k.frames) (u ∷ []) k.depth k.units) (a ++ t ∷ ts)) g.1
    ∙ reads-on a k.begun (frame w ps c ∷ k.frames) g.0 (u ∷ []) k.depth k.units t ts x g.1 s h)

-- an expression that ends its frame
pub expresses : (k : Around) (w : Wait) (ps : Trees) (c a : List Lexeme) (t : Lexeme) (ts : List Lexeme) (x : Tree) (form : Form) → after_expression w ≡ Wait.Complete form → Expects w → stops t.kind ≡ true → Derives x a 0 (Some t) → run (at k w ps c) (a ++ t ∷ ts) ≡ run (took k (built form (then ps x) (c ++ a)) (c ++ a) t) ts
expresses k w ps c a t ts x form e m s h =
    begins-expression k w ps c a t ts x m s h
    ∙ ap (λ o. run o ts) (by-move k.frames k.begun (frame (after_expression w) (then ps x) (c ++ a)) k.depth k.units t (Move.Ends form) (ap (λ v. move v t) e))

-- what begins no expression
pub no-start : (s : Lexeme) (next : Expressions.State) → begins Mode.Operand s ≡ Start.NoStart → Expressions.step start s ≡ Some next → ⊥
no-start s next e h = by (nat_lt s.col 0) (ap (λ z. begun_with z (Expressions.frame Waits.Whole [] []) [] s) e) h
  where
    by : (c : Bool) {o : Option Expressions.State} → o ≡ None → cond c None o ≡ Some next → ⊥
    by true q r = cc
    by false q r = cc

-- ---- bounds

bounds-on : (st : Expressions.State) (s : Lexeme) (a : List Lexeme) (o : Option Expressions.State) → Expressions.step st s ≡ o → (xs : Trees) → finish_bounds (Expressions.run (Some st) (s ∷ a)) ≡ Some xs → (next : Expressions.State) × (Expressions.step st s ≡ Some next)
bounds-on st s a None e xs h = let q : finish_bounds (Expressions.run (Some st) (s ∷ a)) ≡ None = ap (λ z. finish_bounds (Expressions.run z a)) e ∙ ap finish_bounds (run-none a) in cc
bounds-on st s a (Some next) e xs h = (next, e)

not-yet : (st next : Expressions.State) (s : Lexeme) → Expressions.step st s ≡ Some next → bounds_done_before (Some st) s.kind ≡ None
not-yet st next s h = by (is_right_bracket s.kind) refl (finish_bounds (Some st)) refl
  where
    by : (c : Bool) → is_right_bracket s.kind ≡ c → (o : Option Trees) → finish_bounds (Some st) ≡ o → cond c o None ≡ None
    by false q o r = refl
    by true q None r = refl
    by true q (Some xs) r = let z : Expressions.step st s ≡ None = bounds-refused st xs s r q in cc

pub reads-bounds : (a : List Lexeme) (begun : Begun) (f : Frame) (st : Expressions.State) (b : List Lexeme) (d : ℕ) (us : List UnitTree) (t : Lexeme) (ts : List Lexeme) (xs : Trees) → Expressions.run (Some start_bounds) b ≡ Some st → is_right_bracket t.kind ≡ true → parse_bounds (b ++ a) ≡ Some xs → run (Some (state d us (Bounds begun f st b))) (a ++ t ∷ ts) ≡ run (part_step [] begun (frame (after_bounds f.wait) xs (f.read ++ (b ++ a))) d us t) ts
reads-bounds [] begun f st b d us t ts xs e r h =
    let p : finish_bounds (Some st) ≡ Some xs = subst (λ z. finish_bounds z ≡ Some xs) (ap (λ z. Expressions.run (Some start_bounds) z) (append-nil b) ∙ e) h in
    let q : bounds_done_before (Some st) t.kind ≡ Some xs = ap (λ z. cond z (finish_bounds (Some st)) None) r ∙ p in
    ap (λ z. run (bounds_step z begun f st b d us t) ts) q ∙ ap (λ z. run (part_step [] begun (frame (after_bounds f.wait) xs (f.read ++ z)) d us t) ts) (sym (append-nil b))
reads-bounds (u ∷ a) begun f st b d us t ts xs e r h =
    let q : Expressions.run (Some start_bounds) (b ++ u ∷ a) ≡ Expressions.run (Some st) (u ∷ a) = run-parts b (u ∷ a) (Some start_bounds) st e in
    let g : (next : Expressions.State) × (Expressions.step st u ≡ Some next) = bounds-on st u a (Expressions.step st u) refl xs (subst (λ z. finish_bounds z ≡ Some xs) q h) in
    let n : bounds_done_before (Some st) u.kind ≡ None = not-yet st g.0 u g.1 in
    let l : (b ++ u ∷ []) ++ a ≡ b ++ u ∷ a = append_assoc b (u ∷ []) a in
    let i : run (Some (state d us (Bounds begun f g.0 (b ++ u ∷ [])))) (a ++ t ∷ ts) ≡ run (part_step [] begun (frame (after_bounds f.wait) xs (f.read ++ ((b ++ u ∷ []) ++ a))) d us t) ts =
    reads-bounds a begun f g.0 (b ++ u ∷ []) d us t ts xs (run-snoc b u (Some start_bounds) st g.0 e g.1) r (subst (λ z. parse_bounds z ≡ Some xs) (sym l) h)
    in
    ap (λ z. run (bounds_step z begun f st b d us u) (a ++ t ∷ ts)) n
    ∙ (ap (λ z. run (reading_bounds z begun f (b ++ u ∷ []) d us) (a ++ t ∷ ts)) g.1 ∙ (i ∙ ap (λ z. run (part_step [] begun (frame (after_bounds f.wait) xs (f.read ++ z)) d us t) ts) l))
