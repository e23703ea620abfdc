-- What the trees of a state have more after a step was made, and the tree or the bounds that the machine finds have no more nodes than it made.
use Rattle.std.proofs.Common.{◌≡◌, ℕ, suc, ◌+◌, ◌≤◌, Bool, true, false, List, [], ◌∷◌, ◌++◌, Option, Some, None, refl, ap, arith}
use Rattle.std.specs.Prelude.{cond, nat_lt, option_and_then}
use Rattle.tla_symbols.specs.declared.lexeme.Lexeme.{Lexeme}
use Rattle.tla_tree.specs.declared.form.Form.{Form}
use Rattle.tla_tree.specs.Syntax.{Tree, Trees, Node, Nil, Cons, trees}
use Rattle.tla_tree.specs.Lexemes.{built}
use Rattle.precedence.specs.declared.Choice.{Choice}
use Rattle.expr_grammar.specs.declared.wait.Conversion.{Conversion}
use Rattle.expr_grammar.specs.declared.wait.Lead.{Lead}
use Rattle.expr_grammar.specs.declared.wait.MarkMove.{MarkMove}
use Rattle.expr_grammar.specs.declared.wait.PartMove.{PartMove}
use Rattle.expr_grammar.specs.declared.wait.Shape.{Shape}
use Rattle.expr_grammar.specs.declared.wait.Start.{Start}
use Rattle.expr_grammar.specs.declared.wait.Wait.{Wait}
use Rattle.expr_grammar.specs.Tables.{mode, Child, child, list_of, goes_on, begins, at_mark, endable, absorbs, role, edge_of, lead, takes, choice, shape, is_expression, name_of, names_of, bound_of, converted, finishes, at_part}
use Rattle.expr_grammar.specs.Machine.{whole, whole_bounds, close_bounds, finish_bounds, parse_bounds, start_bounds, Frame, frame, State, At, Have, inner, with_child, entry, ready, node, node_with, absorbed, complete, led, act, operator_step, moved, part_step, is_operator, within, on_bullet, leave, have, ended, marked, begun, step, run, start, close_all, finish, parse}
use Rattle.expr_grammar.specs.Counting.{nodes, all_nodes, held, held_by, made_name, made_names, made_bound, made_converted, made_led, made_ending, made_choice, made_operator, made_move, made_part, made_within, made_bullet, made_leave, made_have, made_ended, made_mark, made_begun, made_step, made_run, made_close, made_finish, made, made_bounds}
use Rattle.expr_laws.proofs.Counting.{nodes-then}

abbrev kept : List Tree → ℕ
kept ps = all_nodes (trees ps)

abbrev held_next : Option State → ℕ
held_next None = 0
held_next (Some st) = held_by st

kept-append : (ps qs : List Tree) → kept (ps ++ qs) ≡ kept ps + kept qs
kept-append [] qs = omega arith
kept-append (p ∷ ps) qs = omega (arith, kept-append ps qs)

name-held : (x : Tree) → nodes (name_of x) ≤ nodes x + made_name x
name-held (Node Form.Identifier s (Cons (Node (Form.Segment n) s' Nil) Nil)) = omega arith
name-held (Node Form.Identifier s _) = omega arith
name-held (Node _ s parts) = omega arith

names-held : (xs : Trees) → all_nodes (names_of xs) ≤ all_nodes xs + made_names xs
names-held Nil = omega arith
names-held (Cons x xs) = omega (arith, name-held x, names-held xs)

bound-held : (x y : Tree) (b : List Lexeme) → nodes (bound_of x y b) ≤ (nodes x + nodes y) + made_bound x
bound-held (Node Form.Tuple s parts) y b = omega (arith, names-held parts, nodes-then (names_of parts) y)
bound-held (Node Form.Identifier s parts) y b = omega (arith, name-held (Node Form.Identifier s parts))
bound-held (Node _ s parts) y b = omega arith

converted-held : (c : Conversion) (x : Tree) (b : List Lexeme) → kept (converted c x b) ≤ nodes x + made_converted c x
converted-held Conversion.Keep x b = omega arith
converted-held Conversion.Drop x b = omega arith
converted-held (Conversion.AsField n m) x b = omega arith
converted-held Conversion.AsBound (Node (Form.Infix t) s (Cons x (Cons y Nil))) b = omega (arith, bound-held x y b)
converted-held Conversion.AsBound _ b = omega arith

ending-held : (f : Frame) (fs : List Frame) (e : Tree) → held fs + suc (kept (f.parts ++ e ∷ [])) ≡ suc (held (f ∷ fs) + nodes e)
ending-held f fs e = omega (arith, kept-append f.parts (e ∷ []))

child-held : (c : Option Child) (fs : List Frame) → held_by (with_child c fs) ≡ held fs
child-held None fs = refl
child-held (Some c) fs = omega arith

ready-held : (f : Frame) (fs : List Frame) → held_by (ready (f ∷ fs)) ≡ held (f ∷ fs)
ready-held f fs = child-held (child f.wait) (frame (entry f.wait) f.parts f.read ∷ fs)

complete-held : (fs : List Frame) (e : Tree) (b : List Lexeme) → held_by (complete fs e b) ≡ held fs + nodes e
complete-held [] e b = refl
complete-held (f ∷ fs) e b = by-absorbed (absorbs f.wait)
  where
    by-absorbed : (o : Option Wait) → held_by (absorbed o f fs e b) ≡ held (f ∷ fs) + nodes e
    by-absorbed None = refl
    by-absorbed (Some w) = omega (arith, kept-append f.parts (e ∷ []))

-- what is held afterwards was held or made
abbrev Counted : ℕ → Option State → ℕ → Type 0
Counted made next k = held_next next ≤ k + made

either-counted : (c : Bool) (m n : ℕ) (x y : Option State) (k : ℕ) → Counted m x k → Counted n y k → Counted (cond c m n) (cond c x y) k
either-counted true m n x y k h j = h
either-counted false m n x y k h j = j

test-counted : (c : Bool) (x : Option State) (k : ℕ) → Counted 0 x k → Counted 0 (cond c x None) k
test-counted true x k h = h
test-counted false x k h = omega arith

choice-counted : (c : Choice) (m n : ℕ) (x y : Option State) (k : ℕ) → Counted m x k → Counted n y k → Counted (made_choice c m n) (act c x y) k
choice-counted Choice.Ends m n x y k h j = h
choice-counted Choice.Waits m n x y k h j = j
choice-counted Choice.Clashes m n x y k h j = omega arith

form-counted : (o : Option Form) (go : Form → ℕ) (next : Form → Option State) (k : ℕ) → ((form : Form) → Counted (suc (go form)) (next form) k) → Counted (made_ending o go) (option_and_then next o) k
form-counted None go next k h = omega arith
form-counted (Some form) go next k h = h form

bullet-counted : (l : Option Lexeme) (f : Frame) (fs : List Frame) (e : Tree) (b : List Lexeme) (t : Lexeme) (m : ℕ) (x : Option State) → Counted m x (held (f ∷ fs) + nodes e) → Counted (made_bullet l t m) (on_bullet l f fs e b t x) (held (f ∷ fs) + nodes e)
bullet-counted None f fs e b t m x h = h
bullet-counted (Some first) f fs e b t m x h = either-counted (goes_on first t) 0 m _ x _ (omega (arith, kept-append f.parts (e ∷ []))) h

led-counted : (l : Lead) (f : Frame) (fs : List Frame) (e : Tree) (b : List Lexeme) (t : Lexeme) → Counted (made_led l) (led l f fs e b t) (held (f ∷ fs) + nodes e)
led-counted (Lead.Push w) f fs e b t = omega (arith, ready-held (frame w (e ∷ []) (b ++ t ∷ [])) (f ∷ fs))
led-counted (Lead.Node form) f fs e b t = omega arith
led-counted Lead.NoLead f fs e b t = omega arith

operator-counted : (fs : List Frame) (e : Tree) (b : List Lexeme) (t : Lexeme) → Counted (made_operator fs e b t) (operator_step fs e b t) (held fs + nodes e)
operator-counted [] e b t = omega arith
operator-counted (f ∷ fs) e b t =
    either-counted (takes f.wait (role t.kind)) 0 _ _ _ _
    (test-counted (is_expression (shape e)) _ _ (omega (arith, kept-append f.parts (e ∷ []))))
    (choice-counted (choice f.wait (edge_of (role t.kind))) _ _ _ _ _
    (form-counted (finishes f.wait (shape e)) _ _ _ (λ form. omega (arith, operator-counted fs (node_with form f e b) (f.read ++ b) t, ending-held f fs e)))
    (either-counted (is_expression (shape e)) _ 0 _ None _ (led-counted (lead (role t.kind) t) f fs e b t) (omega arith)))

move-counted : (m : PartMove) (f : Frame) (fs : List Frame) (e : Tree) (b : List Lexeme) (t : Lexeme) (go : Form → ℕ) (next : Form → Option State) → ((form : Form) → Counted (suc (go form)) (next form) (held (f ∷ fs) + nodes e)) → Counted (made_move m e go) (moved m f fs e b t next) (held (f ∷ fs) + nodes e)
move-counted (PartMove.Finish form) f fs e b t go next h = h form
move-counted (PartMove.Done form c) f fs e b t go next h =
    let x : Tree = built form (trees (f.parts ++ converted c e b)) (f.read ++ (b ++ t ∷ [])) in
    omega (arith, complete-held fs x (f.read ++ (b ++ t ∷ [])), kept-append f.parts (converted c e b), converted-held c e b)
move-counted (PartMove.Goes w c) f fs e b t go next h = omega (arith, ready-held (frame w (f.parts ++ converted c e b) (f.read ++ (b ++ t ∷ []))) fs, kept-append f.parts (converted c e b), converted-held c e b)
move-counted (PartMove.Hand hd) f fs e b t go next h = omega (arith, ready-held (frame (Wait.Handing hd t) (f.parts ++ e ∷ []) (f.read ++ b)) fs, kept-append f.parts (e ∷ []))
move-counted (PartMove.Convert flag) f fs e b t go next h = omega (arith, name-held e)
move-counted PartMove.Refused f fs e b t go next h = omega arith

part-counted : (fs : List Frame) (e : Tree) (b : List Lexeme) (t : Lexeme) → Counted (made_part fs e b t) (part_step fs e b t) (held fs + nodes e)
part-counted [] e b t = omega arith
part-counted (f ∷ fs) e b t = move-counted (at_part f.wait (shape e) t) f fs e b t _ _ (λ form. omega (arith, part-counted fs (node_with form f e b) (f.read ++ b) t, ending-held f fs e))

within-counted : (fs : List Frame) (e : Tree) (b : List Lexeme) (t : Lexeme) → Counted (made_within fs e b t) (within fs e b t) (held fs + nodes e)
within-counted fs e b t = either-counted (is_operator (role t.kind)) _ _ _ _ _ (operator-counted fs e b t) (part-counted fs e b t)

leave-counted : (fs : List Frame) (e : Tree) (b : List Lexeme) (t : Lexeme) → Counted (made_leave fs e b t) (leave fs e b t) (held fs + nodes e)
leave-counted [] e b t = omega arith
leave-counted (f ∷ fs) e b t =
    bullet-counted (cond (is_expression (shape e)) (list_of f.wait) None) f fs e b t _ _
    (form-counted (finishes f.wait (shape e)) _ _ _ (λ form.
    let h : Counted (cond (nat_lt t.col (inner fs)) (made_leave fs (node_with form f e b) (f.read ++ b) t) (made_within fs (node_with form f e b) (f.read ++ b) t)) (cond (nat_lt t.col (inner fs)) (leave fs (node_with form f e b) (f.read ++ b) t) (within fs (node_with form f e b) (f.read ++ b) t)) (held fs + nodes (node_with form f e b)) =
    either-counted (nat_lt t.col (inner fs)) _ _ _ _ _ (leave-counted fs (node_with form f e b) (f.read ++ b) t) (within-counted fs (node_with form f e b) (f.read ++ b) t)
    in
    omega (arith, h, ending-held f fs e)))

have-counted : (fs : List Frame) (e : Tree) (b : List Lexeme) (t : Lexeme) → Counted (made_have fs e b t) (have fs e b t) (held fs + nodes e)
have-counted fs e b t = either-counted (nat_lt t.col (inner fs)) _ _ _ _ _ (leave-counted fs e b t) (within-counted fs e b t)

ended-counted : (o : Option Form) (f : Frame) (fs : List Frame) (t : Lexeme) → Counted (made_ended o f fs t) (ended o f fs t) (held (f ∷ fs))
ended-counted o f fs t = form-counted o _ _ _ (λ form. omega (arith, have-counted fs (node form f) f.read t))

mark-counted : (m : MarkMove) (f : Frame) (fs : List Frame) (t : Lexeme) → Counted (made_mark m f fs t) (marked m f fs t) (held (f ∷ fs))
mark-counted (MarkMove.Shift w) f fs t = omega (arith, ready-held (frame w f.parts (f.read ++ t ∷ [])) fs)
mark-counted (MarkMove.Leaf form w) f fs t = omega (arith, ready-held (frame w (f.parts ++ built form Nil (t ∷ []) ∷ []) (f.read ++ t ∷ [])) fs, kept-append f.parts (built form Nil (t ∷ []) ∷ []))
mark-counted (MarkMove.LeafOf form n w) f fs t = omega (arith, ready-held (frame w (f.parts ++ built form Nil (n ∷ []) ∷ []) (f.read ++ t ∷ [])) fs, kept-append f.parts (built form Nil (n ∷ []) ∷ []))
mark-counted (MarkMove.Push w) f fs t = omega (arith, ready-held (frame w [] (t ∷ [])) (f ∷ fs))
mark-counted (MarkMove.Hand h) f fs t = omega (arith, ready-held (frame (Wait.Handing h t) f.parts f.read) fs)
mark-counted (MarkMove.Close form) f fs t = omega (arith, complete-held fs (built form (trees f.parts) (f.read ++ t ∷ [])) (f.read ++ t ∷ []))
mark-counted MarkMove.Refused f fs t = ended-counted (endable f.wait (Some t.kind)) f fs t

begun-counted : (s : Start) (f : Frame) (fs : List Frame) (t : Lexeme) → Counted (made_begun s f fs t) (begun s f fs t) (held (f ∷ fs))
begun-counted (Start.Leaf form) f fs t = omega arith
begun-counted (Start.Push w) f fs t = omega (arith, ready-held (frame w [] (t ∷ [])) (f ∷ fs))
begun-counted (Start.PushLeaf form w) f fs t = omega (arith, ready-held (frame w (built form Nil (t ∷ []) ∷ []) (t ∷ [])) (f ∷ fs))
begun-counted (Start.Hand h) f fs t = omega (arith, ready-held (frame (Wait.Handing h t) [] []) (f ∷ fs))
begun-counted Start.NoStart f fs t = mark-counted (at_mark f.wait t) f fs t

step-counted : (st : State) (t : Lexeme) → Counted (made_step st t) (step st t) (held_by st)
step-counted (At []) t = omega arith
step-counted (At (f ∷ fs)) t = either-counted (nat_lt t.col (inner (f ∷ fs))) _ _ _ _ _ (ended-counted (endable f.wait (Some t.kind)) f fs t) (begun-counted (begins (mode f.wait) t) f fs t)
step-counted (Have fs e b) t = have-counted fs e b t

pub step-held : (st next : State) (t : Lexeme) → step st t ≡ Some next → held_by next ≤ held_by st + made_step st t
step-held st next t e =
    let q : held_next (step st t) ≡ held_by next = ap held_next e in
    omega (arith, q, step-counted st t)

run-counted : (o : Option State) (ts : List Lexeme) → held_next (run o ts) ≤ held_next o + made_run o ts
run-counted o [] = omega arith
run-counted None (t ∷ ts) = omega arith
run-counted (Some st) (t ∷ ts) = omega (arith, step-counted st t, run-counted (step st t) ts)

-- at the end
abbrev nodes_found : Option Tree → ℕ
nodes_found None = 0
nodes_found (Some tree) = nodes tree

found-counted : (o : Option Form) (go : Form → ℕ) (next : Form → Option Tree) (k : ℕ) → ((form : Form) → nodes_found (next form) ≤ k + suc (go form)) → nodes_found (option_and_then next o) ≤ k + made_ending o go
found-counted None go next k h = omega arith
found-counted (Some form) go next k h = h form

whole-counted : (c : Bool) (e : Tree) (k : ℕ) → nodes e ≤ k → nodes_found (cond c (Some e) None) ≤ k
whole-counted true e k h = h
whole-counted false e k h = omega arith

bottom-counted : (w : Wait) (e : Tree) (k : ℕ) → nodes e ≤ k → nodes_found (whole w e) ≤ k
bottom-counted Wait.Whole e k h = whole-counted (is_expression (shape e)) e k h
bottom-counted _ e k h = omega arith

close-counted : (fs : List Frame) (e : Tree) (b : List Lexeme) → nodes_found (close_all fs e b) ≤ (held fs + nodes e) + made_close fs e b
close-counted [] e b = omega arith
close-counted (f ∷ []) e b = bottom-counted f.wait e _ (omega arith)
close-counted (f ∷ g ∷ fs) e b = found-counted (finishes f.wait (shape e)) _ _ _ (λ form. omega (arith, close-counted (g ∷ fs) (node_with form f e b) (f.read ++ b), ending-held f (g ∷ fs) e))

finish-counted : (o : Option State) → nodes_found (finish o) ≤ held_next o + made_finish o
finish-counted None = omega arith
finish-counted (Some (At [])) = omega arith
finish-counted (Some (At (f ∷ fs))) = found-counted (endable f.wait None) _ _ _ (λ form. omega (arith, close-counted fs (node form f) f.read))
finish-counted (Some (Have fs e b)) = close-counted fs e b

pub nodes-made : (tree : Tree) (ts : List Lexeme) → parse ts ≡ Some tree → nodes tree ≤ made ts
nodes-made tree ts e =
    let q : nodes_found (parse ts) ≡ nodes tree = ap nodes_found e in
    omega (arith, q, run-counted (Some start) ts, finish-counted (run (Some start) ts))

-- the same for bounds alone
abbrev bounds_found : Option Trees → ℕ
bounds_found None = 0
bounds_found (Some bounds) = all_nodes bounds

found-bounds : (o : Option Form) (go : Form → ℕ) (next : Form → Option Trees) (k : ℕ) → ((form : Form) → bounds_found (next form) ≤ k + suc (go form)) → bounds_found (option_and_then next o) ≤ k + made_ending o go
found-bounds None go next k h = omega arith
found-bounds (Some form) go next k h = h form

bottom-bounds : (w : Wait) (sh : Shape) (xs : Trees) → bounds_found (whole_bounds w sh xs) ≤ all_nodes xs
bottom-bounds Wait.WholeBounds Shape.Bound xs = omega arith
bottom-bounds _ sh xs = omega arith

close-bounds-counted : (fs : List Frame) (e : Tree) (b : List Lexeme) → bounds_found (close_bounds fs e b) ≤ (held fs + nodes e) + made_close fs e b
close-bounds-counted [] e b = omega arith
close-bounds-counted (f ∷ []) e b = omega (arith, bottom-bounds f.wait (shape e) (trees (f.parts ++ e ∷ [])), kept-append f.parts (e ∷ []))
close-bounds-counted (f ∷ g ∷ fs) e b = found-bounds (finishes f.wait (shape e)) _ _ _ (λ form. omega (arith, close-bounds-counted (g ∷ fs) (node_with form f e b) (f.read ++ b), ending-held f (g ∷ fs) e))

finish-bounds-counted : (o : Option State) → bounds_found (finish_bounds o) ≤ held_next o + made_finish o
finish-bounds-counted None = omega arith
finish-bounds-counted (Some (At [])) = omega arith
finish-bounds-counted (Some (At (f ∷ fs))) = found-bounds (endable f.wait None) _ _ _ (λ form. omega (arith, close-bounds-counted fs (node form f) f.read))
finish-bounds-counted (Some (Have fs e b)) = close-bounds-counted fs e b

pub bounds-made : (bounds : Trees) (ts : List Lexeme) → parse_bounds ts ≡ Some bounds → all_nodes bounds ≤ made_bounds ts
bounds-made bounds ts e =
    let q : bounds_found (parse_bounds ts) ≡ all_nodes bounds = ap bounds_found e in
    omega (arith, q, run-counted (Some start_bounds) ts, finish-bounds-counted (run (Some start_bounds) ts))
