-- The machine makes at most eight nodes for each lexeme.
--
-- Each frame may still make one node, and an identifier one more where it turns out to bind. What is still to be made is
-- kept against what was made: two for each frame and one for each identifier.
use Rattle.std.proofs.Common.{◌≡◌, ℕ, suc, ◌+◌, ◌*◌, ◌≤◌, Bool, true, false, List, [], ◌∷◌, ◌++◌, Option, Some, None, length, arith}
use Rattle.std.specs.Prelude.{cond, nat_lt, option_and_then}
use Rattle.tla_symbols.specs.declared.lexeme.Lexeme.{Lexeme}
use Rattle.tla_tree.specs.declared.form.Form.{Form}
use Rattle.tla_tree.specs.Syntax.{Tree, Trees, Node, Nil, Cons, trees}
use Rattle.tla_tree.specs.Lexemes.{built, one, then}
use Rattle.precedence.specs.declared.Choice.{Choice}
use Rattle.expr_grammar.specs.declared.wait.Binding.TheVariants as Binding
use Rattle.expr_grammar.specs.declared.wait.Conversion.{Conversion}
use Rattle.expr_grammar.specs.declared.wait.Lead.{Lead}
use Rattle.expr_grammar.specs.declared.wait.MarkMove.{MarkMove}
use Rattle.expr_grammar.specs.declared.wait.PartMove.{PartMove}
use Rattle.expr_grammar.specs.declared.wait.Start.{Start}
use Rattle.expr_grammar.specs.declared.wait.Wait.{Wait}
use Rattle.expr_grammar.specs.Kinds.{is_name, is_left_angle}
use Rattle.expr_grammar.specs.Tables.{mode, Child, child, list_of, goes_on, begins, at_mark, endable, absorbs, role, edge_of, lead, takes, choice, shape, is_expression, name_of, names_of, bound_of, converted, finishes, at_part}
use Rattle.expr_grammar.specs.Machine.{Frame, frame, State, At, Have, inner, with_child, entry, ready, node, node_with, absorbed, complete, led, act, operator_step, moved, part_step, is_operator, within, on_bullet, leave, have, ended, marked, begun, step, run, start, start_bounds}
use Rattle.expr_grammar.specs.Counting.{made_name, made_names, made_bound, made_converted, made_led, made_ending, made_choice, made_operator, made_move, made_part, made_within, made_bullet, made_leave, made_have, made_ended, made_mark, made_begun, made_step, made_run, made_close, made_finish, made, made_bounds}

abbrev names : Form → ℕ
names Form.Identifier = 1
names _ = 0

-- identifiers in a tree
abbrev mutual
  identifiers : Tree → ℕ
  identifiers (Node f s parts) = names f + all_identifiers parts

  all_identifiers : Trees → ℕ
  all_identifiers Nil = 0
  all_identifiers (Cons tree rest) = identifiers tree + all_identifiers rest

abbrev kept : List Tree → ℕ
kept ps = all_identifiers (trees ps)

-- what frames may still make
abbrev owed : List Frame → ℕ
owed [] = 0
owed (f ∷ fs) = 2 + (kept f.parts + owed fs)

abbrev owed_by : State → ℕ
owed_by (At fs) = owed fs
owed_by (Have fs e b) = owed fs + identifiers e

abbrev owed_next : Option State → ℕ
owed_next None = 0
owed_next (Some st) = owed_by st

names-one : (f : Form) → names f ≤ 1
names-one Form.Identifier = omega arith
names-one _ = omega arith

identifiers-then : (xs : Trees) (y : Tree) → all_identifiers (then xs y) ≡ all_identifiers xs + identifiers y
identifiers-then Nil y = omega arith
identifiers-then (Cons x xs) y = omega (arith, identifiers-then xs y)

kept-append : (ps qs : List Tree) → kept (ps ++ qs) ≡ kept ps + kept qs
kept-append [] qs = omega arith
kept-append (p ∷ ps) qs = omega (arith, kept-append ps qs)

-- a name costs the identifier that it replaces
name-paid : (x : Tree) → made_name x + identifiers (name_of x) ≤ identifiers x
name-paid (Node Form.Identifier s (Cons (Node (Form.Segment n) s' Nil) Nil)) = omega arith
name-paid (Node Form.Identifier s _) = omega arith
name-paid (Node _ s parts) = omega arith

names-paid : (xs : Trees) → made_names xs + all_identifiers (names_of xs) ≤ all_identifiers xs
names-paid Nil = omega arith
names-paid (Cons x xs) = omega (arith, name-paid x, names-paid xs)

bound-paid : (x y : Tree) (b : List Lexeme) → made_bound x + identifiers (bound_of x y b) ≤ suc (identifiers x + identifiers y)
bound-paid (Node Form.Tuple s parts) y b = omega (arith, names-paid parts, identifiers-then (names_of parts) y)
bound-paid (Node Form.Identifier s parts) y b = omega (arith, name-paid (Node Form.Identifier s parts))
bound-paid (Node _ s parts) y b = omega arith

converted-paid : (c : Conversion) (x : Tree) (b : List Lexeme) → made_converted c x + kept (converted c x b) ≤ suc (identifiers x)
converted-paid Conversion.Keep x b = omega arith
converted-paid Conversion.Drop x b = omega arith
converted-paid (Conversion.AsField n m) x b = omega arith
converted-paid Conversion.AsBound (Node (Form.Infix t) s (Cons x (Cons y Nil))) b = omega (arith, bound-paid x y b)
converted-paid Conversion.AsBound _ b = omega arith

built-owed : (form : Form) (xs : Trees) (a : List Lexeme) → identifiers (built form xs a) ≤ suc (all_identifiers xs)
built-owed form xs a = omega (arith, names-one form)

-- a frame that ends pays for its node
ending-paid : (form : Form) (f : Frame) (fs : List Frame) (e : Tree) (b : List Lexeme) → suc (owed fs + identifiers (node_with form f e b)) ≤ owed (f ∷ fs) + identifiers e
ending-paid form f fs e b = omega (arith, names-one form, kept-append f.parts (e ∷ []))

head-paid : (form : Form) (f : Frame) (fs : List Frame) → suc (owed fs + identifiers (node form f)) ≤ owed (f ∷ fs)
head-paid form f fs = omega (arith, names-one form)

child-owed : (c : Option Child) (fs : List Frame) → owed_by (with_child c fs) ≤ 2 + owed fs
child-owed None fs = omega arith
child-owed (Some c) fs = omega arith

ready-owed : (f : Frame) (fs : List Frame) → owed_by (ready (f ∷ fs)) ≤ 2 + owed (f ∷ fs)
ready-owed f fs = child-owed (child f.wait) (frame (entry f.wait) f.parts f.read ∷ fs)

complete-owed : (fs : List Frame) (e : Tree) (b : List Lexeme) → owed_by (complete fs e b) ≤ owed fs + identifiers e
complete-owed [] e b = omega arith
complete-owed (f ∷ fs) e b = by-absorbed (absorbs f.wait)
  where
    by-absorbed : (o : Option Wait) → owed_by (absorbed o f fs e b) ≤ owed (f ∷ fs) + identifiers e
    by-absorbed None = omega arith
    by-absorbed (Some w) = omega (arith, kept-append f.parts (e ∷ []))

-- what is made and what is owed after it stay within what was owed, and six more
abbrev Within : ℕ → Option State → ℕ → Type 0
Within made next owed = made + owed_next next ≤ owed + 6

either-within : (c : Bool) (m n : ℕ) (x y : Option State) (k : ℕ) → Within m x k → Within n y k → Within (cond c m n) (cond c x y) k
either-within true m n x y k h j = h
either-within false m n x y k h j = j

test-within : (c : Bool) (x : Option State) (k : ℕ) → Within 0 x k → Within 0 (cond c x None) k
test-within true x k h = h
test-within false x k h = omega arith

choice-within : (c : Choice) (m n : ℕ) (x y : Option State) (k : ℕ) → Within m x k → Within n y k → Within (made_choice c m n) (act c x y) k
choice-within Choice.Ends m n x y k h j = h
choice-within Choice.Waits m n x y k h j = j
choice-within Choice.Clashes m n x y k h j = omega arith

form-within : (o : Option Form) (go : Form → ℕ) (next : Form → Option State) (k : ℕ) → ((form : Form) → Within (suc (go form)) (next form) k) → Within (made_ending o go) (option_and_then next o) k
form-within None go next k h = omega arith
form-within (Some form) go next k h = h form

bullet-within : (l : Option Lexeme) (f : Frame) (fs : List Frame) (e : Tree) (b : List Lexeme) (t : Lexeme) (m : ℕ) (x : Option State) → Within m x (owed (f ∷ fs) + identifiers e) → Within (made_bullet l t m) (on_bullet l f fs e b t x) (owed (f ∷ fs) + identifiers e)
bullet-within None f fs e b t m x h = h
bullet-within (Some first) f fs e b t m x h = either-within (goes_on first t) 0 m _ x _ (omega (arith, kept-append f.parts (e ∷ []))) h

led-within : (l : Lead) (f : Frame) (fs : List Frame) (e : Tree) (b : List Lexeme) (t : Lexeme) → Within (made_led l) (led l f fs e b t) (owed (f ∷ fs) + identifiers e)
led-within (Lead.Push w) f fs e b t = omega (arith, ready-owed (frame w (e ∷ []) (b ++ t ∷ [])) (f ∷ fs))
led-within (Lead.Node form) f fs e b t = omega (arith, built-owed form (one e) (b ++ t ∷ []))
led-within Lead.NoLead f fs e b t = omega arith

operator-within : (fs : List Frame) (e : Tree) (b : List Lexeme) (t : Lexeme) → Within (made_operator fs e b t) (operator_step fs e b t) (owed fs + identifiers e)
operator-within [] e b t = omega arith
operator-within (f ∷ fs) e b t =
    either-within (takes f.wait (role t.kind)) 0 _ _ _ _
    (test-within (is_expression (shape e)) _ _ (omega (arith, kept-append f.parts (e ∷ []))))
    (choice-within (choice f.wait (edge_of (role t.kind))) _ _ _ _ _
    (form-within (finishes f.wait (shape e)) _ _ _ (λ form. omega (arith, operator-within fs (node_with form f e b) (f.read ++ b) t, ending-paid form f fs e b)))
    (either-within (is_expression (shape e)) _ 0 _ None _ (led-within (lead (role t.kind) t) f fs e b t) (omega arith)))

move-within : (m : PartMove) (f : Frame) (fs : List Frame) (e : Tree) (b : List Lexeme) (t : Lexeme) (go : Form → ℕ) (next : Form → Option State) → ((form : Form) → Within (suc (go form)) (next form) (owed (f ∷ fs) + identifiers e)) → Within (made_move m e go) (moved m f fs e b t next) (owed (f ∷ fs) + identifiers e)
move-within (PartMove.Finish form) f fs e b t go next h = h form
move-within (PartMove.Done form c) f fs e b t go next h =
    let x : Tree = built form (trees (f.parts ++ converted c e b)) (f.read ++ (b ++ t ∷ [])) in
    omega (arith, complete-owed fs x (f.read ++ (b ++ t ∷ [])), built-owed form (trees (f.parts ++ converted c e b)) (f.read ++ (b ++ t ∷ [])), kept-append f.parts (converted c e b), converted-paid c e b)
move-within (PartMove.Goes w c) f fs e b t go next h = omega (arith, ready-owed (frame w (f.parts ++ converted c e b) (f.read ++ (b ++ t ∷ []))) fs, kept-append f.parts (converted c e b), converted-paid c e b)
move-within (PartMove.Hand hd) f fs e b t go next h = omega (arith, ready-owed (frame (Wait.Handing hd t) (f.parts ++ e ∷ []) (f.read ++ b)) fs, kept-append f.parts (e ∷ []))
move-within (PartMove.Convert flag) f fs e b t go next h = omega (arith, name-paid e)
move-within PartMove.Refused f fs e b t go next h = omega arith

part-within : (fs : List Frame) (e : Tree) (b : List Lexeme) (t : Lexeme) → Within (made_part fs e b t) (part_step fs e b t) (owed fs + identifiers e)
part-within [] e b t = omega arith
part-within (f ∷ fs) e b t = move-within (at_part f.wait (shape e) t) f fs e b t _ _ (λ form. omega (arith, part-within fs (node_with form f e b) (f.read ++ b) t, ending-paid form f fs e b))

within-within : (fs : List Frame) (e : Tree) (b : List Lexeme) (t : Lexeme) → Within (made_within fs e b t) (within fs e b t) (owed fs + identifiers e)
within-within fs e b t = either-within (is_operator (role t.kind)) _ _ _ _ _ (operator-within fs e b t) (part-within fs e b t)

leave-within : (fs : List Frame) (e : Tree) (b : List Lexeme) (t : Lexeme) → Within (made_leave fs e b t) (leave fs e b t) (owed fs + identifiers e)
leave-within [] e b t = omega arith
leave-within (f ∷ fs) e b t =
    bullet-within (cond (is_expression (shape e)) (list_of f.wait) None) f fs e b t _ _
    (form-within (finishes f.wait (shape e)) _ _ _ (λ form.
    let h : Within (cond (nat_lt t.col (inner fs)) (made_leave fs (node_with form f e b) (f.read ++ b) t) (made_within fs (node_with form f e b) (f.read ++ b) t)) (cond (nat_lt t.col (inner fs)) (leave fs (node_with form f e b) (f.read ++ b) t) (within fs (node_with form f e b) (f.read ++ b) t)) (owed fs + identifiers (node_with form f e b)) =
    either-within (nat_lt t.col (inner fs)) _ _ _ _ _ (leave-within fs (node_with form f e b) (f.read ++ b) t) (within-within fs (node_with form f e b) (f.read ++ b) t)
    in
    omega (arith, h, ending-paid form f fs e b)))

have-within : (fs : List Frame) (e : Tree) (b : List Lexeme) (t : Lexeme) → Within (made_have fs e b t) (have fs e b t) (owed fs + identifiers e)
have-within fs e b t = either-within (nat_lt t.col (inner fs)) _ _ _ _ _ (leave-within fs e b t) (within-within fs e b t)

ended-within : (o : Option Form) (f : Frame) (fs : List Frame) (t : Lexeme) → Within (made_ended o f fs t) (ended o f fs t) (owed (f ∷ fs))
ended-within o f fs t = form-within o _ _ _ (λ form. omega (arith, have-within fs (node form f) f.read t, head-paid form f fs))

mark-within : (m : MarkMove) (f : Frame) (fs : List Frame) (t : Lexeme) → Within (made_mark m f fs t) (marked m f fs t) (owed (f ∷ fs))
mark-within (MarkMove.Shift w) f fs t = omega (arith, ready-owed (frame w f.parts (f.read ++ t ∷ [])) fs)
mark-within (MarkMove.Leaf form w) f fs t = omega (arith, ready-owed (frame w (f.parts ++ built form Nil (t ∷ []) ∷ []) (f.read ++ t ∷ [])) fs, kept-append f.parts (built form Nil (t ∷ []) ∷ []), names-one form)
mark-within (MarkMove.LeafOf form n w) f fs t = omega (arith, ready-owed (frame w (f.parts ++ built form Nil (n ∷ []) ∷ []) (f.read ++ t ∷ [])) fs, kept-append f.parts (built form Nil (n ∷ []) ∷ []), names-one form)
mark-within (MarkMove.Push w) f fs t = omega (arith, ready-owed (frame w [] (t ∷ [])) (f ∷ fs))
mark-within (MarkMove.Hand h) f fs t = omega (arith, ready-owed (frame (Wait.Handing h t) f.parts f.read) fs)
mark-within (MarkMove.Close form) f fs t = omega (arith, complete-owed fs (built form (trees f.parts) (f.read ++ t ∷ [])) (f.read ++ t ∷ []), names-one form)
mark-within MarkMove.Refused f fs t = ended-within (endable f.wait (Some t.kind)) f fs t

begun-within : (s : Start) (f : Frame) (fs : List Frame) (t : Lexeme) → Within (made_begun s f fs t) (begun s f fs t) (owed (f ∷ fs))
begun-within (Start.Leaf form) f fs t = omega (arith, names-one form)
begun-within (Start.Push w) f fs t = omega (arith, ready-owed (frame w [] (t ∷ [])) (f ∷ fs))
begun-within (Start.PushLeaf form w) f fs t = omega (arith, ready-owed (frame w (built form Nil (t ∷ []) ∷ []) (t ∷ [])) (f ∷ fs), names-one form)
begun-within (Start.Hand h) f fs t = omega (arith, ready-owed (frame (Wait.Handing h t) [] []) (f ∷ fs))
begun-within Start.NoStart f fs t = mark-within (at_mark f.wait t) f fs t

step-within : (st : State) (t : Lexeme) → Within (made_step st t) (step st t) (owed_by st)
step-within (At []) t = omega arith
step-within (At (f ∷ fs)) t = either-within (nat_lt t.col (inner (f ∷ fs))) _ _ _ _ _ (ended-within (endable f.wait (Some t.kind)) f fs t) (begun-within (begins (mode f.wait) t) f fs t)
step-within (Have fs e b) t = have-within fs e b t

run-made : (o : Option State) (ts : List Lexeme) → made_run o ts + owed_next (run o ts) ≤ owed_next o + 6 * length ts
run-made o [] = omega arith
run-made None (t ∷ ts) = omega arith
run-made (Some st) (t ∷ ts) = omega (arith, step-within st t, run-made (step st t) ts)

ending-made : (o : Option Form) (go : Form → ℕ) (k : ℕ) → ((form : Form) → suc (go form) ≤ k) → made_ending o go ≤ k
ending-made None go k h = omega arith
ending-made (Some form) go k h = h form

close-made : (fs : List Frame) (e : Tree) (b : List Lexeme) → made_close fs e b ≤ owed fs + identifiers e
close-made [] e b = omega arith
close-made (f ∷ []) e b = omega arith
close-made (f ∷ g ∷ fs) e b = ending-made (finishes f.wait (shape e)) _ _ (λ form. omega (arith, close-made (g ∷ fs) (node_with form f e b) (f.read ++ b), ending-paid form f (g ∷ fs) e b))

finish-made : (o : Option State) → made_finish o ≤ owed_next o
finish-made None = omega arith
finish-made (Some (At [])) = omega arith
finish-made (Some (At (f ∷ fs))) = ending-made (endable f.wait None) _ _ (λ form. omega (arith, close-made fs (node form f) f.read, head-paid form f fs))
finish-made (Some (Have fs e b)) = close-made fs e b

pub made-few : (ts : List Lexeme) → made ts ≤ 8 * length ts
made-few [] = omega arith
made-few (t ∷ ts) = omega (arith, run-made (Some start) (t ∷ ts), finish-made (run (Some start) (t ∷ ts)))

-- before the end too
pub run-few : (ts : List Lexeme) → made_run (Some start) ts ≤ 8 * length ts
run-few ts = omega (arith, made-few ts)

-- bounds alone begin with two frames, and their first lexeme makes at most a name
first-bounds : (t : Lexeme) → made_step start_bounds t + owed_next (step start_bounds t) ≤ 8
first-bounds t = by (nat_lt t.col 0) (is_name t.kind) (is_left_angle t.kind)
  where
    first : Frame
    first = frame (Wait.BindingStart Binding.Bound) [] []

    below : List Frame
    below = frame Wait.WholeBounds [] [] ∷ []

    move : Bool → Bool → MarkMove
    move name angle = cond name (MarkMove.Leaf (Form.Name t) (Wait.BindingRead Binding.Bound)) (cond angle (MarkMove.Shift (Wait.TupleComma Binding.Bound)) MarkMove.Refused)

    by : (left name angle : Bool) → cond left 0 (made_mark (move name angle) first below t) + owed_next (cond left None (marked (move name angle) first below t)) ≤ 8
    by true name angle = omega arith
    by false true angle = omega arith
    by false false true = omega arith
    by false false false = omega arith

pub made-bounds-few : (ts : List Lexeme) → made_bounds ts ≤ 8 * length ts
made-bounds-few [] = omega arith
made-bounds-few (t ∷ ts) = omega (arith, first-bounds t, run-made (step start_bounds t) ts, finish-made (run (step start_bounds t) ts))

pub run-bounds-few : (ts : List Lexeme) → made_run (Some start_bounds) ts ≤ 8 * length ts
run-bounds-few ts = omega (arith, made-bounds-few ts)
