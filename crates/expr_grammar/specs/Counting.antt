-- How many nodes a tree has, how many the trees of a state have, and how many the machine makes, those that it drops included.
use Rattle.std.specs.Prelude.{ℕ, suc, ◌+◌, nat_lt, cond, List, [], ◌∷◌, ◌++◌, Option, Some, None}
use Rattle.tla_symbols.specs.declared.lexeme.Lexeme.{Lexeme}
use Rattle.tla_tree.specs.declared.form.Form.{Form}
use Rattle.tla_tree.specs.Syntax.{Tree, Trees, Node, Nil, Cons, trees}
use Rattle.precedence.specs.declared.Choice.{Choice}
use Rattle.precedence.specs.declared.Choice.TheVariants.{Ends, Waits, Clashes}
use Rattle.expr_grammar.specs.declared.wait.Conversion.{Conversion}
use Rattle.expr_grammar.specs.declared.wait.Lead.{Lead}
use Rattle.expr_grammar.specs.declared.wait.MarkMove.{MarkMove}
use Rattle.expr_grammar.specs.declared.wait.PartMove.{PartMove}
use Rattle.expr_grammar.specs.declared.wait.Start.{Start}
use Rattle.expr_grammar.specs.Tables.{mode, list_of, goes_on, begins, at_mark, endable, role, edge_of, lead, takes, choice, shape, is_expression, finishes, at_part}
use Rattle.expr_grammar.specs.Machine.{Frame, State, At, Have, inner, node, node_with, is_operator, step, run, start, start_bounds}

abbrev mutual
  -- how many nodes a tree has: one for each form in it
  pub nodes : Tree → ℕ
  nodes (Node f s parts) = suc (all_nodes parts)

  -- how many nodes several trees have
  pub all_nodes : Trees → ℕ
  all_nodes Nil = 0
  all_nodes (Cons tree rest) = nodes tree + all_nodes rest

-- the nodes of the trees that stand in frames
abbrev pub held : List Frame → ℕ
held [] = 0
held (f ∷ fs) = all_nodes (trees f.parts) + held fs

-- and of those in a state
abbrev pub held_by : State → ℕ
held_by (At fs) = held fs
held_by (Have fs e b) = held fs + nodes e

-- a name that turns out to bind is made anew
abbrev pub made_name : Tree → ℕ
made_name (Node Form.Identifier s (Cons (Node (Form.Segment n) s' Nil) Nil)) = 1
made_name x = 0

-- the same of the parts of a tuple that turn out to bind
abbrev pub made_names : Trees → ℕ
made_names Nil = 0
made_names (Cons x xs) = made_name x + made_names xs

-- a bound's own node, and the names of what stands left of its `\in`
abbrev pub made_bound : Tree → ℕ
made_bound (Node Form.Tuple s parts) = suc (made_names parts)
made_bound x = suc (made_name x)

-- what is made of a finished part when its parent takes it: a bound with its names, a field, or nothing
abbrev pub made_converted : Conversion → Tree → ℕ
made_converted Conversion.AsBound (Node (Form.Infix t) s (Cons x (Cons y Nil))) = made_bound x
made_converted (Conversion.AsField n m) x = 1
made_converted _ x = 0

-- a postfix operator makes its node at once; the frame of another operator makes it when it ends
abbrev pub made_led : Lead → ℕ
made_led (Lead.Node form) = 1
made_led _ = 0

-- a frame that ends makes one node
abbrev pub made_ending : Option Form → (Form → ℕ) → ℕ
made_ending None go = 0
made_ending (Some form) go = suc (go form)

-- what is made on the way that is chosen at an operator; a clash makes nothing
abbrev pub made_choice : Choice → ℕ → ℕ → ℕ
made_choice Ends ends waits = ends
made_choice Waits ends waits = waits
made_choice Clashes ends waits = 0

-- what a step makes at an operator, with the frames that end before it
abbrev pub made_operator : List Frame → Tree → List Lexeme → Lexeme → ℕ
made_operator [] e b t = 0
made_operator (f ∷ fs) e b t =
    cond (takes f.wait (role t.kind)) 0
    (made_choice (choice f.wait (edge_of (role t.kind)))
    (made_ending (finishes f.wait (shape e)) (λ form. made_operator fs (node_with form f e b) (f.read ++ b) t))
    (cond (is_expression (shape e)) (made_led (lead (role t.kind) t)) 0))

-- what the move of the table for a lexeme after a part makes
abbrev pub made_move : PartMove → Tree → (Form → ℕ) → ℕ
made_move (PartMove.Finish form) e go = suc (go form)
made_move (PartMove.Done form c) e go = suc (made_converted c e)
made_move (PartMove.Goes w c) e go = made_converted c e
made_move (PartMove.Convert flag) e go = made_name e
made_move _ e go = 0

-- what a step makes at a lexeme that is no operator, with the frames that end before it
abbrev pub made_part : List Frame → Tree → List Lexeme → Lexeme → ℕ
made_part [] e b t = 0
made_part (f ∷ fs) e b t = made_move (at_part f.wait (shape e) t) e (λ form. made_part fs (node_with form f e b) (f.read ++ b) t)

-- what a step makes at a lexeme that ends no list
abbrev pub made_within : List Frame → Tree → List Lexeme → Lexeme → ℕ
made_within fs e b t = cond (is_operator (role t.kind)) (made_operator fs e b t) (made_part fs e b t)

-- the bullet of a next item makes no node
abbrev pub made_bullet : Option Lexeme → Lexeme → ℕ → ℕ
made_bullet None t out = out
made_bullet (Some first) t out = cond (goes_on first t) 0 out

-- what a step makes at a lexeme that stands left of the innermost list's items
abbrev pub made_leave : List Frame → Tree → List Lexeme → Lexeme → ℕ
made_leave [] e b t = 0
made_leave (f ∷ fs) e b t =
    made_bullet (cond (is_expression (shape e)) (list_of f.wait) None) t
    (made_ending (finishes f.wait (shape e)) (λ form.
    (cond (nat_lt t.col (inner fs)) (made_leave fs (node_with form f e b) (f.read ++ b) t) (made_within fs (node_with form f e b) (f.read ++ b) t))))

-- what a step makes after a finished part
abbrev pub made_have : List Frame → Tree → List Lexeme → Lexeme → ℕ
made_have fs e b t = cond (nat_lt t.col (inner fs)) (made_leave fs e b t) (made_within fs e b t)

-- what a frame makes that ends with no part to come, and the lexeme behind it
abbrev pub made_ended : Option Form → Frame → List Frame → Lexeme → ℕ
made_ended o f fs t = made_ending o (λ form. made_have fs (node form f) f.read t)

-- what the move of the table for a lexeme without a finished part makes: a leaf, or a form that closes
abbrev pub made_mark : MarkMove → Frame → List Frame → Lexeme → ℕ
made_mark (MarkMove.Leaf form w) f fs t = 1
made_mark (MarkMove.LeafOf form n w) f fs t = 1
made_mark (MarkMove.Close form) f fs t = 1
made_mark MarkMove.Refused f fs t = made_ended (endable f.wait (Some t.kind)) f fs t
made_mark _ f fs t = 0

-- a lexeme that begins something makes at most a leaf
abbrev pub made_begun : Start → Frame → List Frame → Lexeme → ℕ
made_begun (Start.Leaf form) f fs t = 1
made_begun (Start.PushLeaf form w) f fs t = 1
made_begun Start.NoStart f fs t = made_mark (at_mark f.wait t) f fs t
made_begun _ f fs t = 0

-- what a step makes where a part or a lexeme is due
abbrev pub made_due : List Frame → Lexeme → ℕ
made_due [] t = 0
made_due (f ∷ fs) t =
    cond (nat_lt t.col (inner (f ∷ fs))) (made_ended (endable f.wait (Some t.kind)) f fs t) (made_begun (begins (mode f.wait) t) f fs t)

-- what one step makes, whatever the state
abbrev pub made_step : State → Lexeme → ℕ
made_step (At fs) t = made_due fs t
made_step (Have fs e b) t = made_have fs e b t

-- what all steps make, a refused one among them; behind that one nothing is made
abbrev pub made_run : Option State → List Lexeme → ℕ
made_run o [] = 0
made_run None (t ∷ ts) = 0
made_run (Some st) (t ∷ ts) = made_step st t + made_run (step st t) ts

-- what frames make that end with a finished part where no lexeme follows
abbrev pub made_close : List Frame → Tree → List Lexeme → ℕ
made_close [] e b = 0
made_close (f ∷ []) e b = 0
made_close (f ∷ g ∷ fs) e b = made_ending (finishes f.wait (shape e)) (λ form. made_close (g ∷ fs) (node_with form f e b) (f.read ++ b))

-- what frames make that end where no lexeme follows and no part is finished
abbrev pub made_last : List Frame → ℕ
made_last [] = 0
made_last (f ∷ fs) = made_ending (endable f.wait None) (λ form. made_close fs (node form f) f.read)

-- at the end the frames of both goals end alike
abbrev pub made_finish : Option State → ℕ
made_finish None = 0
made_finish (Some (At fs)) = made_last fs
made_finish (Some (Have fs e b)) = made_close fs e b

-- the nodes that the machine makes of a list, refused or not
abbrev pub made : List Lexeme → ℕ
made ts = made_run (Some start) ts + made_finish (run (Some start) ts)

-- the same for bounds alone
abbrev pub made_bounds : List Lexeme → ℕ
made_bounds ts = made_run (Some start_bounds) ts + made_finish (run (Some start_bounds) ts)
