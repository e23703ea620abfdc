-- The machine: a stack of frames, each with the parts and the lexemes that it has read.
use Rattle.std.specs.Prelude.{◌≡◌, ℕ, suc, ◌+◌, take, max, nat_lt, Bool, true, false, cond, List, [], ◌∷◌, ◌++◌, Option, Some, None, option_and_then}
use Rattle.tla_symbols.specs.declared.lexeme.Lexeme.{Lexeme}
use Rattle.tla_tree.specs.declared.form.Form.{Form}
use Rattle.tla_tree.specs.Syntax.{Tree, Trees, Nil, trees}
use Rattle.tla_tree.specs.Lexemes.{built, one}
use Rattle.precedence.specs.declared.Choice.{Choice}
use Rattle.precedence.specs.declared.Choice.TheVariants.{Ends, Waits, Clashes}
use Rattle.expr_grammar.specs.declared.wait.Binding.TheVariants as Binding
use Rattle.expr_grammar.specs.declared.wait.Wait.{Wait}
use Rattle.expr_grammar.specs.declared.wait.Start.{Start}
use Rattle.expr_grammar.specs.declared.wait.MarkMove.{MarkMove}
use Rattle.expr_grammar.specs.declared.wait.PartMove.{PartMove}
use Rattle.expr_grammar.specs.declared.wait.Role.{Role}
use Rattle.expr_grammar.specs.declared.wait.Lead.{Lead}
use Rattle.expr_grammar.specs.declared.wait.Shape.{Shape}
use Rattle.expr_grammar.specs.Tables.{mode, Child, child, list_of, goes_on, begins, at_mark, endable, absorbs, role, edge_of, lead, takes, choice, shape, is_expression, name_of, converted, finishes, at_part}

-- a form that is not whole yet: what it waits for, its parts so far, and all the lexemes that it has read
pub record Frame : Type 0 where
  pub wait : Wait
  pub parts : List Tree
  pub read : List Lexeme

-- the frame with this wait, these parts and these lexemes
abbrev pub frame : Wait → List Tree → List Lexeme → Frame
frame w ps a = record { wait = w; parts = ps; read = a }

-- a part or a lexeme is due, or a part is there with what it spells
pub data State : Type 0 where
  At : (frames : List Frame) → State
  Have : (frames : List Frame) (e : Tree) (b : List Lexeme) → State

-- the column from which lexemes stand inside all lists: one more than the innermost list's
abbrev pub inside_list : Option Lexeme → ℕ → ℕ
inside_list None i = i
inside_list (Some t) i = max i (suc t.col)

-- the same with a frame that waits so, where the frames below it ask for column i
abbrev pub inside : Wait → ℕ → ℕ
inside w i = inside_list (list_of w) i

-- the column from which lexemes stand inside all lists whose items are due in these frames, 0 without one
abbrev pub inner : List Frame → ℕ
inner [] = 0
inner (f ∷ fs) = inside f.wait (inner fs)

-- a part with a frame of its own begins at once
abbrev pub with_child : Option Child → List Frame → State
with_child None fs = At fs
with_child (Some c) fs = At (frame c.wait [] c.read ∷ fs)

-- the bounds of a function may begin as an operand
abbrev pub entry : Wait → Wait
entry (Wait.FunctionNames flag) = Wait.SquareFirst flag
entry w = w

-- a lexeme or an operand is due in the innermost frame, or a part with a frame of its own begins there
abbrev pub ready : List Frame → State
ready [] = At []
ready (f ∷ fs) = with_child (child f.wait) (frame (entry f.wait) f.parts f.read ∷ fs)

-- the tree of a frame
abbrev pub node : Form → Frame → Tree
node form f = built form (trees f.parts) f.read

-- and of one with a last part
abbrev pub node_with : Form → Frame → Tree → List Lexeme → Tree
node_with form f e b = built form (trees (f.parts ++ e ∷ [])) (f.read ++ b)

-- a part that closed, taken by its parent at once where that has a wait to go on with
abbrev pub absorbed : Option Wait → Frame → List Frame → Tree → List Lexeme → State
absorbed None f fs e b = Have (f ∷ fs) e b
absorbed (Some w) f fs e b = At (frame w (f.parts ++ e ∷ []) (f.read ++ b) ∷ fs)

-- a part that ended with its own last lexeme
abbrev pub complete : List Frame → Tree → List Lexeme → State
complete [] e b = Have [] e b
complete (f ∷ fs) e b = absorbed (absorbs f.wait) f fs e b

-- what an operator makes of the operand before it: the first part of a frame of its own, or a whole node
abbrev pub led : Lead → Frame → List Frame → Tree → List Lexeme → Lexeme → Option State
led (Lead.Push w) f fs e b t = Some (ready (frame w (e ∷ []) (b ++ t ∷ []) ∷ f ∷ fs))
led (Lead.Node form) f fs e b t = Some (Have (f ∷ fs) (built form (one e) (b ++ t ∷ [])) (b ++ t ∷ []))
led Lead.NoLead f fs e b t = None

-- the way that is chosen at an operator: the frame ends, or it waits; at a clash the lexeme is refused
abbrev pub act : Choice → Option State → Option State → Option State
act Ends ends waits = ends
act Waits ends waits = waits
act Clashes ends waits = None

-- an operator ends the frames that it does not stand in
abbrev pub operator_step : List Frame → Tree → List Lexeme → Lexeme → Option State
operator_step [] e b t = None
operator_step (f ∷ fs) e b t =
    cond (takes f.wait (role t.kind))
    (cond (is_expression (shape e)) (Some (At (frame Wait.Factor (f.parts ++ e ∷ []) (f.read ++ (b ++ t ∷ [])) ∷ fs))) None)
    (act (choice f.wait (edge_of (role t.kind)))
    (option_and_then (λ form. operator_step fs (node_with form f e b) (f.read ++ b) t) (finishes f.wait (shape e)))
    (cond (is_expression (shape e)) (led (lead (role t.kind) t) f fs e b t) None))

-- the move of the table for a lexeme after a part; the last argument says how a frame ends before the lexeme
abbrev pub moved : PartMove → Frame → List Frame → Tree → List Lexeme → Lexeme → (Form → Option State) → Option State
moved (PartMove.Finish form) f fs e b t go = go form
moved (PartMove.Done form c) f fs e b t go =
    Some (complete fs (built form (trees (f.parts ++ converted c e b)) (f.read ++ (b ++ t ∷ []))) (f.read ++ (b ++ t ∷ [])))
moved (PartMove.Goes w c) f fs e b t go = Some (ready (frame w (f.parts ++ converted c e b) (f.read ++ (b ++ t ∷ [])) ∷ fs))
moved (PartMove.Hand h) f fs e b t go = Some (ready (frame (Wait.Handing h t) (f.parts ++ e ∷ []) (f.read ++ b) ∷ fs))
moved (PartMove.Convert flag) f fs e b t go =
    Some (At (frame (Wait.BindingComma Binding.Bound) (name_of e ∷ []) (b ++ t ∷ []) ∷ frame (Wait.FunctionNames flag) f.parts f.read ∷ fs))
moved PartMove.Refused f fs e b t go = None

-- another lexeme ends the frames that may end, and the next frame takes it
abbrev pub part_step : List Frame → Tree → List Lexeme → Lexeme → Option State
part_step [] e b t = None
part_step (f ∷ fs) e b t =
    moved (at_part f.wait (shape e) t) f fs e b t (λ form. part_step fs (node_with form f e b) (f.read ++ b) t)

-- an infix or postfix symbol, the `[` of an application or the `.` of a field
abbrev pub is_operator : Role → Bool
is_operator Role.Mark = false
is_operator _ = true

-- a lexeme that ends no list
abbrev pub within : List Frame → Tree → List Lexeme → Lexeme → Option State
within fs e b t = cond (is_operator (role t.kind)) (operator_step fs e b t) (part_step fs e b t)

-- a bullet of the list begins the next item
abbrev pub on_bullet : Option Lexeme → Frame → List Frame → Tree → List Lexeme → Lexeme → Option State → Option State
on_bullet None f fs e b t out = out
on_bullet (Some first) f fs e b t out =
    cond (goes_on first t) (Some (At (frame (Wait.ListItem first) (f.parts ++ e ∷ []) (f.read ++ (b ++ t ∷ [])) ∷ fs))) out

-- a lexeme that stands left of the innermost list's items ends that list, or is its bullet
abbrev pub leave : List Frame → Tree → List Lexeme → Lexeme → Option State
leave [] e b t = None
leave (f ∷ fs) e b t =
    on_bullet (cond (is_expression (shape e)) (list_of f.wait) None) f fs e b t
    (option_and_then (λ form.
    (cond (nat_lt t.col (inner fs)) (leave fs (node_with form f e b) (f.read ++ b) t) (within fs (node_with form f e b) (f.read ++ b) t))) (finishes f.wait (shape e)))

-- a lexeme after a finished part, left of the innermost list's items or among them
abbrev pub have : List Frame → Tree → List Lexeme → Lexeme → Option State
have fs e b t = cond (nat_lt t.col (inner fs)) (leave fs e b t) (within fs e b t)

-- a frame that ends before the lexeme with no part to come
abbrev pub ended : Option Form → Frame → List Frame → Lexeme → Option State
ended o f fs t = option_and_then (λ form. have fs (node form f) f.read t) o

-- the move of the table for a lexeme in a frame without a finished part; what it refuses may end the frame
abbrev pub marked : MarkMove → Frame → List Frame → Lexeme → Option State
marked (MarkMove.Shift w) f fs t = Some (ready (frame w f.parts (f.read ++ t ∷ []) ∷ fs))
marked (MarkMove.Leaf form w) f fs t = Some (ready (frame w (f.parts ++ built form Nil (t ∷ []) ∷ []) (f.read ++ t ∷ []) ∷ fs))
marked (MarkMove.LeafOf form n w) f fs t = Some (ready (frame w (f.parts ++ built form Nil (n ∷ []) ∷ []) (f.read ++ t ∷ []) ∷ fs))
marked (MarkMove.Push w) f fs t = Some (ready (frame w [] (t ∷ []) ∷ f ∷ fs))
marked (MarkMove.Hand h) f fs t = Some (ready (frame (Wait.Handing h t) f.parts f.read ∷ fs))
marked (MarkMove.Close form) f fs t = Some (complete fs (built form (trees f.parts) (f.read ++ t ∷ [])) (f.read ++ t ∷ []))
marked MarkMove.Refused f fs t = ended (endable f.wait (Some t.kind)) f fs t

-- what a lexeme begins; where it begins nothing it is for the frame itself
abbrev pub begun : Start → Frame → List Frame → Lexeme → Option State
begun (Start.Leaf form) f fs t = Some (Have (f ∷ fs) (built form Nil (t ∷ [])) (t ∷ []))
begun (Start.Push w) f fs t = Some (ready (frame w [] (t ∷ []) ∷ f ∷ fs))
begun (Start.PushLeaf form w) f fs t = Some (ready (frame w (built form Nil (t ∷ []) ∷ []) (t ∷ []) ∷ f ∷ fs))
begun (Start.Hand h) f fs t = Some (ready (frame (Wait.Handing h t) [] [] ∷ f ∷ fs))
begun Start.NoStart f fs t = marked (at_mark f.wait t) f fs t

-- a lexeme where a part or a lexeme is due: left of the items of an open list it can only end the frame
abbrev pub due : List Frame → Lexeme → Option State
due [] t = None
due (f ∷ fs) t =
    cond (nat_lt t.col (inner (f ∷ fs))) (ended (endable f.wait (Some t.kind)) f fs t) (begun (begins (mode f.wait) t) f fs t)

-- one lexeme more
abbrev pub step : State → Lexeme → Option State
step (At fs) t = due fs t
step (Have fs e b) t = have fs e b t

-- the state after these lexemes; there is none after a refused one
abbrev pub run : Option State → List Lexeme → Option State
run o [] = o
run None (t ∷ ts) = None
run (Some st) (t ∷ ts) = run (step st t) ts

-- before the first lexeme: an expression is due, and nothing stands round it
abbrev pub start : State
start = At (frame Wait.Whole [] [] ∷ [])

-- at the end all frames end but the bottom one, whose part is the answer
abbrev pub whole : Wait → Tree → Option Tree
whole Wait.Whole e = cond (is_expression (shape e)) (Some e) None
whole _ e = None

-- the frames round a finished part end with it, the innermost first, but the outermost one, of which this is what is left
abbrev pub closed : {A : Type 0} → (Frame → Tree → List Lexeme → Option A) → List Frame → Tree → List Lexeme → Option A
closed leaves [] e b = None
closed leaves (f ∷ []) e b = leaves f e b
closed leaves (f ∷ g ∷ fs) e b = option_and_then (λ form. closed leaves (g ∷ fs) (node_with form f e b) (f.read ++ b)) (finishes f.wait (shape e))

-- the same where the answer is left
abbrev pub close_all : List Frame → Tree → List Lexeme → Option Tree
close_all fs e b = closed (λ f last read. whole f.wait last) fs e b

-- the answer where no part is finished: the innermost frame must end without one
abbrev pub finish_due : List Frame → Option Tree
finish_due [] = None
finish_due (f ∷ fs) = option_and_then (λ form. close_all fs (node form f) f.read) (endable f.wait None)

-- the one expression that has been read, if it is whole here
abbrev pub finish : Option State → Option Tree
finish None = None
finish (Some (At fs)) = finish_due fs
finish (Some (Have fs e b)) = close_all fs e b

-- the tree of a list of lexemes, if the machine accepts it
abbrev pub parse : List Lexeme → Option Tree
parse ts = finish (run (Some start) ts)

-- the other goal: the bounds in the head of a function's definition
abbrev pub start_bounds : State
start_bounds = ready (frame Wait.WholeBounds [] [] ∷ [])

-- the bottom frame of bounds has them as its parts, the last one among them
abbrev pub whole_bounds : Wait → Shape → Trees → Option Trees
whole_bounds Wait.WholeBounds Shape.Bound bounds = Some bounds
whole_bounds _ _ bounds = None

-- the frames round a finished part end with it, and leave bounds
abbrev pub close_bounds : List Frame → Tree → List Lexeme → Option Trees
close_bounds fs e b = closed (λ f last read. whole_bounds f.wait (shape last) (trees (f.parts ++ last ∷ []))) fs e b

-- the bounds where no part is finished: the innermost frame must end without one
abbrev pub finish_due_bounds : List Frame → Option Trees
finish_due_bounds [] = None
finish_due_bounds (f ∷ fs) = option_and_then (λ form. close_bounds fs (node form f) f.read) (endable f.wait None)

-- the bounds that have been read, if they are whole here
abbrev pub finish_bounds : Option State → Option Trees
finish_bounds None = None
finish_bounds (Some (At fs)) = finish_due_bounds fs
finish_bounds (Some (Have fs e b)) = close_bounds fs e b

-- the bounds that a list of lexemes spells, if the machine accepts it
abbrev pub parse_bounds : List Lexeme → Option Trees
parse_bounds ts = finish_bounds (run (Some start_bounds) ts)

-- it reads the lexemes before this one, and not this one
pub record RefusesAt (lexemes : List Lexeme) (index : ℕ) : Type 0 where
  pub state : State
  pub reads : run (Some start) (take index lexemes) ≡ Some state
  pub refuses : run (Some start) (take (index + 1) lexemes) ≡ None
