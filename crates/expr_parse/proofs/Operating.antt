-- What an operator does to the frames, turn by turn.
use Rattle.std.proofs.Common.{◌≡◌, ℕ, suc, ◌<◌, ◌≤◌, Bool, true, false, List, [], ◌∷◌, ◌++◌, Option, Some, None, refl, ap, sym, ◌∙◌, arith}
use Rattle.std.specs.Prelude.{cond, nat_lt}
use Rattle.std.proofs.lemmas.Bool.Decides.{nat_tests}
use Rattle.tla_symbols.specs.declared.lexeme.Lexeme.{Lexeme}
use Rattle.tla_tree.specs.declared.form.Form.{Form}
use Rattle.tla_tree.specs.Arena as Arena
use Rattle.tla_tree.specs.Arena.{tree_at}
use Rattle.tla_tree.specs.Syntax.{Tree}
use Rattle.precedence.specs.declared.Choice.{Choice}
use Rattle.precedence.specs.declared.Choice.TheVariants.{Ends, Waits, Clashes}
use Rattle.expr_grammar.specs.declared.wait.Wait.{Wait}
use Rattle.expr_grammar.specs.declared.wait.Role.{Role}
use Rattle.expr_grammar.specs.declared.wait.Shape.{Shape}
use Rattle.expr_grammar.specs.Tables.{shape, is_expression, takes, role, choice, edge_of, lead, finishes}
use Rattle.expr_grammar.specs.Machine as Machine
use Rattle.expr_grammar.specs.Machine.{At, frame, led, node_with, operator_step, part_step, is_operator, inner, within, leave, have}
use Rattle.expr_grammar.specs.Counting.{made_operator, made_led, made_part, made_within, made_leave, made_have}
use Rattle.expr_stack.specs.declared.stack.Frame.{Frame}
use Rattle.tree_parts.specs.declared.part.Part.{Part}
use Rattle.expr_stack.specs.declared.stack.Stack.{Stack}
use Rattle.expr_parse.specs.declared.turn.Turn.TheVariants as Turn
use Rattle.expr_stack.specs.StackMeaning.{Made}
use Rattle.expr_parse.specs.TurnMeaning.{Turns}
use Rattle.expr_parse.proofs.Going.{Step, Count, Goes, AtTop, end-turn, end-refused, close-goes}

abbrev pub operating : Lexeme → Step
operating t frames tree spelled = operator_step frames tree spelled t

abbrev pub operating-makes : Lexeme → Count
operating-makes t frames tree spelled = made_operator frames tree spelled t

-- what the code saw, of the frame as the machine has it
abbrev pub Sees : {X : Type 0} → (Wait → X) → Frame → X → Type 0
Sees look held x = x ≡ look held.wait

pub of-machine : {X : Type 0} (look : Wait → X) (held : Frame) (f : Machine.Frame) (x : X) → held.wait ≡ f.wait → x ≡ look held.wait → look f.wait ≡ x
of-machine look held f x w e = ap look (sym w) ∙ sym e

pub finishing : (held : Frame) (f : Machine.Frame) (e : Tree) (more : List Arena.Node) (part : Part) (sh : Shape) (x : Option Form) → held.wait ≡ f.wait → tree_at more part.node ≡ e → sh ≡ shape (tree_at more part.node) → x ≡ finishes held.wait sh → finishes f.wait (shape e) ≡ x
finishing held f e more part sh x w is s e' = ap (λ z. finishes z (shape e)) (sym w) ∙ (ap (finishes held.wait) (sym (s ∙ ap shape is)) ∙ sym e')

op-ends : (f : Machine.Frame) (below : List Machine.Frame) (e : Tree) (b : List Lexeme) (t : Lexeme) (form : Form) → takes f.wait (role t.kind) ≡ false → choice f.wait (edge_of (role t.kind)) ≡ Ends → finishes f.wait (shape e) ≡ Some form → (operator_step (f ∷ below) e b t ≡ operator_step below (node_with form f e b) (f.read ++ b) t) × (made_operator (f ∷ below) e b t ≡ suc (made_operator below (node_with form f e b) (f.read ++ b) t))
op-ends f below e b t form p q r = (rw (p, q, r) refl, rw (p, q, r) refl)

op-open : (f : Machine.Frame) (below : List Machine.Frame) (e : Tree) (b : List Lexeme) (t : Lexeme) → takes f.wait (role t.kind) ≡ false → choice f.wait (edge_of (role t.kind)) ≡ Ends → finishes f.wait (shape e) ≡ None → operator_step (f ∷ below) e b t ≡ None
op-open f below e b t p q r = rw (p, q, r) refl

op-clashes : (f : Machine.Frame) (below : List Machine.Frame) (e : Tree) (b : List Lexeme) (t : Lexeme) → takes f.wait (role t.kind) ≡ false → choice f.wait (edge_of (role t.kind)) ≡ Clashes → operator_step (f ∷ below) e b t ≡ None
op-clashes f below e b t p q = rw (p, q) refl

op-factor : (nodes more : List Arena.Node) (stack : Stack) (turn : Turn.the_data) (f : Machine.Frame) (below : List Machine.Frame) (e : Tree) (b : List Lexeme) (t : Lexeme) → takes f.wait (role t.kind) ≡ true → Turns nodes more stack turn (cond (is_expression (shape e)) (Some (At (frame Wait.Factor (f.parts ++ e ∷ []) (f.read ++ (b ++ t ∷ [])) ∷ below))) None) 0 → Turns nodes more stack turn (operator_step (f ∷ below) e b t) (made_operator (f ∷ below) e b t)
op-factor nodes more stack turn f below e b t p k = rw p k

op-waits : (nodes more : List Arena.Node) (stack : Stack) (turn : Turn.the_data) (f : Machine.Frame) (below : List Machine.Frame) (e : Tree) (b : List Lexeme) (t : Lexeme) → takes f.wait (role t.kind) ≡ false → choice f.wait (edge_of (role t.kind)) ≡ Waits → Turns nodes more stack turn (cond (is_expression (shape e)) (led (lead (role t.kind) t) f below e b t) None) (cond (is_expression (shape e)) (made_led (lead (role t.kind) t)) 0) → Turns nodes more stack turn (operator_step (f ∷ below) e b t) (made_operator (f ∷ below) e b t)
op-waits nodes more stack turn f below e b t p q k = rw (p, q) k

taken : (held : Frame) (f : Machine.Frame) (t : Lexeme) (ρ : Role) (tk x : Bool) → held.wait ≡ f.wait → ρ ≡ role t.kind → tk ≡ takes held.wait ρ → tk ≡ x → takes f.wait (role t.kind) ≡ x
taken held f t ρ tk x w r e k = ap (λ z. takes z (role t.kind)) (sym w) ∙ (ap (takes held.wait) (sym r) ∙ (sym e ∙ k))

chosen : (held : Frame) (f : Machine.Frame) (t : Lexeme) (ρ : Role) (x : Choice) → held.wait ≡ f.wait → ρ ≡ role t.kind → x ≡ choice held.wait (edge_of ρ) → choice f.wait (edge_of (role t.kind)) ≡ x
chosen held f t ρ x w r e = ap (λ z. choice z (edge_of (role t.kind))) (sym w) ∙ (ap (λ z. choice held.wait (edge_of z)) (sym r) ∙ sym e)

pub operate-closes : {nodes more : List Arena.Node} {popped : Stack} {held : Frame} {part : Part} {fs : List Machine.Frame} {e : Tree} {b : List Lexeme} (most : List Arena.Node) (stack : Stack) (part' : Part) (form : Form) (t : Lexeme) (ρ : Role) (tk : Bool) (sh : Shape) (a : AtTop (operating t) (operating-makes t) nodes more popped held part fs e b) → ρ ≡ role t.kind → tk ≡ takes held.wait ρ → tk ≡ false → Ends ≡ choice held.wait (edge_of ρ) → sh ≡ shape (tree_at more part.node) → Some form ≡ finishes held.wait sh → Made more most stack part' (node_with form a.top a.tree a.spelled) (a.top.read ++ a.spelled) a.below → Goes (operating t) (operating-makes t) nodes most stack part' fs e b
operate-closes {more = more} {held = held} {part = part} most stack part' form t ρ tk sh a r k f c s g m =
    let w = a.beside.wait in
    let x = op-ends a.top a.below a.tree a.spelled t form (taken held a.top t ρ tk false w r k f) (chosen held a.top t ρ Ends w r c) (finishing held a.top a.tree more part sh (Some form) w a.beside.is.is s g) in
    close-goes most stack part' form a x.0 x.1 m

pub operate-open : {nodes more : List Arena.Node} {popped : Stack} {held : Frame} {part : Part} {fs : List Machine.Frame} {e : Tree} {b : List Lexeme} (stack : Stack) (t : Lexeme) (ρ : Role) (tk : Bool) (sh : Shape) (a : AtTop (operating t) (operating-makes t) nodes more popped held part fs e b) → ρ ≡ role t.kind → tk ≡ takes held.wait ρ → tk ≡ false → Ends ≡ choice held.wait (edge_of ρ) → sh ≡ shape (tree_at more part.node) → None ≡ finishes held.wait sh → Turns nodes more stack Turn.Refused (operator_step fs e b t) (made_operator fs e b t)
operate-open {more = more} {held = held} {part = part} stack t ρ tk sh a r k f c s g =
    let w = a.beside.wait in
    end-refused stack a (op-open a.top a.below a.tree a.spelled t (taken held a.top t ρ tk false w r k f) (chosen held a.top t ρ Ends w r c) (finishing held a.top a.tree more part sh None w a.beside.is.is s g))

pub operate-clashes : {nodes more : List Arena.Node} {popped : Stack} {held : Frame} {part : Part} {fs : List Machine.Frame} {e : Tree} {b : List Lexeme} (stack : Stack) (t : Lexeme) (ρ : Role) (tk : Bool) (a : AtTop (operating t) (operating-makes t) nodes more popped held part fs e b) → ρ ≡ role t.kind → tk ≡ takes held.wait ρ → tk ≡ false → Clashes ≡ choice held.wait (edge_of ρ) → Turns nodes more stack Turn.Refused (operator_step fs e b t) (made_operator fs e b t)
operate-clashes {held = held} stack t ρ tk a r k f c =
    let w = a.beside.wait in
    end-refused stack a (op-clashes a.top a.below a.tree a.spelled t (taken held a.top t ρ tk false w r k f) (chosen held a.top t ρ Clashes w r c))

pub operate-factor : {nodes more : List Arena.Node} {popped : Stack} {held : Frame} {part : Part} {fs : List Machine.Frame} {e : Tree} {b : List Lexeme} (most : List Arena.Node) (stack : Stack) (turn : Turn.the_data) (t : Lexeme) (ρ : Role) (tk : Bool) (a : AtTop (operating t) (operating-makes t) nodes more popped held part fs e b) → ρ ≡ role t.kind → tk ≡ takes held.wait ρ → tk ≡ true → Turns more most stack turn (cond (is_expression (shape a.tree)) (Some (At (frame Wait.Factor (a.top.parts ++ a.tree ∷ []) (a.top.read ++ (a.spelled ++ t ∷ [])) ∷ a.below))) None) 0 → Turns nodes most stack turn (operator_step fs e b t) (made_operator fs e b t)
operate-factor {more = more} {held = held} most stack turn t ρ tk a r k f u =
    end-turn most stack turn a (op-factor more most stack turn a.top a.below a.tree a.spelled t (taken held a.top t ρ tk true a.beside.wait r k f) u)

pub operate-waits : {nodes more : List Arena.Node} {popped : Stack} {held : Frame} {part : Part} {fs : List Machine.Frame} {e : Tree} {b : List Lexeme} (most : List Arena.Node) (stack : Stack) (turn : Turn.the_data) (t : Lexeme) (ρ : Role) (tk : Bool) (a : AtTop (operating t) (operating-makes t) nodes more popped held part fs e b) → ρ ≡ role t.kind → tk ≡ takes held.wait ρ → tk ≡ false → Waits ≡ choice held.wait (edge_of ρ) → Turns more most stack turn (cond (is_expression (shape a.tree)) (led (lead ρ t) a.top a.below a.tree a.spelled t) None) (cond (is_expression (shape a.tree)) (made_led (lead ρ t)) 0) → Turns nodes most stack turn (operator_step fs e b t) (made_operator fs e b t)
operate-waits {more = more} {held = held} most stack turn t ρ tk a r k f c u =
    let w = a.beside.wait in
    end-turn most stack turn a
    (op-waits more most stack turn a.top a.below a.tree a.spelled t (taken held a.top t ρ tk false w r k f) (chosen held a.top t ρ Waits w r c)
    (rw (← r) u))

-- an operator or not, as the code saw it
pub within-operator : (nodes more : List Arena.Node) (stack : Stack) (turn : Turn.the_data) (fs : List Machine.Frame) (e : Tree) (b : List Lexeme) (t : Lexeme) (ρ : Role) (x : Bool) → ρ ≡ role t.kind → x ≡ is_operator ρ → x ≡ true → Turns nodes more stack turn (operator_step fs e b t) (made_operator fs e b t) → Turns nodes more stack turn (within fs e b t) (made_within fs e b t)
within-operator nodes more stack turn fs e b t ρ x r o k u =
    let q : is_operator (role t.kind) ≡ true = ap is_operator (sym r) ∙ (sym o ∙ k) in
    rw q u

pub within-other : (nodes more : List Arena.Node) (stack : Stack) (turn : Turn.the_data) (fs : List Machine.Frame) (e : Tree) (b : List Lexeme) (t : Lexeme) (ρ : Role) (x : Bool) → ρ ≡ role t.kind → x ≡ is_operator ρ → x ≡ false → Turns nodes more stack turn (part_step fs e b t) (made_part fs e b t) → Turns nodes more stack turn (within fs e b t) (made_within fs e b t)
within-other nodes more stack turn fs e b t ρ x r o k u =
    let q : is_operator (role t.kind) ≡ false = ap is_operator (sym r) ∙ (sym o ∙ k) in
    rw q u

pub have-left : (nodes more : List Arena.Node) (stack : Stack) (turn : Turn.the_data) (fs : List Machine.Frame) (e : Tree) (b : List Lexeme) (t : Lexeme) (column : ℕ) → column ≡ inner fs → t.col < column → Turns nodes more stack turn (leave fs e b t) (made_leave fs e b t) → Turns nodes more stack turn (have fs e b t) (made_have fs e b t)
have-left nodes more stack turn fs e b t column i l u =
    let q : nat_lt t.col (inner fs) ≡ true = grind (arith, nat_tests, i, l) in
    rw q u

pub have-inside : (nodes more : List Arena.Node) (stack : Stack) (turn : Turn.the_data) (fs : List Machine.Frame) (e : Tree) (b : List Lexeme) (t : Lexeme) (column : ℕ) → column ≡ inner fs → column ≤ t.col → Turns nodes more stack turn (within fs e b t) (made_within fs e b t) → Turns nodes more stack turn (have fs e b t) (made_have fs e b t)
have-inside nodes more stack turn fs e b t column i l u =
    let q : nat_lt t.col (inner fs) ≡ false = grind (arith, nat_tests, i, l) in
    rw q u
