-- What another lexeme than an operator does to the frames, turn by turn.
use Rattle.std.proofs.Common.{◌≡◌, suc, List, ◌∷◌, ◌++◌, None, refl, ap, sym, ◌∙◌}
use Rattle.tla_symbols.specs.declared.lexeme.Lexeme.{Lexeme}
use Rattle.tla_tree.specs.declared.form.Form.{Form}
use Rattle.tla_tree.specs.Arena as Arena
use Rattle.tla_tree.specs.Arena.{tree_at}
use Rattle.tla_tree.specs.Syntax.{Tree}
use Rattle.expr_grammar.specs.declared.wait.PartMove.{PartMove}
use Rattle.expr_grammar.specs.declared.wait.Shape.{Shape}
use Rattle.expr_grammar.specs.Tables.{shape, at_part}
use Rattle.expr_grammar.specs.Machine as Machine
use Rattle.expr_grammar.specs.Machine.{node_with, moved, part_step}
use Rattle.expr_grammar.specs.Counting.{made_part, made_move}
use Rattle.expr_stack.specs.declared.stack.Frame.{Frame}
use Rattle.tree_parts.specs.declared.part.Part.{Part}
use Rattle.expr_stack.specs.declared.stack.Stack.{Stack}
use Rattle.expr_parse.specs.declared.turn.Turn.TheVariants as Turn
use Rattle.expr_stack.specs.StackMeaning.{Made}
use Rattle.expr_parse.specs.TurnMeaning.{Turns}
use Rattle.expr_parse.proofs.Going.{Step, Count, Goes, AtTop, end-turn, end-refused, close-goes}

abbrev pub following : Lexeme → Step
following t frames tree spelled = part_step frames tree spelled t

abbrev pub following-makes : Lexeme → Count
following-makes t frames tree spelled = made_part frames tree spelled t

seen : (held : Frame) (f : Machine.Frame) (e : Tree) (more : List Arena.Node) (part : Part) (sh : Shape) (t : Lexeme) (x : PartMove) → held.wait ≡ f.wait → tree_at more part.node ≡ e → sh ≡ shape (tree_at more part.node) → x ≡ at_part held.wait sh t → at_part f.wait (shape e) t ≡ x
seen held f e more part sh t x w is s q = ap (λ z. at_part z (shape e) t) (sym w) ∙ (ap (λ z. at_part held.wait z t) (sym (s ∙ ap shape is)) ∙ sym q)

part-ends : (f : Machine.Frame) (below : List Machine.Frame) (e : Tree) (b : List Lexeme) (t : Lexeme) (form : Form) → at_part f.wait (shape e) t ≡ PartMove.Finish form → (part_step (f ∷ below) e b t ≡ part_step below (node_with form f e b) (f.read ++ b) t) × (made_part (f ∷ below) e b t ≡ suc (made_part below (node_with form f e b) (f.read ++ b) t))
part-ends f below e b t form q = (rw q refl, rw q refl)

part-refuses : (f : Machine.Frame) (below : List Machine.Frame) (e : Tree) (b : List Lexeme) (t : Lexeme) → at_part f.wait (shape e) t ≡ PartMove.Refused → part_step (f ∷ below) e b t ≡ None
part-refuses f below e b t q = rw q refl

part-moves : (nodes more : List Arena.Node) (stack : Stack) (turn : Turn.the_data) (f : Machine.Frame) (below : List Machine.Frame) (e : Tree) (b : List Lexeme) (t : Lexeme) (move : PartMove) → at_part f.wait (shape e) t ≡ move → Turns nodes more stack turn (moved move f below e b t (λ form. part_step below (node_with form f e b) (f.read ++ b) t)) (made_move move e (λ form. made_part below (node_with form f e b) (f.read ++ b) t)) → Turns nodes more stack turn (part_step (f ∷ below) e b t) (made_part (f ∷ below) e b t)
part-moves nodes more stack turn f below e b t move q u = rw q u

pub follow-closes : {nodes more : List Arena.Node} {popped : Stack} {held : Frame} {part : Part} {fs : List Machine.Frame} {e : Tree} {b : List Lexeme} (most : List Arena.Node) (stack : Stack) (part' : Part) (form : Form) (t : Lexeme) (sh : Shape) (a : AtTop (following t) (following-makes t) nodes more popped held part fs e b) → sh ≡ shape (tree_at more part.node) → PartMove.Finish form ≡ at_part held.wait sh t → Made more most stack part' (node_with form a.top a.tree a.spelled) (a.top.read ++ a.spelled) a.below → Goes (following t) (following-makes t) nodes most stack part' fs e b
follow-closes {more = more} {held = held} {part = part} most stack part' form t sh a s q m =
    let x = part-ends a.top a.below a.tree a.spelled t form (seen held a.top a.tree more part sh t (PartMove.Finish form) a.beside.wait a.beside.is.is s q) in
    close-goes most stack part' form a x.0 x.1 m

pub follow-refuses : {nodes more : List Arena.Node} {popped : Stack} {held : Frame} {part : Part} {fs : List Machine.Frame} {e : Tree} {b : List Lexeme} (stack : Stack) (t : Lexeme) (sh : Shape) (a : AtTop (following t) (following-makes t) nodes more popped held part fs e b) → sh ≡ shape (tree_at more part.node) → PartMove.Refused ≡ at_part held.wait sh t → Turns nodes more stack Turn.Refused (part_step fs e b t) (made_part fs e b t)
follow-refuses {more = more} {held = held} {part = part} stack t sh a s q =
    end-refused stack a (part-refuses a.top a.below a.tree a.spelled t (seen held a.top a.tree more part sh t PartMove.Refused a.beside.wait a.beside.is.is s q))

pub follow-moves : {nodes more : List Arena.Node} {popped : Stack} {held : Frame} {part : Part} {fs : List Machine.Frame} {e : Tree} {b : List Lexeme} (most : List Arena.Node) (stack : Stack) (turn : Turn.the_data) (move : PartMove) (t : Lexeme) (sh : Shape) (a : AtTop (following t) (following-makes t) nodes more popped held part fs e b) → sh ≡ shape (tree_at more part.node) → move ≡ at_part held.wait sh t → Turns more most stack turn (moved move a.top a.below a.tree a.spelled t (λ form. part_step a.below (node_with form a.top a.tree a.spelled) (a.top.read ++ a.spelled) t)) (made_move move a.tree (λ form. made_part a.below (node_with form a.top a.tree a.spelled) (a.top.read ++ a.spelled) t)) → Turns nodes most stack turn (part_step fs e b t) (made_part fs e b t)
follow-moves {more = more} {held = held} {part = part} most stack turn move t sh a s q u =
    end-turn most stack turn a (part-moves more most stack turn a.top a.below a.tree a.spelled t move (seen held a.top a.tree more part sh t move a.beside.wait a.beside.is.is s q) u)
