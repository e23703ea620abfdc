-- What moves make of frames.
use Rattle.std.proofs.Common.{◌≡◌, ℕ, ◌+◌, ◌<◌, ◌≤◌, true, false, List, [], ◌∷◌, ◌++◌, Option, Some, None, refl, ap, sym, subst, ◌∙◌, length, arith}
use Rattle.std.specs.Option.{option_map}
use Rattle.std.specs.Prelude.{nat_lt}
use Rattle.std.proofs.lemmas.Bool.Decides.{nat_tests}
use Rattle.tla_symbols.specs.declared.lexeme.Lexeme.{Lexeme}
use Rattle.tla_tree.specs.Arena.{Node}
use Rattle.tla_tree.specs.Syntax.{Tree}
use Rattle.expr_grammar.specs.declared.wait.Wait.{Wait}
use Rattle.tla_tree.specs.declared.form.Form.{Form}
use Rattle.expr_grammar.specs.declared.wait.MarkMove.{MarkMove}
use Rattle.expr_grammar.specs.declared.wait.Start.{Start}
use Rattle.expr_grammar.specs.Tables.{Child, absorbs, mode, endable, at_mark, begins}
use Rattle.expr_grammar.specs.Counting.{made_ended, made_have, made_mark, made_begun, made_due}
use Rattle.expr_grammar.specs.Machine as Machine
use Rattle.expr_grammar.specs.Machine.{State, frame, with_child, complete, inner, node, have, ended, marked, begun, due}
use Rattle.expr_stack.specs.declared.stack.Frame.{Frame}
use Rattle.expr_stack.specs.declared.stack.Opening.{Opening}
use Rattle.tree_parts.specs.declared.part.Part.{Part}
use Rattle.expr_stack.specs.declared.stack.Stack.{Stack}
use Rattle.expr_parse.specs.declared.turn.Turn.TheVariants as Turn
use Rattle.tree_parts.specs.Parts.{IsPart, Grows}
use Rattle.expr_stack.specs.StackMeaning.{Stands, Opens, IsTop, IsWait, IsOpen, Made}
use Rattle.expr_parse.specs.TurnMeaning.{IsTurn, Turns}
use Rattle.tree_parts.proofs.Growing.{grows-same, grows-on}

pub goes-child : (nodes : List Node) (stack : Stack) (part : Wait) (fs : List Machine.Frame) (child : Option Child) → Some part ≡ option_map (λ c. c.wait) child → ((c : Child) → child ≡ Some c → Stands nodes stack (frame part [] c.read ∷ fs)) → IsTurn nodes stack Turn.Due (Some (with_child child fs))
goes-child nodes stack part fs None e put = cc
goes-child nodes stack part fs (Some c) e put = let q : part ≡ c.wait = cc in subst (λ w. Stands nodes stack (frame w [] c.read ∷ fs)) q (put c refl)

pub goes-alone : (nodes : List Node) (stack : Stack) (fs : List Machine.Frame) (child : Option Child) → None ≡ option_map (λ c. c.wait) child → Stands nodes stack fs → IsTurn nodes stack Turn.Due (Some (with_child child fs))
goes-alone nodes stack fs None e s = s
goes-alone nodes stack fs (Some c) e s = cc

-- no node was made
pub turns-still : (nodes : List Node) (stack : Stack) (turn : Turn.the_data) (st : Option State) (made : ℕ) → IsTurn nodes stack turn st → Turns nodes nodes stack turn st made
turns-still nodes stack turn st made t = record { grows = grows-same nodes; few = omega arith; turned = t }

-- one was made
pub turns-one : (nodes more : List Node) (stack : Stack) (turn : Turn.the_data) (st : Option State) → Grows nodes more → length more ≡ length nodes + 1 → IsTurn more stack turn st → Turns nodes more stack turn st 1
turns-one nodes more stack turn st g l t = record { grows = g; few = omega (arith, l); turned = t }

-- a frame that goes back on the stack
abbrev pub Puts : Stack → Wait → Opening → Stack → Type 0
Puts stack wait opening stack' = (nodes : List Node) → (parts : List Tree) → (read : List Lexeme) → (below : List Machine.Frame) → Opens nodes stack opening parts read below → Stands nodes stack' (frame wait parts read ∷ below)

pub put-back : (nodes : List Node) (popped stack : Stack) (held : Frame) (f : Machine.Frame) (below : List Machine.Frame) → held.wait ≡ f.wait → Opens nodes popped held.opening f.parts f.read below → Puts popped held.wait held.opening stack → Stands nodes stack (f ∷ below)
put-back nodes popped stack held f below w o put = subst (λ w. Stands nodes stack (frame w f.parts f.read ∷ below)) w (put nodes f.parts f.read below o)

pub complete-bare : (nodes : List Node) (stack : Stack) (part : Part) (fs : List Machine.Frame) (e : Tree) (b : List Lexeme) → IsTop nodes stack None fs → IsPart nodes part e b → IsTurn nodes stack (Turn.Read part) (Some (complete fs e b))
complete-bare nodes stack part [] e b top is = (top, is)
complete-bare nodes stack part (f ∷ fs) e b top is = absurd top

pub complete-stays : (nodes : List Node) (popped stack : Stack) (held : Frame) (part : Part) (fs : List Machine.Frame) (e : Tree) (b : List Lexeme) → IsTop nodes popped (Some held) fs → IsPart nodes part e b → None ≡ absorbs held.wait → Puts popped held.wait held.opening stack → IsTurn nodes stack (Turn.Read part) (Some (complete fs e b))
complete-stays nodes popped stack held part [] e b top is none put = absurd top
complete-stays nodes popped stack held part (f ∷ fs) e b top is none put =
    let q : absorbs f.wait ≡ None = ap absorbs (sym top.0) ∙ sym none in
    rw q (put-back nodes popped stack held f fs top.0 top.1 put, is)

pub complete-taken : (nodes : List Node) (popped stack : Stack) (held : Frame) (part : Part) (wait : Wait) (fs : List Machine.Frame) (e : Tree) (b : List Lexeme) → IsTop nodes popped (Some held) fs → Some wait ≡ absorbs held.wait → ((f : Machine.Frame) → (below : List Machine.Frame) → Opens nodes popped held.opening f.parts f.read below → Stands nodes stack (frame wait (f.parts ++ e ∷ []) (f.read ++ b) ∷ below)) → IsTurn nodes stack Turn.Due (Some (complete fs e b))
complete-taken nodes popped stack held part wait [] e b top some put = absurd top
complete-taken nodes popped stack held part wait (f ∷ fs) e b top some put =
    let q : absorbs f.wait ≡ Some wait = ap absorbs (sym top.0) ∙ sym some in
    rw q (put f fs top.1)

-- the frame that was taken from the stack is open
pub open-top : (nodes : List Node) (popped : Stack) (held : Frame) (fs : List Machine.Frame) → IsTop nodes popped (Some held) fs → IsOpen nodes popped held.opening
open-top nodes popped held [] top = absurd top
open-top nodes popped held (f ∷ below) top = record { parts = f.parts; read = f.read; below = below; opens = top.1 }

-- a frame that may not end
pub end-none : (nodes : List Node) (stack : Stack) (held : Frame) (f : Machine.Frame) (below : List Machine.Frame) (t : Lexeme) → None ≡ endable held.wait (Some t.kind) → held.wait ≡ f.wait → Turns nodes nodes stack Turn.Refused (ended (endable f.wait (Some t.kind)) f below t) (made_ended (endable f.wait (Some t.kind)) f below t)
end-none nodes stack held f below t q w =
    let r : endable f.wait (Some t.kind) ≡ None = ap (λ z. endable z (Some t.kind)) (sym w) ∙ sym q in
    rw r (record { grows = grows-same nodes; few = omega arith; turned = tt })

-- and one that ends
pub end-some : (nodes more most : List Node) (stack stack' : Stack) (held : Frame) (part : Part) (turn : Turn.the_data) (form : Form) (f : Machine.Frame) (below : List Machine.Frame) (t : Lexeme) → Some form ≡ endable held.wait (Some t.kind) → held.wait ≡ f.wait → Made nodes more stack part (node form f) f.read below → Turns more most stack' turn (have below (node form f) f.read t) (made_have below (node form f) f.read t) → Turns nodes most stack' turn (ended (endable f.wait (Some t.kind)) f below t) (made_ended (endable f.wait (Some t.kind)) f below t)
end-some nodes more most stack stack' held part turn form f below t q w m u =
    let r : endable f.wait (Some t.kind) ≡ Some form = ap (λ z. endable z (Some t.kind)) (sym w) ∙ sym q in
    rw r (record { grows = grows-on nodes more most m.grows u.grows; few = omega (arith, u.few, m.one); turned = u.turned })

pub mark-by : (nodes more : List Node) (stack : Stack) (turn : Turn.the_data) (held : Frame) (f : Machine.Frame) (below : List Machine.Frame) (t : Lexeme) (move : MarkMove) → move ≡ at_mark held.wait t → held.wait ≡ f.wait → Turns nodes more stack turn (marked move f below t) (made_mark move f below t) → Turns nodes more stack turn (marked (at_mark f.wait t) f below t) (made_mark (at_mark f.wait t) f below t)
mark-by nodes more stack turn held f below t move q w u =
    let r : move ≡ at_mark f.wait t = q ∙ ap (λ z. at_mark z t) w in
    subst (λ z. Turns nodes more stack turn (marked z f below t) (made_mark z f below t)) r u

pub begin-by : (nodes more : List Node) (stack : Stack) (turn : Turn.the_data) (f : Machine.Frame) (below : List Machine.Frame) (t : Lexeme) (start begins' : Start) → start ≡ begins' → Turns nodes more stack turn (begun begins' f below t) (made_begun begins' f below t) → Turns nodes more stack turn (begun start f below t) (made_begun start f below t)
begin-by nodes more stack turn f below t start begins' q u = subst (λ z. Turns nodes more stack turn (begun z f below t) (made_begun z f below t)) (sym q) u

pub due-none : (nodes : List Node) (stack : Stack) (fs : List Machine.Frame) (t : Lexeme) → IsWait None fs → Turns nodes nodes stack Turn.Refused (due fs t) (made_due fs t)
due-none nodes stack [] t w = record { grows = grows-same nodes; few = omega arith; turned = tt }
due-none nodes stack (f ∷ fs) t w = absurd w

pub due-left : (nodes more : List Node) (stack stack' : Stack) (turn : Turn.the_data) (wait : Wait) (fs : List Machine.Frame) (t : Lexeme) (column : ℕ) → IsWait (Some wait) fs → Stands nodes stack fs → column ≡ inner fs → t.col < column → ((top : Machine.Frame) → (below : List Machine.Frame) → Stands nodes stack (top ∷ below) → Turns nodes more stack' turn (ended (endable top.wait (Some t.kind)) top below t) (made_ended (endable top.wait (Some t.kind)) top below t)) → Turns nodes more stack' turn (due fs t) (made_due fs t)
due-left nodes more stack stack' turn wait [] t column w s i l u = absurd w
due-left nodes more stack stack' turn wait (f ∷ fs) t column w s i l u =
    let q : nat_lt t.col (inner (f ∷ fs)) ≡ true = grind (arith, nat_tests, i, l) in
    rw q (u f fs s)

pub due-begins : (nodes more : List Node) (stack stack' : Stack) (turn : Turn.the_data) (wait : Wait) (start : Start) (fs : List Machine.Frame) (t : Lexeme) (column : ℕ) → IsWait (Some wait) fs → Stands nodes stack fs → column ≡ inner fs → column ≤ t.col → start ≡ begins (mode wait) t → ((top : Machine.Frame) → (below : List Machine.Frame) → Stands nodes stack (top ∷ below) → Turns nodes more stack' turn (begun start top below t) (made_begun start top below t)) → Turns nodes more stack' turn (due fs t) (made_due fs t)
due-begins nodes more stack stack' turn wait start [] t column w s i l b u = absurd w
due-begins nodes more stack stack' turn wait start (f ∷ fs) t column w s i l b u =
    let q : nat_lt t.col (inner (f ∷ fs)) ≡ false = grind (arith, nat_tests, i, l) in
    let r : start ≡ begins (mode f.wait) t = b ∙ ap (λ z. begins (mode z) t) w in
    rw (q, ← r) (u f fs s)
