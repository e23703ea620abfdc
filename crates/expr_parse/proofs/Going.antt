-- Turns of loops: what is left of a step is the step.
use Rattle.std.proofs.Common.{◌≡◌, ℕ, suc, ◌+◌, ◌≤◌, Bool, true, false, List, [], ◌∷◌, ◌++◌, Option, Some, None, length, refl, ap, sym, subst, ◌∙◌, append_assoc, arith}
use Rattle.std.specs.Prelude.{cond}
use Rattle.tla_symbols.specs.declared.lexeme.Lexeme.{Lexeme}
use Rattle.tla_tree.specs.declared.form.Form.{Form}
use Rattle.tla_tree.specs.Arena as Arena
use Rattle.tla_tree.specs.Arena.{tree_at}
use Rattle.tla_tree.specs.Syntax.{Tree}
use Rattle.expr_grammar.specs.Tables.{shape}
use Rattle.expr_grammar.specs.Machine as Machine
use Rattle.expr_grammar.specs.Machine.{State, node_with}
use Rattle.expr_stack.specs.declared.stack.Frame.{Frame}
use Rattle.expr_stack.specs.declared.stack.Opening.{Opening}
use Rattle.tree_parts.specs.declared.part.Part.{Part}
use Rattle.expr_stack.specs.declared.stack.Stack.{Stack}
use Rattle.expr_parse.specs.declared.turn.Turn.TheVariants as Turn
use Rattle.tree_parts.specs.Parts.{joined, IsPart, Grows, IsThere}
use Rattle.expr_stack.specs.StackMeaning.{Stands, Opens, IsTop, Made, IsOpen}
use Rattle.expr_parse.specs.TurnMeaning.{IsTurn, Turns, IsBeside, CanTake}
use Rattle.tree_parts.proofs.Growing.{grows-same, grows-on}
use Rattle.expr_stack.proofs.Stacking.{opens-read}

-- the lexeme after a part
pub opens-then : (nodes : List Arena.Node) (stack : Stack) (opening more : Opening) (t : Lexeme) (ps : List Tree) (a b : List Lexeme) (below : List Machine.Frame) → more ≡ record { first = opening.first; span = joined opening.span (Some t.span) } → Opens nodes stack opening ps (a ++ b) below → Opens nodes stack more ps (a ++ (b ++ t ∷ [])) below
opens-then nodes stack opening more t ps a b below m o =
    subst (λ z. Opens nodes stack more ps z below) (append_assoc a b (t ∷ []))
    (opens-read nodes stack opening more (Some t.span) ps (a ++ b) below (t ∷ []) m refl o)

pub cond-turn-true : (b : Bool) (nodes more : List Arena.Node) (stack : Stack) (turn : Turn.the_data) (st : Option State) (made : ℕ) → b ≡ true → Turns nodes more stack turn st made → Turns nodes more stack turn (cond b st None) (cond b made 0)
cond-turn-true b nodes more stack turn st made q t = rw q t

pub cond-turn-false : (b : Bool) (nodes : List Arena.Node) (stack : Stack) (st : Option State) (made : ℕ) → b ≡ false → Turns nodes nodes stack Turn.Refused (cond b st None) (cond b made 0)
cond-turn-false b nodes stack st made q = rw q (record { grows = grows-same nodes; few = omega arith; turned = tt })

pub open-beside : {nodes : List Arena.Node} {stack : Stack} {held : Frame} {part : Part} → CanTake nodes stack held part → IsOpen nodes stack held.opening
open-beside k = record { parts = k.frame.parts; read = k.frame.read; below = k.below; opens = k.beside.opens }

pub there-beside : {nodes : List Arena.Node} {stack : Stack} {held : Frame} {part : Part} → CanTake nodes stack held part → IsThere nodes part
there-beside k = (k.tree, k.spelled, k.beside.is)

-- a step of the machine, and what it makes
abbrev pub Reads : Type 0 → Type 0
Reads X = List Machine.Frame → Tree → List Lexeme → X

abbrev pub Step : Type 0
Step = Reads (Option State)

abbrev pub Count : Type 0
Count = List Machine.Frame → Tree → List Lexeme → ℕ

-- the stack and the part stand for frames and a part with which the step goes on as it began
pub record Goes {X : Type 0} (machine : Reads X) (made : Count) (nodes more : List Arena.Node) (stack : Stack) (part : Part) (fs : List Machine.Frame) (e : Tree) (b : List Lexeme) : Type 0 where
  pub frames : List Machine.Frame
  pub tree : Tree
  pub spelled : List Lexeme
  pub stands : Stands more stack frames
  pub is : IsPart more part tree spelled
  pub grows : Grows nodes more
  pub same : machine frames tree spelled ≡ machine fs e b
  pub few : length more + made frames tree spelled ≤ length nodes + made fs e b

pub goes-first : {X : Type 0} (machine : Reads X) (made : Count) (nodes : List Arena.Node) (stack : Stack) (part : Part) (fs : List Machine.Frame) (e : Tree) (b : List Lexeme) → Stands nodes stack fs → IsPart nodes part e b → Goes machine made nodes nodes stack part fs e b
goes-first machine made nodes stack part fs e b s p = record {
  frames = fs;
  tree = e;
  spelled = b;
  stands = s;
  is = p;
  grows = grows-same nodes;
  same = refl;
  few = omega arith;
}

-- the same with the innermost frame taken from the stack
pub record AtTop {X : Type 0} (machine : Reads X) (made : Count) (nodes more : List Arena.Node) (popped : Stack) (held : Frame) (part : Part) (fs : List Machine.Frame) (e : Tree) (b : List Lexeme) : Type 0 where
  pub top : Machine.Frame
  pub below : List Machine.Frame
  pub tree : Tree
  pub spelled : List Lexeme
  pub beside : IsBeside more popped held part top below tree spelled
  pub grows : Grows nodes more
  pub same : machine (top ∷ below) tree spelled ≡ machine fs e b
  pub few : length more + made (top ∷ below) tree spelled ≤ length nodes + made fs e b

pub can-take : {X : Type 0} {machine : Reads X} {made : Count} {nodes more : List Arena.Node} {popped : Stack} {held : Frame} {part : Part} {fs : List Machine.Frame} {e : Tree} {b : List Lexeme} → AtTop machine made nodes more popped held part fs e b → CanTake more popped held part
can-take a = record { frame = a.top; below = a.below; tree = a.tree; spelled = a.spelled; beside = a.beside }

abbrev pub Pops : Stack → Stack → Option Frame → Type 0
Pops stack popped top = (nodes : List Arena.Node) → (frames : List Machine.Frame) → Stands nodes stack frames → IsTop nodes popped top frames

pub at-top : {X : Type 0} (machine : Reads X) (made : Count) (nodes more : List Arena.Node) (stack popped : Stack) (held : Frame) (part : Part) (fs : List Machine.Frame) (e : Tree) (b : List Lexeme) → Pops stack popped (Some held) → Goes machine made nodes more stack part fs e b → AtTop machine made nodes more popped held part fs e b
at-top machine made nodes more stack popped held part fs e b pop g = by-frames g.frames refl (pop more g.frames g.stands)
  where
    by-frames : (frames : List Machine.Frame) → g.frames ≡ frames → IsTop more popped (Some held) frames → AtTop machine made nodes more popped held part fs e b
    by-frames [] q top = absurd top
    by-frames (f ∷ below) q top = record {
      top = f;
      below = below;
      tree = g.tree;
      spelled = g.spelled;
      beside = record { wait = top.0; opens = top.1; is = g.is };
      grows = g.grows;
      same = ap (λ z. machine z g.tree g.spelled) (sym q) ∙ g.same;
      few = subst (λ z. length more + made z g.tree g.spelled ≤ length nodes + made fs e b) q g.few;
    }

pub at-none : (machine : Step) (made : Count) (nodes more : List Arena.Node) (stack popped : Stack) (part : Part) (fs : List Machine.Frame) (e : Tree) (b : List Lexeme) → ((tree : Tree) → (spelled : List Lexeme) → machine [] tree spelled ≡ None) → Pops stack popped None → Goes machine made nodes more stack part fs e b → Turns nodes more popped Turn.Refused (machine fs e b) (made fs e b)
at-none machine made nodes more stack popped part fs e b none pop g = by-frames g.frames refl (pop more g.frames g.stands)
  where
    by-frames : (frames : List Machine.Frame) → g.frames ≡ frames → IsTop more popped None frames → Turns nodes more popped Turn.Refused (machine fs e b) (made fs e b)
    by-frames [] q top =
        let r : machine fs e b ≡ None = sym g.same ∙ (ap (λ z. machine z g.tree g.spelled) q ∙ none g.tree g.spelled) in
        record { grows = g.grows; few = omega (arith, g.few); turned = rw r tt }
    by-frames (f ∷ below) q top = absurd top

-- the step ends
pub end-turn : {machine : Step} {made : Count} {nodes more : List Arena.Node} {popped : Stack} {held : Frame} {part : Part} {fs : List Machine.Frame} {e : Tree} {b : List Lexeme} (most : List Arena.Node) (stack : Stack) (turn : Turn.the_data) (a : AtTop machine made nodes more popped held part fs e b) → Turns more most stack turn (machine (a.top ∷ a.below) a.tree a.spelled) (made (a.top ∷ a.below) a.tree a.spelled) → Turns nodes most stack turn (machine fs e b) (made fs e b)
end-turn {nodes = nodes} {more = more} most stack turn a t = record {
  grows = grows-on nodes more most a.grows t.grows;
  few = omega (arith, t.few, a.few);
  turned = subst (IsTurn most stack turn) a.same t.turned;
}

pub end-refused : {machine : Step} {made : Count} {nodes more : List Arena.Node} {popped : Stack} {held : Frame} {part : Part} {fs : List Machine.Frame} {e : Tree} {b : List Lexeme} (stack : Stack) (a : AtTop machine made nodes more popped held part fs e b) → machine (a.top ∷ a.below) a.tree a.spelled ≡ None → Turns nodes more stack Turn.Refused (machine fs e b) (made fs e b)
end-refused {more = more} stack a q = record {
  grows = a.grows;
  few = omega (arith, a.few);
  turned = subst (IsTurn more stack Turn.Refused) (sym q ∙ a.same) tt;
}

-- the innermost frame ends, and the step goes on
pub close-goes : {X : Type 0} {machine : Reads X} {made : Count} {nodes more : List Arena.Node} {popped : Stack} {held : Frame} {part : Part} {fs : List Machine.Frame} {e : Tree} {b : List Lexeme} (most : List Arena.Node) (stack : Stack) (part' : Part) (form : Form) (a : AtTop machine made nodes more popped held part fs e b) → machine (a.top ∷ a.below) a.tree a.spelled ≡ machine a.below (node_with form a.top a.tree a.spelled) (a.top.read ++ a.spelled) → made (a.top ∷ a.below) a.tree a.spelled ≡ suc (made a.below (node_with form a.top a.tree a.spelled) (a.top.read ++ a.spelled)) → Made more most stack part' (node_with form a.top a.tree a.spelled) (a.top.read ++ a.spelled) a.below → Goes machine made nodes most stack part' fs e b
close-goes {nodes = nodes} {more = more} most stack part' form a q r m = record {
  frames = a.below;
  tree = node_with form a.top a.tree a.spelled;
  spelled = a.top.read ++ a.spelled;
  stands = m.stands;
  is = m.is;
  grows = grows-on nodes more most a.grows m.grows;
  same = sym q ∙ a.same;
  few = omega (arith, m.one, r, a.few);
}

-- what the code sees of the top is what the machine sees
pub seen-shape : {machine : Step} {made : Count} {nodes more : List Arena.Node} {popped : Stack} {held : Frame} {part : Part} {fs : List Machine.Frame} {e : Tree} {b : List Lexeme} (a : AtTop machine made nodes more popped held part fs e b) → shape (tree_at more part.node) ≡ shape a.tree
seen-shape a = ap shape a.beside.is.is

pub cond-still-true : (b : Bool) (nodes : List Arena.Node) (stack : Stack) (turn : Turn.the_data) (st : Option State) → b ≡ true → IsTurn nodes stack turn st → Turns nodes nodes stack turn (cond b st None) 0
cond-still-true b nodes stack turn st q t = rw q (record { grows = grows-same nodes; few = omega arith; turned = t })
