-- How frames end, one by one.
use Rattle.std.proofs.Common.{◌≡◌, ℕ, zero, suc, ◌+◌, ◌-◌, ◌<◌, Bool, true, false, List, [], ◌∷◌, ◌++◌, Option, Some, None, length, take, refl, ap, sym, subst, ◌∙◌, length-append, arith}
use Rattle.std.specs.Prelude.{reverse, slice_index_or, option_and_then}
use Rattle.std.proofs.lemmas.List.{reverse-append, reverse-reverse, length-reverse, take-append-le}
use Rattle.std.proofs.Math.Seq.{take-length}
use Rattle.tla_symbols.specs.declared.lexeme.Lexeme.{Lexeme}
use Rattle.tla_tree.specs.declared.form.Form.{Form}
use Rattle.tla_tree.specs.Arena as Arena
use Rattle.tla_tree.specs.Arena.{tree_at}
use Rattle.tla_tree.specs.Lexemes.{built}
use Rattle.tla_tree.specs.Syntax.{Tree, Trees, Node, Nil, Cons, trees}
use Rattle.expr_grammar.specs.declared.wait.Wait.{Wait}
use Rattle.expr_grammar.specs.declared.wait.Shape.{Shape}
use Rattle.expr_grammar.specs.Tables.{shape, plain_shape, infix_shape, is_expression, finishes, endable}
use Rattle.expr_grammar.specs.Machine as Machine
use Rattle.expr_grammar.specs.Machine.{State, At, Have, node, node_with}
use Rattle.expr_grammar.specs.Counting.{made_close, made_last, made_finish}
use Rattle.expr_laws.proofs.Starting.{member-expression, plain-expression}
use Rattle.expr_parse.specs.declared.goal.Goal.{Goal}
use Rattle.expr_stack.specs.declared.stack.Frame.{Frame}
use Rattle.tree_parts.specs.declared.part.Part.{Part}
use Rattle.expr_stack.specs.declared.stack.Stack.{Stack}
use Rattle.expr_parse.specs.declared.turn.Turn.TheVariants as Turn
use Rattle.tree_parts.specs.Parts.{IsPart}
use Rattle.expr_stack.specs.StackMeaning.{AreFrames, Stands, IsWait, IsTop, Opens, Made}
use Rattle.expr_parse.specs.TurnMeaning.{IsTurn, IsReady}
use Rattle.expr_parse.specs.Ending.{closing, ending, ending_of, takes_whole, is_whole, shape_of_form, on_ending, all_end, IsLeft, Closes}
use Rattle.tree_parts.proofs.Growing.{grows-same, grows-on}
use Rattle.expr_parse.proofs.Going.{Goes, AtTop, close-goes}
use Rattle.expr_parse.proofs.Operating.{finishing}
use Rattle.expr_parse.proofs.Renaming.{take-next}

-- what the form says of a part is what the tables ask of it
pub record Alike (goal : Goal) (sh sh' : Shape) : Type 0 where
  pub ends : (w : Wait) → finishes w sh ≡ finishes w sh'
  pub whole : (w : Wait) → takes_whole goal w sh ≡ takes_whole goal w sh'

same-alike : (goal : Goal) (sh : Shape) → Alike goal sh sh
same-alike goal sh = record { ends = λ w. refl; whole = λ w. refl }

expression-whole : (goal : Goal) (sh : Shape) (w : Wait) → is_expression sh ≡ true → takes_whole goal w sh ≡ takes_whole goal w Shape.Expression
expression-whole Goal.Expression sh Wait.Whole q = q
expression-whole Goal.Expression sh _ q = refl
expression-whole Goal.Bounds (Shape.Plain n) w q = by-wait w
  where
    by-wait : (w : Wait) → takes_whole Goal.Bounds w (Shape.Plain n) ≡ takes_whole Goal.Bounds w Shape.Expression
    by-wait Wait.WholeBounds = refl
    by-wait _ = refl
expression-whole Goal.Bounds Shape.Member w q = by-wait w
  where
    by-wait : (w : Wait) → takes_whole Goal.Bounds w Shape.Member ≡ takes_whole Goal.Bounds w Shape.Expression
    by-wait Wait.WholeBounds = refl
    by-wait _ = refl
expression-whole Goal.Bounds Shape.Expression w q = refl
expression-whole Goal.Bounds _ w q = cc

expression-alike : (goal : Goal) (sh : Shape) → is_expression sh ≡ true → Alike goal Shape.Expression sh
expression-alike goal sh q = record { ends = λ w. rw q refl; whole = λ w. sym (expression-whole goal sh w q) }

infix-expression : (t : Lexeme) (ps : Trees) → is_expression (infix_shape t ps) ≡ true
infix-expression t (Cons x (Cons y Nil)) = member-expression _
infix-expression t _ = refl

pub shape_of_form-alike : (goal : Goal) (f : Form) (s : _) (ps : Trees) → Alike goal (shape_of_form f) (shape (Node f s ps))
shape_of_form-alike goal Form.Identifier s ps = expression-alike goal (plain_shape ps) (plain-expression ps)
shape_of_form-alike goal (Form.Infix t) s ps = expression-alike goal (infix_shape t ps) (infix-expression t ps)
shape_of_form-alike goal _ s ps = same-alike goal _

pub all-alike : (goal : Goal) (hs : List Frame) (sh sh' : Shape) → Alike goal sh sh' → all_end goal hs sh ≡ all_end goal hs sh'
all-alike goal [] sh sh' a = refl
all-alike goal (h ∷ []) sh sh' a = a.whole h.wait
all-alike goal (h ∷ g ∷ hs) sh sh' a = ap (λ z. on_ending z (λ form. all_end goal (g ∷ hs) (shape_of_form form))) (a.ends h.wait)

all-cons : (goal : Goal) (h : Frame) (hs : List Frame) (sh : Shape) → 0 < length hs → all_end goal (h ∷ hs) sh ≡ on_ending (finishes h.wait sh) (λ form. all_end goal hs (shape_of_form form))
all-cons goal h [] sh l = absurd (omega (arith, l))
all-cons goal h (g ∷ hs) sh l = refl

-- the code's frames end as the machine's do
pub all-closing : (goal : Goal) (nodes : List Arena.Node) (hs : List Frame) (numbers : List ℕ) (fs : List Machine.Frame) (e : Tree) (b : List Lexeme) → AreFrames nodes hs numbers fs → all_end goal hs (shape e) ≡ is_whole goal (closing fs e b)
all-closing goal nodes [] numbers [] e b s = refl
all-closing goal nodes [] numbers (f ∷ fs) e b s = absurd s
all-closing goal nodes (h ∷ hs) numbers [] e b s = absurd s
all-closing goal nodes (h ∷ []) numbers (f ∷ []) e b s = ap (λ w. takes_whole goal w (shape e)) s.0
all-closing goal nodes (h ∷ []) numbers (f ∷ g ∷ fs) e b s = absurd s.4
all-closing goal nodes (h ∷ k ∷ hs) numbers (f ∷ []) e b s = absurd s.4
all-closing goal nodes (h ∷ k ∷ hs) numbers (f ∷ g ∷ fs) e b s =
    ap (λ w. on_ending (finishes w (shape e)) (λ form. all_end goal (k ∷ hs) (shape_of_form form))) s.0
    ∙ by-form (λ x c. all-closing goal nodes (k ∷ hs) _ (g ∷ fs) x c s.4) (finishes f.wait (shape e))
  where
    by-form : ((x : Tree) → (c : List Lexeme) → all_end goal (k ∷ hs) (shape x) ≡ is_whole goal (closing (g ∷ fs) x c)) → (o : Option Form) → on_ending o (λ form. all_end goal (k ∷ hs) (shape_of_form form)) ≡ is_whole goal (option_and_then (λ form. closing (g ∷ fs) (node_with form f e b) (f.read ++ b)) o)
    by-form rest None = refl
    by-form rest (Some form) = all-alike goal (k ∷ hs) (shape_of_form form) (shape (node_with form f e b)) (shape_of_form-alike goal form _ _) ∙ rest (node_with form f e b) (f.read ++ b)

-- one frame less
pub open-next : (goal : Goal) (frames : List Frame) (i : ℕ) (d : Frame) (sh : Shape) → 0 < i → i < length frames → all_end goal (reverse (take (i + 1) frames)) sh ≡ on_ending (finishes (slice_index_or frames i d).wait sh) (λ form. all_end goal (reverse (take i frames)) (shape_of_form form))
open-next goal frames i d sh p l =
    let e : reverse (take (i + 1) frames) ≡ slice_index_or frames i d ∷ reverse (take i frames) =
    ap reverse (take-next frames i d l) ∙ reverse-append (take i frames) (slice_index_or frames i d ∷ [])
    in
    ap (λ z. all_end goal z sh) e ∙ all-cons goal (slice_index_or frames i d) (reverse (take i frames)) sh (omega (arith, p, l, length-reverse (take i frames), length-taken frames i l))
  where
    length-taken : (fs : List Frame) (n : ℕ) → n < length fs → length (take n fs) ≡ n
    length-taken [] n l = absurd (omega (arith, l))
    length-taken (x ∷ fs) zero l = refl
    length-taken (x ∷ fs) (suc n) l = let q : length (take n fs) ≡ n = length-taken fs n (omega (arith, l)) in omega arith

pub open-ends : (goal : Goal) (frames : List Frame) (i : ℕ) (d : Frame) (sh : Shape) (form : Form) → 0 < i → i < length frames → Some form ≡ finishes (slice_index_or frames i d).wait sh → all_end goal (reverse (take (i + 1) frames)) sh ≡ all_end goal (reverse (take i frames)) (shape_of_form form)
open-ends goal frames i d sh form p l q = open-next goal frames i d sh p l ∙ ap (λ z. on_ending z (λ form. all_end goal (reverse (take i frames)) (shape_of_form form))) (sym q)

pub open-stays : (goal : Goal) (frames : List Frame) (i : ℕ) (d : Frame) (sh : Shape) → 0 < i → i < length frames → None ≡ finishes (slice_index_or frames i d).wait sh → all_end goal (reverse (take (i + 1) frames)) sh ≡ false
open-stays goal frames i d sh p l q = open-next goal frames i d sh p l ∙ ap (λ z. on_ending z (λ form. all_end goal (reverse (take i frames)) (shape_of_form form))) (sym q)

pub open-one : (goal : Goal) (frames : List Frame) (d : Frame) (sh : Shape) → 0 < length frames → all_end goal (reverse (take 1 frames)) sh ≡ takes_whole goal (slice_index_or frames 0 d).wait sh
open-one goal [] d sh l = absurd (omega (arith, l))
open-one goal (f ∷ fs) d sh l = refl

-- the frames on the stack are as many as the machine's
pub frames-many : (nodes : List Arena.Node) (hs : List Frame) (numbers : List ℕ) (fs : List Machine.Frame) → AreFrames nodes hs numbers fs → length hs ≡ length fs
frames-many nodes [] numbers [] s = refl
frames-many nodes [] numbers (f ∷ fs) s = absurd s
frames-many nodes (h ∷ hs) numbers [] s = absurd s
frames-many nodes (h ∷ hs) numbers (f ∷ fs) s = let q : length hs ≡ length fs = frames-many nodes hs _ fs s.4 in omega arith

-- the frames but the innermost
pub outer-below : (frames : List Frame) (last : Frame) (below : List Frame) → reverse frames ≡ last ∷ below → reverse (take (length frames - 1) frames) ≡ below
outer-below frames last below q =
    let r : frames ≡ reverse below ++ last ∷ [] = sym (reverse-reverse frames) ∙ (ap reverse q ∙ reverse-append (last ∷ []) below) in
    let n : length frames - 1 ≡ length (reverse below) = omega (arith, ap (λ z. length z) r, length-append (reverse below) (last ∷ [])) in
    let t : take (length (reverse below)) (reverse below ++ last ∷ []) ≡ reverse below = take-append-le (length (reverse below)) (reverse below) (last ∷ []) (omega arith) ∙ take-length (reverse below) in
    ap (λ z. reverse (take z frames)) n ∙ (ap (λ z. reverse (take (length (reverse below)) z)) r ∙ (ap reverse t ∙ reverse-reverse below))

pub due-whole : (goal : Goal) (nodes : List Arena.Node) (hs outer : List Frame) (numbers : List ℕ) (frames : List Machine.Frame) (form : Form) (wait : Wait) (x : Bool) → IsWait (Some wait) frames → AreFrames nodes hs numbers frames → ((last : Frame) → (below : List Frame) → hs ≡ last ∷ below → outer ≡ below) → Some form ≡ endable wait None → x ≡ all_end goal outer (shape_of_form form) → x ≡ is_whole goal (ending (At frames))
due-whole goal nodes hs outer numbers [] form wait x w s o q k = absurd w
due-whole goal nodes [] outer numbers (f ∷ fs) form wait x w s o q k = absurd s
due-whole goal nodes (h ∷ hs) outer numbers (f ∷ fs) form wait x w s o q k =
    let r : endable f.wait None ≡ Some form = ap (λ z. endable z None) (sym w) ∙ sym q in
    k ∙ (ap (λ z. all_end goal z (shape_of_form form)) (o h hs refl)
    ∙ (all-alike goal hs (shape_of_form form) (shape (node form f)) (shape_of_form-alike goal form _ _)
    ∙ (all-closing goal nodes hs _ fs (node form f) f.read s.4 ∙ ap (λ z. is_whole goal (option_and_then (λ form. closing fs (node form f) f.read) z)) (sym r))))

pub due-stays : (goal : Goal) (frames : List Machine.Frame) (wait : Wait) → IsWait (Some wait) frames → None ≡ endable wait None → false ≡ is_whole goal (ending (At frames))
due-stays goal [] wait w q = absurd w
due-stays goal (f ∷ fs) wait w q =
    let r : endable f.wait None ≡ None = ap (λ z. endable z None) (sym w) ∙ sym q in
    ap (λ z. is_whole goal (option_and_then (λ form. closing fs (node form f) f.read) z)) (sym r)

pub read-whole : (goal : Goal) (nodes : List Arena.Node) (stack : Stack) (part : Part) (state : Option State) (sh : Shape) (x : Bool) → IsTurn nodes stack (Turn.Read part) state → sh ≡ shape (tree_at nodes part.node) → x ≡ all_end goal (reverse stack.frames.items) sh → x ≡ is_whole goal (ending_of state)
read-whole goal nodes stack part None sh x t s k = absurd t
read-whole goal nodes stack part (Some (At frames)) sh x t s k = absurd t
read-whole goal nodes stack part (Some (Have frames e b)) sh x t s k =
    k ∙ (ap (all_end goal (reverse stack.frames.items)) (s ∙ ap shape t.1.is) ∙ all-closing goal nodes _ _ frames e b t.0)

pub due-whole-state : (goal : Goal) (nodes : List Arena.Node) (stack : Stack) (state : Option State) (x : Bool) → IsTurn nodes stack Turn.Due state → ((frames : List Machine.Frame) → Stands nodes stack frames → x ≡ is_whole goal (ending (At frames))) → x ≡ is_whole goal (ending_of state)
due-whole-state goal nodes stack None x t k = absurd t
due-whole-state goal nodes stack (Some (At frames)) x t k = k frames t
due-whole-state goal nodes stack (Some (Have frames e b)) x t k = absurd t

pub refused-whole : (goal : Goal) (nodes : List Arena.Node) (stack : Stack) (state : Option State) → IsTurn nodes stack Turn.Refused state → false ≡ is_whole goal (ending_of state)
refused-whole goal nodes stack None t = refl
refused-whole goal nodes stack (Some (At frames)) t = absurd t
refused-whole goal nodes stack (Some (Have frames e b)) t = absurd t

pub refused-closes : (nodes : List Arena.Node) (stack : Stack) (state : Option State) → IsTurn nodes stack Turn.Refused state → Closes nodes nodes stack None (ending_of state) (made_finish state)
refused-closes nodes stack None t = record { grows = grows-same nodes; few = omega arith; left = tt }
refused-closes nodes stack (Some (At frames)) t = absurd t
refused-closes nodes stack (Some (Have frames e b)) t = absurd t

closing-ends : (f : Machine.Frame) (below : List Machine.Frame) (e : Tree) (b : List Lexeme) (form : Form) → 0 < length below → finishes f.wait (shape e) ≡ Some form → (closing (f ∷ below) e b ≡ closing below (node_with form f e b) (f.read ++ b)) × (made_close (f ∷ below) e b ≡ suc (made_close below (node_with form f e b) (f.read ++ b)))
closing-ends f [] e b form l q = absurd (omega (arith, l))
closing-ends f (g ∷ fs) e b form l q = (rw q refl, rw q refl)

closing-stays : (f : Machine.Frame) (below : List Machine.Frame) (e : Tree) (b : List Lexeme) → 0 < length below → finishes f.wait (shape e) ≡ None → closing (f ∷ below) e b ≡ None
closing-stays f [] e b l q = absurd (omega (arith, l))
closing-stays f (g ∷ fs) e b l q = rw q refl

many-below : {nodes more : List Arena.Node} {popped : Stack} {held : Frame} {part : Part} {fs : List Machine.Frame} {e : Tree} {b : List Lexeme} (a : AtTop closing made_close nodes more popped held part fs e b) (many : ℕ) → length popped.frames.items + 1 ≡ many → 1 < many → 0 < length a.below
many-below {more = more} {popped = popped} a many q l =
    omega (arith, q, l, frames-many more (reverse popped.frames.items) _ a.below a.beside.opens.stands, length-reverse popped.frames.items)

pub closes-next : {nodes more : List Arena.Node} {popped : Stack} {held : Frame} {part : Part} {fs : List Machine.Frame} {e : Tree} {b : List Lexeme} (most : List Arena.Node) (stack : Stack) (part' : Part) (form : Form) (sh : Shape) (many : ℕ) (a : AtTop closing made_close nodes more popped held part fs e b) → length popped.frames.items + 1 ≡ many → 1 < many → sh ≡ shape (tree_at more part.node) → Some form ≡ finishes held.wait sh → Made more most stack part' (node_with form a.top a.tree a.spelled) (a.top.read ++ a.spelled) a.below → Goes closing made_close nodes most stack part' fs e b
closes-next {more = more} {held = held} {part = part} most stack part' form sh many a q l s g m =
    let x = closing-ends a.top a.below a.tree a.spelled form (many-below a many q l) (finishing held a.top a.tree more part sh (Some form) a.beside.wait a.beside.is.is s g) in
    close-goes most stack part' form a x.0 x.1 m

pub closes-stuck : {nodes more : List Arena.Node} {popped : Stack} {held : Frame} {part : Part} {fs : List Machine.Frame} {e : Tree} {b : List Lexeme} (sh : Shape) (many : ℕ) (a : AtTop closing made_close nodes more popped held part fs e b) → length popped.frames.items + 1 ≡ many → 1 < many → sh ≡ shape (tree_at more part.node) → None ≡ finishes held.wait sh → Closes nodes more popped None (closing fs e b) (made_close fs e b)
closes-stuck {more = more} {popped = popped} {held = held} {part = part} sh many a q l s g =
    let x = closing-stays a.top a.below a.tree a.spelled (many-below a many q l) (finishing held a.top a.tree more part sh None a.beside.wait a.beside.is.is s g) in
    record { grows = a.grows; few = omega (arith, a.few); left = subst (IsLeft more popped None) (sym x ∙ a.same) tt }

pub closes-none : (nodes more : List Arena.Node) (stack : Stack) (part : Part) (fs : List Machine.Frame) (e : Tree) (b : List Lexeme) → length stack.frames.items ≡ 0 → Goes closing made_close nodes more stack part fs e b → Closes nodes more stack None (closing fs e b) (made_close fs e b)
closes-none nodes more stack part fs e b l g = by-frames g.frames refl
  where
    by-frames : (frames : List Machine.Frame) → g.frames ≡ frames → Closes nodes more stack None (closing fs e b) (made_close fs e b)
    by-frames [] q =
        let r : closing fs e b ≡ None = sym g.same ∙ ap (λ z. closing z g.tree g.spelled) q in
        record { grows = g.grows; few = omega (arith, g.few); left = subst (IsLeft more stack None) (sym r) tt }
    by-frames (f ∷ below) q = absurd (omega (arith, l, length-reverse stack.frames.items, frames-many more (reverse stack.frames.items) _ g.frames g.stands, ap (λ z. length z) q))

pub closes-last : (nodes more : List Arena.Node) (stack : Stack) (part : Part) (fs : List Machine.Frame) (e : Tree) (b : List Lexeme) → length stack.frames.items ≡ 1 → Goes closing made_close nodes more stack part fs e b → Closes nodes more stack (Some part) (closing fs e b) (made_close fs e b)
closes-last nodes more stack part fs e b l g = by-frames g.frames refl
  where
    by-frames : (frames : List Machine.Frame) → g.frames ≡ frames → Closes nodes more stack (Some part) (closing fs e b) (made_close fs e b)
    by-frames [] q = absurd (omega (arith, l, length-reverse stack.frames.items, frames-many more (reverse stack.frames.items) _ g.frames g.stands, ap (λ z. length z) q))
    by-frames (f ∷ []) q =
        let r : closing fs e b ≡ Some (record { frame = f; tree = g.tree; spelled = g.spelled }) = sym g.same ∙ ap (λ z. closing z g.tree g.spelled) q in
        record { grows = g.grows; few = omega (arith, g.few); left = subst (IsLeft more stack (Some part)) (sym r) (subst (Stands more stack) q g.stands, g.is) }
    by-frames (f ∷ h ∷ below) q = absurd (omega (arith, l, length-reverse stack.frames.items, frames-many more (reverse stack.frames.items) _ g.frames g.stands, ap (λ z. length z) q))

-- where a part or a lexeme is due, the innermost frame ends first
pub due-closes : (nodes more most : List Arena.Node) (stack stack' : Stack) (held : Frame) (part : Part) (left : Option Part) (form : Form) (f : Machine.Frame) (below : List Machine.Frame) → held.wait ≡ f.wait → Some form ≡ endable held.wait None → Made nodes more stack part (node form f) f.read below → Closes more most stack' left (closing below (node form f) f.read) (made_close below (node form f) f.read) → Closes nodes most stack' left (ending (At (f ∷ below))) (made_last (f ∷ below))
due-closes nodes more most stack stack' held part left form f below w q m k =
    let r : endable f.wait None ≡ Some form = ap (λ z. endable z None) (sym w) ∙ sym q in
    rw r (record { grows = grows-on nodes more most m.grows k.grows; few = omega (arith, k.few, m.one); left = k.left })

pub due-stuck : (nodes : List Arena.Node) (stack : Stack) (held : Frame) (f : Machine.Frame) (below : List Machine.Frame) → held.wait ≡ f.wait → None ≡ endable held.wait None → Closes nodes nodes stack None (ending (At (f ∷ below))) (made_last (f ∷ below))
due-stuck nodes stack held f below w q =
    let r : endable f.wait None ≡ None = ap (λ z. endable z None) (sym w) ∙ sym q in
    rw r (record { grows = grows-same nodes; few = omega arith; left = tt })

pub due-closed : (nodes more most : List Arena.Node) (popped stack stack' : Stack) (held : Frame) (part : Part) (left : Option Part) (form : Form) (frames : List Machine.Frame) → IsTop nodes popped (Some held) frames → Some form ≡ endable held.wait None → ((parts : List Tree) → (read : List Lexeme) → (below : List Machine.Frame) → Opens nodes popped held.opening parts read below → Made nodes more stack part (built form (trees parts) read) read below) → ((fs : List Machine.Frame) → (e : Tree) → (b : List Lexeme) → Stands more stack fs → IsPart more part e b → Closes more most stack' left (closing fs e b) (made_close fs e b)) → Closes nodes most stack' left (ending (At frames)) (made_last frames)
due-closed nodes more most popped stack stack' held part left form [] top q made closed = absurd top
due-closed nodes more most popped stack stack' held part left form (f ∷ below) top q made closed =
    let m = made f.parts f.read below top.1 in
    due-closes nodes more most stack stack' held part left form f below top.0 q m (closed below _ f.read m.stands m.is)

pub due-ready : (nodes more : List Arena.Node) (popped stack : Stack) (held : Frame) (part : Part) (form : Form) (frames : List Machine.Frame) → IsTop nodes popped (Some held) frames → ((parts : List Tree) → (read : List Lexeme) → (below : List Machine.Frame) → Opens nodes popped held.opening parts read below → Made nodes more stack part (built form (trees parts) read) read below) → IsReady more stack part
due-ready nodes more popped stack held part form [] top made = absurd top
due-ready nodes more popped stack held part form (f ∷ below) top made =
    let m = made f.parts f.read below top.1 in
    record { frames = below; tree = _; spelled = f.read; stands = m.stands; is = m.is }

pub read-closed : (nodes more : List Arena.Node) (stack stack' : Stack) (part : Part) (left : Option Part) (state : Option State) → IsTurn nodes stack (Turn.Read part) state → ((fs : List Machine.Frame) → (e : Tree) → (b : List Lexeme) → Stands nodes stack fs → IsPart nodes part e b → Closes nodes more stack' left (closing fs e b) (made_close fs e b)) → Closes nodes more stack' left (ending_of state) (made_finish state)
read-closed nodes more stack stack' part left None t closed = absurd t
read-closed nodes more stack stack' part left (Some (At frames)) t closed = absurd t
read-closed nodes more stack stack' part left (Some (Have frames e b)) t closed = closed frames e b t.0 t.1

pub due-closed-state : (nodes more : List Arena.Node) (stack stack' : Stack) (left : Option Part) (state : Option State) → IsTurn nodes stack Turn.Due state → ((frames : List Machine.Frame) → Stands nodes stack frames → Closes nodes more stack' left (ending (At frames)) (made_last frames)) → Closes nodes more stack' left (ending_of state) (made_finish state)
due-closed-state nodes more stack stack' left None t closed = absurd t
due-closed-state nodes more stack stack' left (Some (At frames)) t closed = closed frames t
due-closed-state nodes more stack stack' left (Some (Have frames e b)) t closed = absurd t

-- the state that is ready beside a part
pub turn-ready : (nodes : List Arena.Node) (stack : Stack) (part : Part) (state : Option State) → IsTurn nodes stack (Turn.Read part) state → IsReady nodes stack part
turn-ready nodes stack part None t = absurd t
turn-ready nodes stack part (Some (At frames)) t = absurd t
turn-ready nodes stack part (Some (Have frames e b)) t = record { frames = frames; tree = e; spelled = b; stands = t.0; is = t.1 }

pub turn-due : (nodes : List Arena.Node) (stack : Stack) (state : Option State) → IsTurn nodes stack Turn.Due state → (frames : List Machine.Frame) × Stands nodes stack frames
turn-due nodes stack None t = absurd t
turn-due nodes stack (Some (At frames)) t = (frames, t)
turn-due nodes stack (Some (Have frames e b)) t = absurd t
