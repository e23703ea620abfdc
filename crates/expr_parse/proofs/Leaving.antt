-- What a lexeme that stands left of a list's items does to the frames, turn by turn.
use Rattle.std.proofs.Common.{◌≡◌, ℕ, suc, ◌<◌, ◌≤◌, Bool, true, false, List, [], ◌∷◌, ◌++◌, Option, Some, None, refl, ap, sym, subst, ◌∙◌, arith}
use Rattle.std.specs.Prelude.{cond, nat_lt, option_and_then}
use Rattle.std.proofs.lemmas.Bool.Decides.{nat_tests}
use Rattle.tla_symbols.specs.declared.lexeme.Lexeme.{Lexeme}
use Rattle.tla_tree.specs.declared.form.Form.{Form}
use Rattle.tla_tree.specs.Arena as Arena
use Rattle.tla_tree.specs.Arena.{tree_at}
use Rattle.tla_tree.specs.Syntax.{Tree}
use Rattle.expr_grammar.specs.declared.wait.Wait.{Wait}
use Rattle.expr_grammar.specs.declared.wait.Shape.{Shape}
use Rattle.expr_grammar.specs.Tables.{shape, is_expression, list_of, goes_on, finishes}
use Rattle.expr_grammar.specs.Machine as Machine
use Rattle.expr_grammar.specs.Machine.{State, At, frame, inner, node_with, on_bullet, leave, within}
use Rattle.expr_grammar.specs.Counting.{made_leave, made_within, made_bullet, made_ending}
use Rattle.expr_stack.specs.declared.stack.Frame.{Frame}
use Rattle.tree_parts.specs.declared.part.Part.{Part}
use Rattle.expr_stack.specs.declared.stack.Stack.{Stack}
use Rattle.expr_parse.specs.declared.turn.Turn.TheVariants as Turn
use Rattle.expr_stack.specs.StackMeaning.{Made}
use Rattle.expr_parse.specs.TurnMeaning.{Turns, IsTurn, continues, continues_by}
use Rattle.tree_parts.proofs.Growing.{grows-on}
use Rattle.expr_parse.proofs.Going.{Step, Count, Goes, AtTop, end-turn, end-refused, close-goes}
use Rattle.expr_parse.proofs.Operating.{finishing}

abbrev pub leaving : Lexeme → Step
leaving t frames tree spelled = leave frames tree spelled t

abbrev pub leaving-makes : Lexeme → Count
leaving-makes t frames tree spelled = made_leave frames tree spelled t

-- the list's next item
abbrev pub item : Lexeme → Machine.Frame → List Machine.Frame → Tree → List Lexeme → Lexeme → Option State
item first f below e b t = Some (At (frame (Wait.ListItem first) (f.parts ++ e ∷ []) (f.read ++ (b ++ t ∷ [])) ∷ below))

bullet-some : (o : Option Lexeme) (t first : Lexeme) (f : Machine.Frame) (below : List Machine.Frame) (e : Tree) (b : List Lexeme) (out : Option State) (out' : ℕ) → continues_by o t ≡ Some first → (on_bullet o f below e b t out ≡ item first f below e b t) × (made_bullet o t out' ≡ 0)
bullet-some None t first f below e b out out' q = cc
bullet-some (Some g) t first f below e b out out' q = by-test (goes_on g t) refl
  where
    by-test : (x : Bool) → goes_on g t ≡ x → (on_bullet (Some g) f below e b t out ≡ item first f below e b t) × (made_bullet (Some g) t out' ≡ 0)
    by-test true k =
        let r : Some g ≡ Some first = sym (ap (λ z. cond z (Some g) None) k) ∙ q in
        let s : g ≡ first = cc in
        (rw k (ap (λ z. item z f below e b t) s), rw k refl)
    by-test false k = let r : None ≡ Some first = sym (ap (λ z. cond z (Some g) None) k) ∙ q in cc

bullet-none : (o : Option Lexeme) (t : Lexeme) (f : Machine.Frame) (below : List Machine.Frame) (e : Tree) (b : List Lexeme) (out : Option State) (out' : ℕ) → continues_by o t ≡ None → (on_bullet o f below e b t out ≡ out) × (made_bullet o t out' ≡ out')
bullet-none None t f below e b out out' q = (refl, refl)
bullet-none (Some g) t f below e b out out' q = by-test (goes_on g t) refl
  where
    by-test : (x : Bool) → goes_on g t ≡ x → (on_bullet (Some g) f below e b t out ≡ out) × (made_bullet (Some g) t out' ≡ out')
    by-test true k = let r : Some g ≡ None = sym (ap (λ z. cond z (Some g) None) k) ∙ q in cc
    by-test false k = (rw k refl, rw k refl)

seen : (held : Frame) (f : Machine.Frame) (e : Tree) (more : List Arena.Node) (part : Part) (sh : Shape) (t : Lexeme) (x : Option Lexeme) → held.wait ≡ f.wait → tree_at more part.node ≡ e → sh ≡ shape (tree_at more part.node) → x ≡ continues held.wait sh t → continues f.wait (shape e) t ≡ x
seen held f e more part sh t x w is s q = ap (λ z. continues z (shape e) t) (sym w) ∙ (ap (λ z. continues held.wait z t) (sym (s ∙ ap shape is)) ∙ sym q)

leave-item : (f : Machine.Frame) (below : List Machine.Frame) (e : Tree) (b : List Lexeme) (t first : Lexeme) → continues f.wait (shape e) t ≡ Some first → (leave (f ∷ below) e b t ≡ item first f below e b t) × (made_leave (f ∷ below) e b t ≡ 0)
leave-item f below e b t first q = bullet-some (cond (is_expression (shape e)) (list_of f.wait) None) t first f below e b _ _ q

leave-open : (f : Machine.Frame) (below : List Machine.Frame) (e : Tree) (b : List Lexeme) (t : Lexeme) → continues f.wait (shape e) t ≡ None → finishes f.wait (shape e) ≡ None → leave (f ∷ below) e b t ≡ None
leave-open f below e b t q r = (bullet-none (cond (is_expression (shape e)) (list_of f.wait) None) t f below e b _ 0 q).0 ∙ rw r refl

leave-ends : (f : Machine.Frame) (below : List Machine.Frame) (e : Tree) (b : List Lexeme) (t : Lexeme) (form : Form) (left : Bool) → continues f.wait (shape e) t ≡ None → finishes f.wait (shape e) ≡ Some form → nat_lt t.col (inner below) ≡ left → (leave (f ∷ below) e b t ≡ cond left (leave below (node_with form f e b) (f.read ++ b) t) (within below (node_with form f e b) (f.read ++ b) t)) × (made_leave (f ∷ below) e b t ≡ suc (cond left (made_leave below (node_with form f e b) (f.read ++ b) t) (made_within below (node_with form f e b) (f.read ++ b) t)))
leave-ends f below e b t form left q r l =
    let k = bullet-none (cond (is_expression (shape e)) (list_of f.wait) None) t f below e b
    (option_and_then (λ form. (cond (nat_lt t.col (inner below)) (leave below (node_with form f e b) (f.read ++ b) t) (within below (node_with form f e b) (f.read ++ b) t))) (finishes f.wait (shape e)))
    (made_ending (finishes f.wait (shape e)) (λ form. (cond (nat_lt t.col (inner below)) (made_leave below (node_with form f e b) (f.read ++ b) t) (made_within below (node_with form f e b) (f.read ++ b) t)))) q
    in
    (k.0 ∙ rw (r, l) refl, k.1 ∙ rw (r, l) refl)

pub leave-next : {nodes more : List Arena.Node} {popped : Stack} {held : Frame} {part : Part} {fs : List Machine.Frame} {e : Tree} {b : List Lexeme} (stack : Stack) (turn : Turn.the_data) (t first : Lexeme) (sh : Shape) (a : AtTop (leaving t) (leaving-makes t) nodes more popped held part fs e b) → sh ≡ shape (tree_at more part.node) → Some first ≡ continues held.wait sh t → Turns more more stack turn (item first a.top a.below a.tree a.spelled t) 0 → Turns nodes more stack turn (leave fs e b t) (made_leave fs e b t)
leave-next {more = more} {held = held} {part = part} stack turn t first sh a s q u =
    let k = leave-item a.top a.below a.tree a.spelled t first (seen held a.top a.tree more part sh t (Some first) a.beside.wait a.beside.is.is s q) in
    end-turn more stack turn a (rw (k.0, k.1) u)

pub leave-stuck : {nodes more : List Arena.Node} {popped : Stack} {held : Frame} {part : Part} {fs : List Machine.Frame} {e : Tree} {b : List Lexeme} (stack : Stack) (t : Lexeme) (sh : Shape) (a : AtTop (leaving t) (leaving-makes t) nodes more popped held part fs e b) → sh ≡ shape (tree_at more part.node) → None ≡ continues held.wait sh t → None ≡ finishes held.wait sh → Turns nodes more stack Turn.Refused (leave fs e b t) (made_leave fs e b t)
leave-stuck {more = more} {held = held} {part = part} stack t sh a s q g =
    end-refused stack a
    (leave-open a.top a.below a.tree a.spelled t (seen held a.top a.tree more part sh t None a.beside.wait a.beside.is.is s q) (finishing held a.top a.tree more part sh None a.beside.wait a.beside.is.is s g))

pub leave-goes : {nodes more : List Arena.Node} {popped : Stack} {held : Frame} {part : Part} {fs : List Machine.Frame} {e : Tree} {b : List Lexeme} (most : List Arena.Node) (stack : Stack) (part' : Part) (form : Form) (t : Lexeme) (sh : Shape) (a : AtTop (leaving t) (leaving-makes t) nodes more popped held part fs e b) → sh ≡ shape (tree_at more part.node) → None ≡ continues held.wait sh t → Some form ≡ finishes held.wait sh → Made more most stack part' (node_with form a.top a.tree a.spelled) (a.top.read ++ a.spelled) a.below → t.col < inner a.below → Goes (leaving t) (leaving-makes t) nodes most stack part' fs e b
leave-goes {more = more} {held = held} {part = part} most stack part' form t sh a s q g m l =
    let left : nat_lt t.col (inner a.below) ≡ true = grind (arith, nat_tests, l) in
    let k = leave-ends a.top a.below a.tree a.spelled t form true (seen held a.top a.tree more part sh t None a.beside.wait a.beside.is.is s q) (finishing held a.top a.tree more part sh (Some form) a.beside.wait a.beside.is.is s g) left in
    close-goes most stack part' form a k.0 k.1 m

pub leave-within : {nodes more : List Arena.Node} {popped : Stack} {held : Frame} {part : Part} {fs : List Machine.Frame} {e : Tree} {b : List Lexeme} (most last : List Arena.Node) (stack stack' : Stack) (part' : Part) (turn : Turn.the_data) (form : Form) (t : Lexeme) (sh : Shape) (a : AtTop (leaving t) (leaving-makes t) nodes more popped held part fs e b) → sh ≡ shape (tree_at more part.node) → None ≡ continues held.wait sh t → Some form ≡ finishes held.wait sh → Made more most stack part' (node_with form a.top a.tree a.spelled) (a.top.read ++ a.spelled) a.below → inner a.below ≤ t.col → Turns most last stack' turn (within a.below (node_with form a.top a.tree a.spelled) (a.top.read ++ a.spelled) t) (made_within a.below (node_with form a.top a.tree a.spelled) (a.top.read ++ a.spelled) t) → Turns nodes last stack' turn (leave fs e b t) (made_leave fs e b t)
leave-within {more = more} {held = held} {part = part} most last stack stack' part' turn form t sh a s q g m l u =
    let left : nat_lt t.col (inner a.below) ≡ false = grind (arith, nat_tests, l) in
    let k = leave-ends a.top a.below a.tree a.spelled t form false (seen held a.top a.tree more part sh t None a.beside.wait a.beside.is.is s q) (finishing held a.top a.tree more part sh (Some form) a.beside.wait a.beside.is.is s g) left in
    end-turn last stack' turn a (record {
      grows = grows-on more most last m.grows u.grows;
      few = omega (arith, u.few, m.one, k.1);
      turned = subst (IsTurn last stack' turn) (sym k.0) u.turned;
    })
