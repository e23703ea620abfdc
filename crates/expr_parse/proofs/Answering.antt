-- What steps answer, in the terms of the grammar.
use Rattle.std.proofs.Common.{◌≡◌, ℕ, ◌+◌, ◌*◌, ◌≤◌, Bool, true, false, List, [], ◌∷◌, ◌++◌, Option, Some, None, length, refl, ap, sym, subst, ◌∙◌, length-append, arith}
use Rattle.std.specs.Prelude.{cond, option_and_then}
use Rattle.tla_symbols.specs.declared.lexeme.LexKind.{LexKind}
use Rattle.tla_symbols.specs.declared.lexeme.Lexeme.{Lexeme}
use Rattle.tla_tree.specs.declared.form.Form.{Form}
use Rattle.tla_tree.specs.Arena as Arena
use Rattle.tla_tree.specs.Arena.{tree_at}
use Rattle.tla_tree.specs.Lexemes.{built}
use Rattle.tla_tree.specs.Syntax.{Tree, Trees, trees, form}
use Rattle.expr_grammar.specs.declared.wait.Wait.{Wait}
use Rattle.expr_grammar.specs.declared.wait.Shape.{Shape}
use Rattle.expr_grammar.specs.Tables.{shape, finishes, endable}
use Rattle.expr_grammar.specs.Kinds.{is_right_bracket}
use Rattle.expr_grammar.specs.Machine as Machine
use Rattle.expr_grammar.specs.Machine.{State, At, Have, node, node_with, run, start, start_bounds, step, finish, finish_bounds, close_all, close_bounds, whole, whole_bounds}
use Rattle.expr_grammar.specs.Following.{done_before, bounds_done_before}
use Rattle.expr_grammar.specs.Counting.{made_run, made_finish}
use Rattle.expr_laws.proofs.Complete.{run-append, refused-ends}
use Rattle.expr_laws.proofs.Soundness.{accepted-derives, accepted-bounds}
use Rattle.expr_laws.proofs.Completing.{completes-expression, completes-bounds}
use Rattle.expr_laws.proofs.CompletingKinds as Kinds
use Rattle.expr_laws.proofs.CompletingFirst.{refused-begun}
use Rattle.expr_laws.proofs.CountingMade.{made-few, made-bounds-few, run-few, run-bounds-few}
use Rattle.expr_laws.proofs.Stopping.{done-derives, derives-done, done-bounds, bounds-done}
use Rattle.expr_parse.specs.declared.goal.Goal.{Goal}
use Rattle.expr_parse.specs.declared.goal.Step.{Step}
use Rattle.expr_parse.specs.declared.machine.ExprMachine.{ExprMachine}
use Rattle.expr_parse.specs.declared.machine.Stage.TheVariants as Stage
use Rattle.tree_parts.specs.declared.part.Part.{Part}
use Rattle.expr_stack.specs.declared.stack.Stack.{Stack}
use Rattle.expr_parse.specs.declared.turn.Turn.TheVariants as Turn
use Rattle.tree_parts.specs.Parts.{parts_of, IsPart, Grows}
use Rattle.expr_parse.specs.Goals.{stops, may_end, DerivesGoal, BeginsGoal, IsWhole, IsSame}
use Rattle.expr_stack.specs.StackMeaning.{Stands, Made}
use Rattle.expr_parse.specs.TurnMeaning.{IsTurn, Turns, IsReady}
use Rattle.expr_parse.specs.Ending.{Outermost, closing, ending_of, takes_whole, is_whole, IsLeft, Closes, IsOf, IsGoal}
use Rattle.expr_parse.specs.MachineMeaning.{start_of, StandsAt, HasRead, IsRefusing, IsAnswer, IsDone, IsStepTo, HasStepped}
use Rattle.tree_parts.proofs.Growing.{grows-same, grows-on}

abbrev on_last : {X : Type 0} → Option Outermost → (Outermost → Option X) → Option X
on_last None go = None
on_last (Some last) go = go last

close-last : (fs : List Machine.Frame) (e : Tree) (b : List Lexeme) → close_all fs e b ≡ on_last (closing fs e b) (λ last. whole last.frame.wait last.tree)
close-last [] e b = refl
close-last (f ∷ []) e b = refl
close-last (f ∷ g ∷ fs) e b = by-form (λ x c. close-last (g ∷ fs) x c) (finishes f.wait (shape e))
  where
    by-form : ((x : Tree) → (c : List Lexeme) → close_all (g ∷ fs) x c ≡ on_last (closing (g ∷ fs) x c) (λ last. whole last.frame.wait last.tree)) → (o : Option Form) → option_and_then (λ form. close_all (g ∷ fs) (node_with form f e b) (f.read ++ b)) o ≡ on_last (option_and_then (λ form. closing (g ∷ fs) (node_with form f e b) (f.read ++ b)) o) (λ last. whole last.frame.wait last.tree)
    by-form rest None = refl
    by-form rest (Some form) = rest (node_with form f e b) (f.read ++ b)

abbrev bounds_by : Outermost → Option Trees
bounds_by last = whole_bounds last.frame.wait (shape last.tree) (trees (last.frame.parts ++ last.tree ∷ []))

close-bounds : (fs : List Machine.Frame) (e : Tree) (b : List Lexeme) → close_bounds fs e b ≡ on_last (closing fs e b) bounds_by
close-bounds [] e b = refl
close-bounds (f ∷ []) e b = refl
close-bounds (f ∷ g ∷ fs) e b = by-form (λ x c. close-bounds (g ∷ fs) x c) (finishes f.wait (shape e))
  where
    by-form : ((x : Tree) → (c : List Lexeme) → close_bounds (g ∷ fs) x c ≡ on_last (closing (g ∷ fs) x c) bounds_by) → (o : Option Form) → option_and_then (λ form. close_bounds (g ∷ fs) (node_with form f e b) (f.read ++ b)) o ≡ on_last (option_and_then (λ form. closing (g ∷ fs) (node_with form f e b) (f.read ++ b)) o) bounds_by
    by-form rest None = refl
    by-form rest (Some form) = rest (node_with form f e b) (f.read ++ b)

finish-last : (st : Option State) → finish st ≡ on_last (ending_of st) (λ last. whole last.frame.wait last.tree)
finish-last None = refl
finish-last (Some (At [])) = refl
finish-last (Some (At (f ∷ fs))) = by-form (endable f.wait None)
  where
    by-form : (o : Option Form) → option_and_then (λ form. close_all fs (node form f) f.read) o ≡ on_last (option_and_then (λ form. closing fs (node form f) f.read) o) (λ last. whole last.frame.wait last.tree)
    by-form None = refl
    by-form (Some form) = close-last fs (node form f) f.read
finish-last (Some (Have fs e b)) = close-last fs e b

finish-bounds-last : (st : Option State) → finish_bounds st ≡ on_last (ending_of st) bounds_by
finish-bounds-last None = refl
finish-bounds-last (Some (At [])) = refl
finish-bounds-last (Some (At (f ∷ fs))) = by-form (endable f.wait None)
  where
    by-form : (o : Option Form) → option_and_then (λ form. close_bounds fs (node form f) f.read) o ≡ on_last (option_and_then (λ form. closing fs (node form f) f.read) o) bounds_by
    by-form None = refl
    by-form (Some form) = close-bounds fs (node form f) f.read
finish-bounds-last (Some (Have fs e b)) = close-bounds fs e b

whole-taken : (w : Wait) (e : Tree) → takes_whole Goal.Expression w (shape e) ≡ true → whole w e ≡ Some e
whole-taken Wait.Whole e q = rw q refl
whole-taken _ e q = cc

whole-left : (w : Wait) (e : Tree) → takes_whole Goal.Expression w (shape e) ≡ false → whole w e ≡ None
whole-left Wait.Whole e q = rw q refl
whole-left _ e q = refl

bounds-taken : (w : Wait) (sh : Shape) (bs : Trees) → takes_whole Goal.Bounds w sh ≡ true → whole_bounds w sh bs ≡ Some bs
bounds-taken Wait.WholeBounds Shape.Bound bs q = refl
bounds-taken Wait.WholeBounds _ bs q = cc
bounds-taken _ sh bs q = cc

bounds-left : (w : Wait) (sh : Shape) (bs : Trees) → takes_whole Goal.Bounds w sh ≡ false → whole_bounds w sh bs ≡ None
bounds-left Wait.WholeBounds Shape.Bound bs q = cc
bounds-left Wait.WholeBounds _ bs q = refl
bounds-left _ sh bs q = refl

-- what is whole is the machine's answer
expression-done : (lexemes : List Lexeme) (next : Lexeme) (last : Outermost) → stops next.kind ≡ true → ending_of (run (Some start) lexemes) ≡ Some last → takes_whole Goal.Expression last.frame.wait (shape last.tree) ≡ true → done_before (run (Some start) lexemes) next.kind ≡ Some last.tree
expression-done lexemes next last s e w =
    let q : finish (run (Some start) lexemes) ≡ Some last.tree = finish-last (run (Some start) lexemes) ∙ (ap (λ z. on_last z (λ x. whole x.frame.wait x.tree)) e ∙ whole-taken last.frame.wait last.tree w) in
    rw (s, q) refl

bounds-are-done : (lexemes : List Lexeme) (next : Lexeme) (last : Outermost) → is_right_bracket next.kind ≡ true → ending_of (run (Some start_bounds) lexemes) ≡ Some last → takes_whole Goal.Bounds last.frame.wait (shape last.tree) ≡ true → bounds_done_before (run (Some start_bounds) lexemes) next.kind ≡ Some (trees (last.frame.parts ++ last.tree ∷ []))
bounds-are-done lexemes next last s e w =
    let q : finish_bounds (run (Some start_bounds) lexemes) ≡ Some (trees (last.frame.parts ++ last.tree ∷ [])) = finish-bounds-last (run (Some start_bounds) lexemes) ∙ (ap (λ z. on_last z bounds_by) e ∙ bounds-taken last.frame.wait (shape last.tree) _ w) in
    rw (s, q) refl

finish-none : (o : Option Outermost) → is_whole Goal.Expression o ≡ false → on_last o (λ last. whole last.frame.wait last.tree) ≡ None
finish-none None q = refl
finish-none (Some last) q = whole-left last.frame.wait last.tree q

finish-bounds-none : (o : Option Outermost) → is_whole Goal.Bounds o ≡ false → on_last o bounds_by ≡ None
finish-bounds-none None q = refl
finish-bounds-none (Some last) q = bounds-left last.frame.wait (shape last.tree) _ q

-- what is not whole is derived by nothing
pub not-whole : (goal : Goal) (lexemes : List Lexeme) (next : Lexeme) → cond (may_end goal next.kind) (is_whole goal (ending_of (run (Some (start_of goal)) lexemes))) false ≡ false → IsWhole goal lexemes next → ⊥
not-whole Goal.Expression lexemes next q k =
    let w : is_whole Goal.Expression (ending_of (run (Some start) lexemes)) ≡ false = sym (ap (λ z. cond z (is_whole Goal.Expression (ending_of (run (Some start) lexemes))) false) k.0) ∙ q in
    let n : finish (run (Some start) lexemes) ≡ None = finish-last (run (Some start) lexemes) ∙ finish-none (ending_of (run (Some start) lexemes)) w in
    let d : done_before (run (Some start) lexemes) next.kind ≡ Some k.1.0 = derives-done lexemes k.1.0 next k.0 k.1.1 in
    let m : done_before (run (Some start) lexemes) next.kind ≡ None = rw (k.0, n) refl in
    let c : Some k.1.0 ≡ None = sym d ∙ m in cc
not-whole Goal.Bounds lexemes next q k =
    let w : is_whole Goal.Bounds (ending_of (run (Some start_bounds) lexemes)) ≡ false = sym (ap (λ z. cond z (is_whole Goal.Bounds (ending_of (run (Some start_bounds) lexemes))) false) k.0) ∙ q in
    let n : finish_bounds (run (Some start_bounds) lexemes) ≡ None = finish-bounds-last (run (Some start_bounds) lexemes) ∙ finish-bounds-none (ending_of (run (Some start_bounds) lexemes)) w in
    let d : bounds_done_before (run (Some start_bounds) lexemes) next.kind ≡ Some (parts_of k.1.0) = bounds-done lexemes (parts_of k.1.0) next k.0 k.1.1.1 in
    let m : bounds_done_before (run (Some start_bounds) lexemes) next.kind ≡ None = rw (k.0, n) refl in
    let c : Some (parts_of k.1.0) ≡ None = sym d ∙ m in cc

-- the last part of what is whole
pub last-of : (goal : Goal) (o : Option Outermost) → is_whole goal o ≡ true → (last : Outermost) × (o ≡ Some last) × (takes_whole goal last.frame.wait (shape last.tree) ≡ true)
last-of goal None q = cc
last-of goal (Some last) q = (last, refl, q)

pub both-true : (a b : Bool) → cond a b false ≡ true → (a ≡ true) × (b ≡ true)
both-true true b q = (refl, q)
both-true false b q = cc

some-same : {X : Type 0} (o : Option X) (x y : X) → o ≡ Some x → o ≡ Some y → y ≡ x
some-same o x y p q = let r : Some x ≡ Some y = sym p ∙ q in cc

whole-derives : (goal : Goal) (lexemes : List Lexeme) (next : Lexeme) (last : Outermost) (tree : Tree) → may_end goal next.kind ≡ true → ending_of (run (Some (start_of goal)) lexemes) ≡ Some last → takes_whole goal last.frame.wait (shape last.tree) ≡ true → IsOf goal tree last.frame last.tree → DerivesGoal goal tree lexemes next × ((other : Tree) → DerivesGoal goal other lexemes next → IsSame goal other tree)
whole-derives Goal.Expression lexemes next last tree m e w is =
    let d = expression-done lexemes next last m e w in (
      subst (λ z. DerivesGoal Goal.Expression z lexemes next) (sym is) (done-derives lexemes last.tree next d).1,
      λ other k. some-same _ last.tree other d (derives-done lexemes other next m k) ∙ sym is,
    )
whole-derives Goal.Bounds lexemes next last tree m e w is =
    let d = bounds-are-done lexemes next last m e w in (
      (is.0, subst (λ z. Rattle.tla_tree.specs.Derivation.DerivesBounds z lexemes 0 (Some next)) (sym is.1) (done-bounds lexemes _ next d).1),
      λ other k. some-same _ (trees (last.frame.parts ++ last.tree ∷ [])) (parts_of other) d (bounds-done lexemes (parts_of other) next m k.1) ∙ sym is.1,
    )

-- the answer of a step that ends what is read
pub done-answer : (nodes more : List Arena.Node) (machine machine' : ExprMachine) (before : ℕ) (lexemes : List Lexeme) (next : Lexeme) (step : Step) (last : Outermost) (made : ℕ) → machine'.goal ≡ machine.goal → IsRefusing machine' → may_end machine.goal next.kind ≡ true → ending_of (run (Some (start_of machine.goal)) lexemes) ≡ Some last → takes_whole machine.goal last.frame.wait (shape last.tree) ≡ true → IsDone nodes more machine.goal step last made → IsAnswer more machine' before lexemes next step
done-answer nodes more machine machine' before lexemes next (Step.Done number) last made g r m e w d =
    let k = whole-derives machine.goal lexemes next last (tree_at more number) m e w d.done.1 in
    rw g (d.done.0, (m, (tree_at more number, k.0)), k.0, k.1, r)
done-answer nodes more machine machine' before lexemes next Step.Going last made g r m e w d = absurd d.done
done-answer nodes more machine machine' before lexemes next Step.Refused last made g r m e w d = absurd d.done

pub begins-of : (goal : Goal) (lexemes : List Lexeme) (st : State) → run (Some (start_of goal)) lexemes ≡ Some st → BeginsGoal goal lexemes
begins-of Goal.Expression lexemes st e =
    let k = completes-expression lexemes st e in
    (k.0, (k.1, accepted-derives (lexemes ++ k.0) k.1 k.2))
begins-of Goal.Bounds lexemes st e =
    let k = completes-bounds lexemes st e in
    (k.0, (k.1, accepted-bounds (lexemes ++ k.0) k.1 k.2))

pub begins-not : (goal : Goal) (lexemes : List Lexeme) → run (Some (start_of goal)) lexemes ≡ None → BeginsGoal goal lexemes → ⊥
begins-not Goal.Expression lexemes e b = refused-ends lexemes e b
begins-not Goal.Bounds lexemes e b = refused-begun Kinds.Goal.ForBounds lexemes e b

none-made : (us : List Lexeme) → made_run None us ≡ 0
none-made [] = refl
none-made (u ∷ us) = refl

made-append : (ts us : List Lexeme) (o : Option State) → made_run o (ts ++ us) ≡ made_run o ts + made_run (run o ts) us
made-append [] us o = omega arith
made-append (t ∷ ts) us None = let e : made_run None us ≡ 0 = none-made us in omega (arith, e)
made-append (t ∷ ts) us (Some st) = let e : made_run (step st t) (ts ++ us) ≡ made_run (step st t) ts + made_run (run (step st t) ts) us = made-append ts us (step st t) in omega (arith, e)

-- and of one that reads
pub read-answer : (nodes more : List Arena.Node) (machine machine' : ExprMachine) (before : ℕ) (lexemes : List Lexeme) (next : Lexeme) (step : Step) → machine'.goal ≡ machine.goal → HasRead nodes machine before lexemes → HasStepped nodes more machine' step (run (Some (start_of machine.goal)) lexemes) next → cond (may_end machine.goal next.kind) (is_whole machine.goal (ending_of (run (Some (start_of machine.goal)) lexemes))) false ≡ false → IsAnswer more machine' before lexemes next step
read-answer nodes more machine machine' before lexemes next step g h s q = by-step step s.to
  where
    goal : Goal
    goal = machine.goal

    now : run (Some (start_of goal)) (lexemes ++ next ∷ []) ≡ run (run (Some (start_of goal)) lexemes) (next ∷ [])
    now = run-append lexemes (next ∷ []) (Some (start_of goal))

    has : HasRead more machine' before (lexemes ++ next ∷ [])
    has = record {
      stands = subst (StandsAt more machine' machine'.stage) (sym (ap (λ z. run (Some (start_of z)) (lexemes ++ next ∷ [])) g ∙ now)) s.stands;
      few =
          let m : made_run (Some (start_of machine'.goal)) (lexemes ++ next ∷ []) ≡ made_run (Some (start_of goal)) lexemes + made_run (run (Some (start_of goal)) lexemes) (next ∷ []) = ap (λ z. made_run (Some (start_of z)) (lexemes ++ next ∷ [])) g ∙ made-append lexemes (next ∷ []) (Some (start_of goal)) in
          omega (arith, h.few, s.few, m);
    }

    begins : (o : Option State) → run (run (Some (start_of goal)) lexemes) (next ∷ []) ≡ o → IsStepTo Step.Going o → BeginsGoal goal (lexemes ++ next ∷ [])
    begins None e t = absurd t
    begins (Some st) e t = begins-of goal (lexemes ++ next ∷ []) st (now ∙ e)

    ends : (o : Option State) → run (run (Some (start_of goal)) lexemes) (next ∷ []) ≡ o → IsStepTo Step.Refused o → BeginsGoal goal (lexemes ++ next ∷ []) → ⊥
    ends None e t = begins-not goal (lexemes ++ next ∷ []) (now ∙ e)
    ends (Some st) e t = absurd t

    by-step : (x : Step) → IsStepTo x (run (run (Some (start_of goal)) lexemes) (next ∷ [])) → IsAnswer more machine' before lexemes next x
    by-step Step.Going t = (has, subst (λ z. BeginsGoal z (lexemes ++ next ∷ [])) (sym g) (begins (run (run (Some (start_of goal)) lexemes) (next ∷ [])) refl t), subst (λ z. IsWhole z lexemes next → ⊥) (sym g) (not-whole goal lexemes next q))
    by-step Step.Refused t = (has, subst (λ z. BeginsGoal z (lexemes ++ next ∷ []) → ⊥) (sym g) (ends (run (run (Some (start_of goal)) lexemes) (next ∷ [])) refl t), subst (λ z. IsWhole z lexemes next → ⊥) (sym g) (not-whole goal lexemes next q))
    by-step (Step.Done n) t = by-none (run (run (Some (start_of goal)) lexemes) (next ∷ [])) t
      where
        by-none : (o : Option State) → IsStepTo (Step.Done n) o → IsAnswer more machine' before lexemes next (Step.Done n)
        by-none None t = absurd t
        by-none (Some st) t = absurd t

-- eight nodes for each lexeme
run-goal : (goal : Goal) (ts : List Lexeme) → made_run (Some (start_of goal)) ts ≤ 8 * length ts
run-goal Goal.Expression ts = run-few ts
run-goal Goal.Bounds ts = run-bounds-few ts

made-goal : (goal : Goal) (ts : List Lexeme) → made_run (Some (start_of goal)) ts + made_finish (run (Some (start_of goal)) ts) ≤ 8 * length ts
made-goal Goal.Expression ts = made-few ts
made-goal Goal.Bounds ts = made-bounds-few ts

pub read-few : (nodes more : List Arena.Node) (machine machine' : ExprMachine) (before : ℕ) (lexemes : List Lexeme) (next : Lexeme) (step : Step) → HasRead nodes machine before lexemes → HasStepped nodes more machine' step (run (Some (start_of machine.goal)) lexemes) next → length more ≤ before + 8 * (length lexemes + 1)
read-few nodes more machine machine' before lexemes next step h s =
    omega (arith, h.few, s.few, made-append lexemes (next ∷ []) (Some (start_of machine.goal)), run-goal machine.goal (lexemes ++ next ∷ []), length-append lexemes (next ∷ []))

pub done-few : (nodes more : List Arena.Node) (machine : ExprMachine) (before : ℕ) (lexemes : List Lexeme) (step : Step) (last : Outermost) → HasRead nodes machine before lexemes → IsDone nodes more machine.goal step last (made_finish (run (Some (start_of machine.goal)) lexemes)) → length more ≤ before + 8 * (length lexemes + 1)
done-few nodes more machine before lexemes step last h d =
    omega (arith, h.few, d.few, made-goal machine.goal lexemes)

-- all frames have ended
pub whole-done : (nodes more most : List Arena.Node) (stack : Stack) (part : Part) (goal : Goal) (number : ℕ) (o : Option Outermost) (last : Outermost) (made : ℕ) → o ≡ Some last → Closes nodes more stack (Some part) o made → ((frame : Machine.Frame) → (e : Tree) → (b : List Lexeme) → Stands more stack (frame ∷ []) → IsPart more part e b → IsGoal more most number goal frame e) → IsDone nodes most goal (Step.Done number) last made
whole-done nodes more most stack part goal number o last made q c w =
    let l : IsLeft more stack (Some part) (Some last) = subst (IsLeft more stack (Some part)) q c.left in
    let k = w last.frame last.tree last.spelled l.0 l.1 in
    record { grows = grows-on nodes more most c.grows k.grows; few = omega (arith, c.few, k.few); done = (k.there, k.is) }

pub left-none : (nodes more : List Arena.Node) (stack : Stack) (goal : Goal) (o : Option Outermost) (last : Outermost) (made : ℕ) → o ≡ Some last → Closes nodes more stack None o made → IsDone nodes more goal Step.Refused last made
left-none nodes more stack goal o last made q c = absurd (subst (IsLeft more stack None) q c.left)

-- the part that is left stands on the stack
pub left-ready : (nodes more : List Arena.Node) (stack : Stack) (part : Part) (o : Option Outermost) (made : ℕ) → Closes nodes more stack (Some part) o made → IsReady more stack part
left-ready nodes more stack part o made c = by o c.left
  where
    by : (o : Option Outermost) → IsLeft more stack (Some part) o → IsReady more stack part
    by None l = absurd l
    by (Some last) l = record { frames = last.frame ∷ []; tree = last.tree; spelled = last.spelled; stands = l.0; is = l.1 }

pub bounds-node : (nodes more : List Arena.Node) (stack : Stack) (part : Part) (frame : Machine.Frame) (last : Tree) (b : List Lexeme) (below : List Machine.Frame) → Made nodes more stack part (built Form.Bounds (trees (frame.parts ++ last ∷ [])) b) b below → IsGoal nodes more part.node Goal.Bounds frame last
bounds-node nodes more stack part frame last b below m = record {
  grows = m.grows;
  few = omega (arith, m.one);
  there = m.is.there;
  is = (ap form m.is.is, ap parts_of m.is.is);
}

-- what a lexeme leads to, from where the machine stands
pub read-turns : (nodes more : List Arena.Node) (stack stack' : Stack) (part : Part) (turn : Turn.the_data) (state : Option State) (t : Lexeme) → IsTurn nodes stack (Turn.Read part) state → ((fs : List Machine.Frame) → (e : Tree) → (b : List Lexeme) → Stands nodes stack fs → IsPart nodes part e b → Turns nodes more stack' turn (Machine.have fs e b t) (Rattle.expr_grammar.specs.Counting.made_have fs e b t)) → Turns nodes more stack' turn (run state (t ∷ [])) (made_run state (t ∷ []))
read-turns nodes more stack stack' part turn None t i k = absurd i
read-turns nodes more stack stack' part turn (Some (At frames)) t i k = absurd i
read-turns nodes more stack stack' part turn (Some (Have fs e b)) t i k =
    let u = k fs e b i.0 i.1 in
    record { grows = u.grows; few = omega (arith, u.few); turned = u.turned }

pub due-turns : (nodes more : List Arena.Node) (stack stack' : Stack) (turn : Turn.the_data) (state : Option State) (t : Lexeme) → IsTurn nodes stack Turn.Due state → ((fs : List Machine.Frame) → Stands nodes stack fs → Turns nodes more stack' turn (Machine.due fs t) (Rattle.expr_grammar.specs.Counting.made_due fs t)) → Turns nodes more stack' turn (run state (t ∷ [])) (made_run state (t ∷ []))
due-turns nodes more stack stack' turn None t i k = absurd i
due-turns nodes more stack stack' turn (Some (At fs)) t i k =
    let u = k fs i in
    record { grows = u.grows; few = omega (arith, u.few); turned = u.turned }
due-turns nodes more stack stack' turn (Some (Have fs e b)) t i k = absurd i

pub refused-turns : (nodes : List Arena.Node) (stack : Stack) (state : Option State) (t : Lexeme) → IsTurn nodes stack Turn.Refused state → Turns nodes nodes stack Turn.Refused (run state (t ∷ [])) (made_run state (t ∷ []))
refused-turns nodes stack None t i = record { grows = grows-same nodes; few = omega arith; turned = tt }
refused-turns nodes stack (Some (At fs)) t i = absurd i
refused-turns nodes stack (Some (Have fs e b)) t i = absurd i

-- the step that the code answers
pub stepped : (nodes more : List Arena.Node) (machine : ExprMachine) (turn : Turn.the_data) (step : Step) (state : Option State) (t : Lexeme) → machine.stage ≡ Stage.Goes turn → ((o : Option State) → IsTurn more machine.stack turn o → IsStepTo step o) → Turns nodes more machine.stack turn (run state (t ∷ [])) (made_run state (t ∷ [])) → HasStepped nodes more machine step state t
stepped nodes more machine turn step state t g to u = record {
  grows = u.grows;
  few = u.few;
  stands = rw g u.turned;
  to = to _ u.turned;
}

pub to-refused : (nodes : List Arena.Node) (stack : Stack) (o : Option State) → IsTurn nodes stack Turn.Refused o → IsStepTo Step.Refused o
to-refused nodes stack None t = tt
to-refused nodes stack (Some (At fs)) t = absurd t
to-refused nodes stack (Some (Have fs e b)) t = absurd t

pub to-due : (nodes : List Arena.Node) (stack : Stack) (o : Option State) → IsTurn nodes stack Turn.Due o → IsStepTo Step.Going o
to-due nodes stack None t = absurd t
to-due nodes stack (Some (At fs)) t = tt
to-due nodes stack (Some (Have fs e b)) t = absurd t

pub to-read : (nodes : List Arena.Node) (stack : Stack) (part : Part) (o : Option State) → IsTurn nodes stack (Turn.Read part) o → IsStepTo Step.Going o
to-read nodes stack part None t = absurd t
to-read nodes stack part (Some (At fs)) t = absurd t
to-read nodes stack part (Some (Have fs e b)) t = tt

-- the step that ends, by what the code saw
pub done-by : (nodes more : List Arena.Node) (machine machine' : ExprMachine) (before : ℕ) (lexemes : List Lexeme) (next : Lexeme) (step : Step) (ends : Bool) (stack : Stack) (turn : Turn.the_data) (goal : Goal) → goal ≡ machine.goal → machine'.goal ≡ goal → IsRefusing machine' → IsTurn nodes stack turn (run (Some (start_of machine.goal)) lexemes) → ends ≡ cond (may_end goal next.kind) (is_whole goal (ending_of (run (Some (start_of machine.goal)) lexemes))) false → ends ≡ true → ((state : Option State) → (last : Outermost) → IsTurn nodes stack turn state → ending_of state ≡ Some last → IsDone nodes more goal step last (made_finish state)) → HasRead nodes machine before lexemes → IsAnswer more machine' before lexemes next step × (length more ≤ before + 8 * (length lexemes + 1))
done-by nodes more machine machine' before lexemes next step ends stack turn goal g g' r t q k d h =
    let b = both-true (may_end machine.goal next.kind) (is_whole machine.goal (ending_of (run (Some (start_of machine.goal)) lexemes))) (ap (λ z. cond (may_end z next.kind) (is_whole z (ending_of (run (Some (start_of machine.goal)) lexemes))) false) (sym g) ∙ (sym q ∙ k)) in
    let l = last-of machine.goal (ending_of (run (Some (start_of machine.goal)) lexemes)) b.1 in
    let i : IsDone nodes more machine.goal step l.0 (made_finish (run (Some (start_of machine.goal)) lexemes)) = subst (λ z. IsDone nodes more z step l.0 (made_finish (run (Some (start_of machine.goal)) lexemes))) g (d (run (Some (start_of machine.goal)) lexemes) l.0 t l.1) in
    (done-answer nodes more machine machine' before lexemes next step l.0 _ (g' ∙ g) r b.0 l.1 l.2 i, done-few nodes more machine before lexemes step l.0 h i)

-- and the one that reads
pub read-by : (nodes more : List Arena.Node) (machine machine' : ExprMachine) (before : ℕ) (lexemes : List Lexeme) (next : Lexeme) (step : Step) (ends : Bool) (goal : Goal) → goal ≡ machine.goal → machine'.goal ≡ goal → ends ≡ cond (may_end goal next.kind) (is_whole goal (ending_of (run (Some (start_of machine.goal)) lexemes))) false → ends ≡ false → HasStepped nodes more machine' step (run (Some (start_of machine.goal)) lexemes) next → HasRead nodes machine before lexemes → IsAnswer more machine' before lexemes next step × (length more ≤ before + 8 * (length lexemes + 1))
read-by nodes more machine machine' before lexemes next step ends goal g g' q k s h =
    let f : cond (may_end machine.goal next.kind) (is_whole machine.goal (ending_of (run (Some (start_of machine.goal)) lexemes))) false ≡ false = ap (λ z. cond (may_end z next.kind) (is_whole z (ending_of (run (Some (start_of machine.goal)) lexemes))) false) (sym g) ∙ (sym q ∙ k) in
    (read-answer nodes more machine machine' before lexemes next step (g' ∙ g) h s f, read-few nodes more machine machine' before lexemes next step h s)

-- old nodes stay while all frames end
pub closes-grow : (nodes more most : List Arena.Node) (stack : Stack) (part : Part) (goal : Goal) (number : ℕ) (o : Option Outermost) (made : ℕ) → Closes nodes more stack (Some part) o made → ((frame : Machine.Frame) → (e : Tree) → (b : List Lexeme) → Stands more stack (frame ∷ []) → IsPart more part e b → IsGoal more most number goal frame e) → Grows nodes most
closes-grow nodes more most stack part goal number o made c w = by o c.left
  where
    by : (o : Option Outermost) → IsLeft more stack (Some part) o → Grows nodes most
    by None l = absurd l
    by (Some last) l = let k = w last.frame last.tree last.spelled l.0 l.1 in grows-on nodes more most c.grows k.grows

-- a machine that refuses goes on to refuse
pub refused-stays : (nodes more : List Arena.Node) (machine : ExprMachine) (step : Step) (t : Lexeme) → HasStepped nodes more machine step None t → (step ≡ Step.Refused) × (machine.stage ≡ Stage.Goes Turn.Refused)
refused-stays nodes more machine step t h = (by-step step h.to, by-stage machine.stage refl h.stands)
  where
    by-step : (x : Step) → IsStepTo x None → x ≡ Step.Refused
    by-step Step.Refused t = refl
    by-step Step.Going t = absurd t
    by-step (Step.Done n) t = absurd t

    by-stage : (x : Stage.the_data) → machine.stage ≡ x → StandsAt more machine x None → machine.stage ≡ Stage.Goes Turn.Refused
    by-stage Stage.Begins q s = let k : None ≡ Some (start_of machine.goal) = s.0 in cc
    by-stage (Stage.Goes Turn.Refused) q s = q
    by-stage (Stage.Goes Turn.Due) q s = absurd s
    by-stage (Stage.Goes (Turn.Read p)) q s = absurd s

pub refused-stands : (nodes : List Arena.Node) (machine : ExprMachine) → machine.stage ≡ Stage.Goes Turn.Refused → StandsAt nodes machine machine.stage None
refused-stands nodes machine q = subst (λ z. StandsAt nodes machine z None) (sym q) tt

pub ends-not : (goal : Goal) (kind : LexKind) → cond (may_end goal kind) false false ≡ false
ends-not goal kind = by (may_end goal kind)
  where
    by : (b : Bool) → cond b false false ≡ false
    by true = refl
    by false = refl
