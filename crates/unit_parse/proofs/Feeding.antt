-- What the reader of expressions answers, in the terms of its machine on lists.
use Rattle.std.proofs.Common.{◌≡◌, ℕ, List, [], ◌∷◌, ◌++◌, refl, ap, sym, subst, ◌∙◌, Option, Some, None}
use Rattle.tla_symbols.specs.declared.lexeme.Lexeme.{Lexeme}
use Rattle.tla_tree.specs.declared.form.Form.TheVariants as Form
use Rattle.tla_tree.specs.Arena as Arena
use Rattle.tla_tree.specs.Arena.{tree_at}
use Rattle.tla_tree.specs.Lexemes.{built}
use Rattle.tla_tree.specs.Syntax.{Tree, Trees}
use Rattle.expr_grammar.specs.Machine as Expressions
use Rattle.expr_grammar.specs.Machine.{run}
use Rattle.expr_grammar.specs.Following.{done_before, bounds_done_before}
use Rattle.expr_laws.proofs.Complete.{run-append}
use Rattle.expr_laws.proofs.Stopping.{done-derives, derives-done, done-bounds, bounds-done}
use Rattle.expr_parse.specs.declared.goal.Goal.{Goal}
use Rattle.expr_parse.specs.declared.goal.Step.{Step}
use Rattle.expr_parse.specs.Goals.{DerivesGoal, BeginsGoal, IsWhole}
use Rattle.expr_parse.specs.MachineMeaning.{HasRead, IsAnswer, IsReady, start_of}
use Rattle.tree_parts.specs.Parts.{Grows, joined, parts_of}
use Rattle.expr_parse.proofs.Answering.{begins-of, begins-not}
use Rattle.tree_parts.proofs.Spans.{span-append}
use Rattle.unit_parse.specs.declared.reader.ExprReader.{ExprReader}
use Rattle.unit_parse.specs.declared.reader.Fed.{Fed}
use Rattle.unit_parse.specs.ReaderMeaning.{IsReading, IsUnfinished, IsWholeBefore, FeedsMore, Feeds}

pub reader-ready : {nodes : List Arena.Node} {reader : ExprReader} {aim : Goal} {st : Expressions.State} {read : List Lexeme} → IsReading nodes reader aim st read → IsReady nodes reader.machine
reader-ready {reader = reader} {read = read} i = (run (Some (start_of reader.machine.goal)) read, i.has.stands)

-- what is not whole is not done
not-whole : (aim : Goal) (st : Expressions.State) (read : List Lexeme) (t : Lexeme) → run (Some (start_of aim)) read ≡ Some st → (IsWhole aim read t → ⊥) → IsUnfinished aim st t.kind
not-whole Goal.Expression st read t e k = by (done_before (Some st) t.kind) refl
  where
    by : (o : Option Tree) → done_before (Some st) t.kind ≡ o → done_before (Some st) t.kind ≡ None
    by None q = q
    by (Some x) q = let d = done-derives read x t (ap (λ z. done_before z t.kind) e ∙ q) in absurd (k (d.0, (x, d.1)))
not-whole Goal.Bounds st read t e k = by (bounds_done_before (Some st) t.kind) refl
  where
    by : (o : Option Trees) → bounds_done_before (Some st) t.kind ≡ o → bounds_done_before (Some st) t.kind ≡ None
    by None q = q
    by (Some xs) q = let d = done-bounds read xs t (ap (λ z. bounds_done_before z t.kind) e ∙ q) in absurd (k (d.0, (built Form.Bounds xs read, (refl, d.1))))

-- and what is derived before a lexeme that may follow is done
whole-done : (aim : Goal) (st : Expressions.State) (read : List Lexeme) (t : Lexeme) (x : Tree) → run (Some (start_of aim)) read ≡ Some st → IsWhole aim read t → DerivesGoal aim x read t → IsWholeBefore aim st t.kind x
whole-done Goal.Expression st read t x e w d = sym (ap (λ z. done_before z t.kind) e) ∙ derives-done read x t w.0 d
whole-done Goal.Bounds st read t x e w d = sym (ap (λ z. bounds_done_before z t.kind) e) ∙ bounds-done read (parts_of x) t w.0 d.1

run-more : (aim : Goal) (st : Expressions.State) (read : List Lexeme) (t : Lexeme) → run (Some (start_of aim)) read ≡ Some st → run (Some (start_of aim)) (read ++ t ∷ []) ≡ Expressions.step st t
run-more aim st read t e = run-append read (t ∷ []) (Some (start_of aim)) ∙ ap (λ z. run z (t ∷ [])) e

-- a lexeme that goes on with what is read
pub feed-going : (nodes more : List Arena.Node) (reader reader' : ExprReader) (aim : Goal) (st : Expressions.State) (read : List Lexeme) (t : Lexeme) → reader'.machine.goal ≡ reader.machine.goal → reader'.span ≡ joined reader.span (Some t.span) → Grows nodes more → (i : IsReading nodes reader aim st read) → (step : Step) → step ≡ Step.Going → IsAnswer more reader'.machine i.before read t step → Feeds nodes more reader' aim st read t Fed.Going
feed-going nodes more reader reader' aim st read t g p grows i step q answer =
    let a : IsAnswer more reader'.machine i.before read t Step.Going = subst (IsAnswer more reader'.machine i.before read t) q answer in
    let goal : reader'.machine.goal ≡ aim = g ∙ i.goal in
    let begins : BeginsGoal aim (read ++ t ∷ []) = subst (λ z. BeginsGoal z (read ++ t ∷ [])) goal a.1 in
    record {
      grows = grows;
      is = (
        not-whole aim st read t i.runs (λ w. a.2 (subst (λ z. IsWhole z read t) (sym goal) w)),
        by (Expressions.step st t) refl begins a.0,
      );
    }
  where
    by : (o : Option Expressions.State) → Expressions.step st t ≡ o → BeginsGoal aim (read ++ t ∷ []) → HasRead more reader'.machine i.before (read ++ t ∷ []) → FeedsMore more reader' aim st read t
    by None q begins has = absurd (begins-not aim (read ++ t ∷ []) (run-more aim st read t i.runs ∙ q) begins)
    by (Some st') q begins has = record {
      state = st';
      steps = q;
      is = record {
        goal = g ∙ i.goal;
        before = i.before;
        has = has;
        runs = run-more aim st read t i.runs ∙ q;
        span = p ∙ (ap (λ z. joined z (Some t.span)) i.span ∙ sym (span-append read (t ∷ [])));
      };
    }

pub feed-refused : (nodes more : List Arena.Node) (reader reader' : ExprReader) (aim : Goal) (st : Expressions.State) (read : List Lexeme) (t : Lexeme) → reader'.machine.goal ≡ reader.machine.goal → Grows nodes more → (i : IsReading nodes reader aim st read) → (step : Step) → step ≡ Step.Refused → IsAnswer more reader'.machine i.before read t step → Feeds nodes more reader' aim st read t Fed.Refused
feed-refused nodes more reader reader' aim st read t g grows i step q answer =
    let a : IsAnswer more reader'.machine i.before read t Step.Refused = subst (IsAnswer more reader'.machine i.before read t) q answer in
    let goal : reader'.machine.goal ≡ aim = g ∙ i.goal in
    record {
      grows = grows;
      is = (
        not-whole aim st read t i.runs (λ w. a.2 (subst (λ z. IsWhole z read t) (sym goal) w)),
        by (Expressions.step st t) refl (λ b. a.1 (subst (λ z. BeginsGoal z (read ++ t ∷ [])) (sym goal) b)),
      );
    }
  where
    by : (o : Option Expressions.State) → Expressions.step st t ≡ o → (BeginsGoal aim (read ++ t ∷ []) → ⊥) → Expressions.step st t ≡ None
    by None q k = q
    by (Some st') q k = absurd (k (begins-of aim (read ++ t ∷ []) st' (run-more aim st read t i.runs ∙ q)))

pub feed-done : (nodes more : List Arena.Node) (reader reader' : ExprReader) (node : ℕ) (aim : Goal) (st : Expressions.State) (read : List Lexeme) (t : Lexeme) → reader'.machine.goal ≡ reader.machine.goal → Grows nodes more → (i : IsReading nodes reader aim st read) → (step : Step) → step ≡ Step.Done node → IsAnswer more reader'.machine i.before read t step → Feeds nodes more reader' aim st read t (Fed.Done (record { node = node; span = reader.span }))
feed-done nodes more reader reader' node aim st read t g grows i step q answer =
    let a : IsAnswer more reader'.machine i.before read t (Step.Done node) = subst (IsAnswer more reader'.machine i.before read t) q answer in
    let goal : reader'.machine.goal ≡ aim = g ∙ i.goal in
    record {
      grows = grows;
      is = (
        whole-done aim st read t (tree_at more node) i.runs (subst (λ z. IsWhole z read t) goal a.1) (subst (λ z. DerivesGoal z (tree_at more node) read t) goal a.2),
        record { there = a.0; is = refl; span = i.span },
      );
    }
