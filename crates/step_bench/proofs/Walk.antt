-- Lexemes that a machine has stepped over, and one more.
use Rattle.std.proofs.Common.{◌≡◌, ℕ, ◌+◌, ◌<◌, List, [], ◌∷◌, ◌++◌, length, get_or, take, drop, subst, sym, ap, ◌∙◌, ◌⊎◌, inl, inr, append-nil, append_assoc, take-append-drop, length-take, arith}
use Rattle.std.proofs.lemmas.List.{take_more, drop_more}
use Rattle.tla_symbols.specs.declared.lexeme.Lexeme.{Lexeme}
use Rattle.tla_tree.specs.Arena as Arena
use Rattle.tla_tree.specs.Arena.{tree_at}
use Rattle.tla_tree.specs.Syntax.{Tree}
use Rattle.expr_parse.specs.declared.goal.Goal.{Goal}
use Rattle.expr_parse.specs.declared.goal.Step.{Step}
use Rattle.expr_parse.specs.declared.machine.ExprMachine.{ExprMachine}
use Rattle.expr_parse.specs.Goals.{BeginsGoal, IsWhole, DerivesGoal, IsSame}
use Rattle.expr_parse.specs.MachineMeaning.{HasRead, IsAnswer}
use Rattle.step_bench.specs.Stepping.{GoesOn, AllGoOn, EndsAt, StopsAt, HasStopped}

all_and_next : (front lexemes : List Lexeme) (next : Lexeme) → AllGoOn front lexemes → GoesOn (front ++ lexemes) next → AllGoOn front (lexemes ++ next ∷ [])
all_and_next front [] next all goes = (subst (λ f. GoesOn f next) (append-nil front) goes, tt)
all_and_next front (t ∷ lexemes) next all goes =
    (all.0, all_and_next (front ++ t ∷ []) lexemes next all.1 (subst (λ f. GoesOn f next) (sym (append_assoc front (t ∷ []) lexemes)) goes))

abbrev IsGoing : Step → Type 0
IsGoing Step.Going = Unit {0}
IsGoing (Step.Done node) = ⊥
IsGoing Step.Refused = ⊥

abbrev IsEnd : Step → Type 0
IsEnd step = ((node : ℕ) × (step ≡ Step.Done node)) ⊎ (step ≡ Step.Refused)

not_going : (step : Step) → IsEnd step → IsGoing step → ⊥
not_going Step.Going (inl done) g = subst IsGoing done.1 g
not_going Step.Going (inr refused) g = subst IsGoing refused g
not_going (Step.Done node) e g = g
not_going Step.Refused e g = g

ends : (nodes : List Arena.Node) (machine : ExprMachine) (front : List Lexeme) (next : Lexeme) (step : Step) → machine.goal ≡ Goal.Expression → IsEnd step → IsAnswer nodes machine 0 front next step → EndsAt nodes front next step
ends nodes machine front next Step.Going e end a = absurd (not_going Step.Going end tt)
ends nodes machine front next (Step.Done node) e end a =
    let H : _ → Type 0 = λ g. IsWhole g front next × DerivesGoal g (tree_at nodes node) front next × ((other : Tree) → DerivesGoal g other front next → IsSame g other (tree_at nodes node)) in
    let found = subst H e (a.1, a.2, a.3) in
    (a.0, found.0, found.1, found.2)
ends nodes machine front next Step.Refused e end a =
    let H : _ → Type 0 = λ g. (BeginsGoal g (front ++ next ∷ []) → ⊥) × (IsWhole g front next → ⊥) in
    subst H e (a.1, a.2)

goes : (nodes : List Arena.Node) (machine : ExprMachine) (front : List Lexeme) (next : Lexeme) (step : Step) → machine.goal ≡ Goal.Expression → step ≡ Step.Going → IsAnswer nodes machine 0 front next step → HasRead nodes machine 0 (front ++ next ∷ []) × GoesOn front next
goes nodes machine front next Step.Going e is a =
    let H : _ → Type 0 = λ g. BeginsGoal g (front ++ next ∷ []) × (IsWhole g front next → ⊥) in
    (a.0, subst H e (a.1, a.2))
goes nodes machine front next (Step.Done node) e is a = absurd (subst IsGoing (sym is) tt)
goes nodes machine front next Step.Refused e is a = absurd (subst IsGoing (sym is) tt)

split_at : (lexemes : List Lexeme) (i : ℕ) (d : Lexeme) → i < length lexemes → lexemes ≡ take i lexemes ++ get_or lexemes i d ∷ drop (i + 1) lexemes
split_at lexemes i d lt = sym (take-append-drop i lexemes) ∙ ap (λ l. take i lexemes ++ l) (drop_more lexemes i d lt)

-- the machine stops at a lexeme
pub stops : (nodes : List Arena.Node) (machine : ExprMachine) (lexemes : List Lexeme) (i : ℕ) (d : Lexeme) (step : Step) → machine.goal ≡ Goal.Expression → i < length lexemes → IsEnd step → AllGoOn [] (take i lexemes) → IsAnswer nodes machine 0 (take i lexemes) (get_or lexemes i d) step → HasStopped lexemes nodes (record { lexemes = i + 1; step = step })
stops nodes machine lexemes i d step e lt end all a =
    by_step step end (record {
      front = take i lexemes;
      next = get_or lexemes i d;
      rest = drop (i + 1) lexemes;
      split = split_at lexemes i d lt;
      going = all;
      count = omega (arith, lt, length-take i lexemes);
      ends = ends nodes machine (take i lexemes) (get_or lexemes i d) step e end a;
    }) where
      by_step : (s : Step) → IsEnd s → StopsAt lexemes nodes (record { lexemes = i + 1; step = s }) → HasStopped lexemes nodes (record { lexemes = i + 1; step = s })
      by_step Step.Going n h = absurd (not_going Step.Going n tt)
      by_step (Step.Done node) n h = h
      by_step Step.Refused n h = h

-- or it goes on
pub further : (nodes : List Arena.Node) (machine : ExprMachine) (lexemes : List Lexeme) (i : ℕ) (d : Lexeme) (step : Step) → machine.goal ≡ Goal.Expression → i < length lexemes → step ≡ Step.Going → AllGoOn [] (take i lexemes) → IsAnswer nodes machine 0 (take i lexemes) (get_or lexemes i d) step → HasRead nodes machine 0 (take (i + 1) lexemes) × AllGoOn [] (take (i + 1) lexemes)
further nodes machine lexemes i d step e lt is all a =
    let found = goes nodes machine (take i lexemes) (get_or lexemes i d) step e is a in
    let H : List Lexeme → Type 0 = λ l. HasRead nodes machine 0 l × AllGoOn [] l in
    subst H (sym (take_more lexemes i d lt)) (found.0, all_and_next [] (take i lexemes) (get_or lexemes i d) all found.1)
