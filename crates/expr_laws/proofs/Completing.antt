-- Where the machine has not refused, some lexemes complete what it has read.
use Rattle.std.proofs.Common.{◌≡◌, ℕ, ◌≤◌, true, List, [], ◌∷◌, ◌++◌, Some, refl, ap, sym, subst, ◌∙◌, arith}
use Rattle.tla_symbols.specs.declared.lexeme.LexKind.{LexKind}
use Rattle.tla_symbols.specs.declared.lexeme.Mark.TheVariants as Mark
use Rattle.tla_symbols.specs.declared.lexeme.Lexeme.{Lexeme}
use Rattle.tla_tree.specs.declared.form.Form.{Form}
use Rattle.tla_tree.specs.Syntax.{Tree, Trees}
use Rattle.expr_grammar.specs.declared.wait.Wait.{Wait}
use Rattle.expr_grammar.specs.declared.wait.Mode.{Mode}
use Rattle.expr_grammar.specs.Tables.{mode, list_of, shape}
use Rattle.expr_grammar.specs.Machine.{Frame, frame, State, At, Have, inner, step, run, start, parse, start_bounds, parse_bounds}
use Rattle.expr_laws.proofs.Completeness.{left-false, outside}
use Rattle.expr_laws.proofs.Complete.{run-append}
use Rattle.expr_laws.proofs.CompletingKinds as Kind
use Rattle.expr_laws.proofs.CompletingKinds.{Goal, makes, wanted, meets-shows, meets-no_step}
use Rattle.expr_laws.proofs.CompletingTables.{operand-wanted, subscript-wanted}
use Rattle.expr_laws.proofs.CompletingStates.{Under, is_due, Fits, FitsNext, run-fits, start_of, start-fits}
use Rattle.expr_laws.proofs.CompletingParts.{lexeme, Answers, Completion, first, operand}
use Rattle.expr_laws.proofs.CompletingMarks.{part-closes, above, room, closes-due, mark-due}

no-child : (w : Wait) → mode w ≡ Mode.Child → is_due w ≡ true → ⊥
no-child Wait.WholeBounds m d = cc
no-child _ m d = cc

-- an empty set is the subscript that is due
subscript : {goal : Goal} (f : Frame) (fs : List Frame) (c : ℕ) → inner fs ≤ c → inner (f ∷ fs) ≤ c → Under goal fs (makes f.wait) → mode f.wait ≡ Mode.Subscript → Completion goal (At (f ∷ fs))
subscript f fs c j i u m =
    let brace : Lexeme = lexeme (LexKind.Mark Mark.LeftBrace) c in
    let e : step (At (f ∷ fs)) brace ≡ Some (At (frame Wait.BraceFirst [] (brace ∷ []) ∷ f ∷ fs)) = rw (left-false c (inner (f ∷ fs)) i, m) in
    first brace e (closes-due (LexKind.Mark Mark.RightBrace) Form.SetEnumeration (above Kind.Expression (room c fs (makes f.wait) j u) i (subscript-wanted f.wait m)) i refl refl refl)

due-completes : {goal : Goal} (f : Frame) (fs : List Frame) (c : ℕ) → inner fs ≤ c → inner (f ∷ fs) ≤ c → Under goal fs (makes f.wait) → is_due f.wait ≡ true → (m : Mode) → mode f.wait ≡ m → Completion goal (At (f ∷ fs))
due-completes f fs c j i u d Mode.Operand m =
    operand m i (λ e b s. part-closes f.wait e (room c fs (makes f.wait) j u) i (meets-shows (wanted f.wait) Kind.Expression (shape e) (operand-wanted f.wait m) s) (meets-no_step (wanted f.wait) Kind.Expression (operand-wanted f.wait m) refl))
due-completes f fs c j i u d Mode.Subscript m = subscript f fs c j i u m
due-completes f fs c j i u d Mode.Marks m = mark-due f.wait f.parts f.read (room c fs (makes f.wait) j u) i d m
due-completes f fs c j i u d Mode.Child m = absurd (no-child f.wait m d)

state-completes : {goal : Goal} (st : State) → Fits goal st → Completion goal st
state-completes (At []) u = absurd u
state-completes (At (f ∷ fs)) u = due-completes f fs (inner (f ∷ fs)) (outside (list_of f.wait) (inner fs)) (omega arith) u.1 u.0 (mode f.wait) refl
state-completes (Have [] e b) u = absurd u
state-completes (Have (f ∷ fs) e b) u = (part-closes f.wait e (room (inner (f ∷ fs)) fs (makes f.wait) (outside (list_of f.wait) (inner fs)) u.1) (omega arith) u.0.0 u.0.1).all

pub completes : (goal : Goal) (lexemes : List Lexeme) (st : State) → run (Some (start_of goal)) lexemes ≡ Some st → (rest : List Lexeme) × Answers goal (run (Some (start_of goal)) (lexemes ++ rest))
completes goal lexemes st e =
    let u : FitsNext goal (Some st) = subst (FitsNext goal) e (run-fits goal (Some (start_of goal)) lexemes (start-fits goal)) in
    let k : Completion goal st = state-completes st u in
    let q : run (Some (start_of goal)) (lexemes ++ k.rest) ≡ run (Some st) k.rest = run-append lexemes k.rest (Some (start_of goal)) ∙ ap (λ o. run o k.rest) e in
    (k.rest, subst (Answers goal) (sym q) k.answers)

pub completes-expression : (lexemes : List Lexeme) (st : State) → run (Some start) lexemes ≡ Some st → (rest : List Lexeme) × (tree : Tree) × (parse (lexemes ++ rest) ≡ Some tree)
completes-expression lexemes st e =
    let k : (rest : List Lexeme) × Answers Goal.ForExpression (run (Some start) (lexemes ++ rest)) = completes Goal.ForExpression lexemes st e in
    (k.0, k.1.0, k.1.1)

pub completes-bounds : (lexemes : List Lexeme) (st : State) → run (Some start_bounds) lexemes ≡ Some st → (rest : List Lexeme) × (bounds : Trees) × (parse_bounds (lexemes ++ rest) ≡ Some bounds)
completes-bounds lexemes st e =
    let k : (rest : List Lexeme) × Answers Goal.ForBounds (run (Some start_bounds) (lexemes ++ rest)) = completes Goal.ForBounds lexemes st e in
    (k.0, k.1.0, k.1.1)
