-- Each frame has a completion round a part that it takes.
use Rattle.std.proofs.Common.{◌≡◌, ℕ, ◌≤◌, ◌⊎◌, inl, inr, Bool, true, false, List, [], ◌∷◌, ◌++◌, Some, None, refl}
use Rattle.tla_symbols.specs.declared.lexeme.LexKind.{LexKind}
use Rattle.tla_symbols.specs.declared.lexeme.Word.TheVariants as Word
use Rattle.tla_symbols.specs.declared.lexeme.Mark.TheVariants as Mark
use Rattle.tla_symbols.specs.declared.lexeme.Lexeme.{Lexeme}
use Rattle.tla_tree.specs.declared.form.Form.{Form}
use Rattle.tla_tree.specs.Syntax.{Tree, trees}
use Rattle.expr_grammar.specs.declared.wait.Handed.TheVariants as Handed
use Rattle.expr_grammar.specs.declared.wait.Wait.{Wait}
use Rattle.expr_grammar.specs.declared.wait.PartMove.{PartMove}
use Rattle.expr_grammar.specs.declared.wait.Mode.TheVariants as Mode
use Rattle.expr_grammar.specs.declared.wait.Conversion.{Conversion}
use Rattle.expr_grammar.specs.declared.wait.Shape.{Shape}
use Rattle.expr_grammar.specs.Kinds.{is_bang, is_always, is_comma}
use Rattle.expr_grammar.specs.Tables.{mode, shape, is_expression, ends_with, after_expression, at_part}
use Rattle.expr_grammar.specs.Machine.{Frame, frame, At, Have, inner}
use Rattle.expr_laws.proofs.CompletingKinds.{Kind, Goal, bottom, makes, wanted, meets, shows, rough, meets-bottom}
use Rattle.expr_laws.proofs.CompletingStates.{Under}
use Rattle.expr_laws.proofs.CompletingParts.{lexeme, Completion, closes, Closing, Room, is_usual, ends_with_mark, goes_with_mark, marks, operand, ends_alone}

-- what may end with an expression asks for nothing else after it
ends-refuses : (w : Wait) (form : Form) (sh : Shape) (t : Lexeme) → ends_with w ≡ Some form → after_expression w sh t ≡ PartMove.Refused
ends-refuses (Wait.PrefixOperand s) form sh t h = refl
ends-refuses _ form sh t h = first_of (cc, search)

ends-usual : (w : Wait) (form : Form) → ends_with w ≡ Some form → is_usual (makes w) ≡ true
ends-usual (Wait.PrefixOperand s) form h = refl
ends-usual _ form h = first_of (cc, search)

ends-made : (w : Wait) (form : Form) → ends_with w ≡ Some form → shows (makes w) (rough form) ≡ true
ends-made (Wait.PrefixOperand s) form h = cc
ends-made _ form h = cc

-- a frame that may end round its expression
pub ends-round-expression : {goal : Goal} {c : ℕ} {w : Wait} {ps : List Tree} {a : List Lexeme} {fs : List Frame} {e : Tree} {b : List Lexeme} (form : Form) → Room goal c fs (makes w) → inner (frame w ps a ∷ fs) ≤ c → ends_with w ≡ Some form → is_expression (shape e) ≡ true → Closing goal c (Have (frame w ps a ∷ fs) e b)
ends-round-expression {w = w} {e = e} form r i q s = ends_alone form r i (ends-usual w form q) (ends-made w form q) (rw (s, q)) (λ t h. rw (s, ends-refuses w form (shape e) t q, q))

body-instance : (sh : Shape) → shows Kind.Body sh ≡ true → is_expression sh ≡ false → sh ≡ Shape.Instance
body-instance Shape.Instance h n = refl
body-instance _ h n = cc

helper-is : (sh : Shape) → shows Kind.Segment sh ≡ true → sh ≡ Shape.Helper
helper-is Shape.Helper h = refl
helper-is _ h = cc

names-is : (sh : Shape) → shows Kind.Names sh ≡ true → sh ≡ Shape.Names
names-is Shape.Names h = refl
names-is _ h = cc

bound-is : (sh : Shape) → shows Kind.Bound sh ≡ true → sh ≡ Shape.Bound
bound-is Shape.Bound h = refl
bound-is _ h = cc

binding-is : (sh : Shape) → shows Kind.Either sh ≡ true → (sh ≡ Shape.Names) ⊎ (sh ≡ Shape.Bound)
binding-is Shape.Names h = inl refl
binding-is Shape.Bound h = inr refl
binding-is _ h = cc

arm-is : (sh : Shape) → shows Kind.Arm sh ≡ true → (sh ≡ Shape.Arm) ⊎ (sh ≡ Shape.OtherArm)
arm-is Shape.Arm h = inl refl
arm-is Shape.OtherArm h = inr refl
arm-is _ h = cc

square-arrow : (flag : Bool) (sh : Shape) (c : ℕ) → is_expression sh ≡ true → at_part (Wait.SquareFirst flag) sh (lexeme (LexKind.Mark Mark.Arrow) c) ≡ PartMove.Goes Wait.FunctionTo Conversion.Keep
square-arrow flag (Shape.Plain n) c h = refl
square-arrow flag Shape.Member c h = refl
square-arrow flag Shape.Expression c h = refl
square-arrow flag _ c h = cc

pub closes-no_bang : (k : LexKind) → closes k ≡ true → is_bang k ≡ false
closes-no_bang (LexKind.Mark Mark.Bang) h = cc
closes-no_bang _ h = refl

closes-no_arm : (k : LexKind) → closes k ≡ true → is_always k ≡ false
closes-no_arm (LexKind.Sym op) h = cc
closes-no_arm _ h = refl

closes-no_comma : (k : LexKind) → closes k ≡ true → is_comma k ≡ false
closes-no_comma (LexKind.Mark Mark.Comma) h = cc
closes-no_comma _ h = refl

-- an instance ends a definition
pub ends-round-instance : {goal : Goal} {c : ℕ} {w : Wait} {ps : List Tree} {a : List Lexeme} {fs : List Frame} {e : Tree} {b : List Lexeme} → Room goal c fs (makes w) → inner (frame w ps a ∷ fs) ≤ c → (form : Form) → ends_with w ≡ Some form → shows (wanted w) (shape e) ≡ true → is_expression (shape e) ≡ false → Closing goal c (Have (frame w ps a ∷ fs) e b)
ends-round-instance {w = Wait.DefinitionBody n} {e = e} r i form q s x =
    let z : shape e ≡ Shape.Instance = body-instance (shape e) s x in
    ends_alone (Form.ModuleDefinition n) r i refl refl (rw z) (λ t h. rw z)
ends-round-instance {w = _} r i form q s x = cc

-- a body is due, and then the form ends
pub ends_with_body : {goal : Goal} {c : ℕ} {w : Wait} {ps : List Tree} {a : List Lexeme} {fs : List Frame} (form : Form) → Room goal c fs (makes w) → inner (frame w ps a ∷ fs) ≤ c → mode w ≡ Mode.Operand → ends_with w ≡ Some form → Completion goal (At (frame w ps a ∷ fs))
ends_with_body form r i m q = operand m i (λ e b s. ends-round-expression form r i q s)

-- a part is due, and then a mark closes the form
pub closes_with_mark : {goal : Goal} {c : ℕ} {w : Wait} {ps : List Tree} {a : List Lexeme} {fs : List Frame} (kind : LexKind) (form : Form) (cv : Conversion) → Room goal c fs (makes w) → inner (frame w ps a ∷ fs) ≤ c → closes kind ≡ true → mode w ≡ Mode.Operand → ((sh : Shape) → is_expression sh ≡ true → at_part w sh (lexeme kind c) ≡ PartMove.Done form cv) → shows (makes w) (rough form) ≡ true → Completion goal (At (frame w ps a ∷ fs))
closes_with_mark kind form cv r i h m q z = operand m i (λ e b s. ends_with_mark kind form cv r i h (q (shape e) s) z)

-- nothing stands below the bottom frame
alone : (goal : Goal) (w : Wait) → meets (wanted w) (bottom goal) ≡ true → ⊥
alone goal w m = let z : meets (wanted w) (bottom goal) ≡ false = meets-bottom goal (wanted w) in cc

whole-ends : {goal : Goal} {c : ℕ} {ps : List Tree} {a : List Lexeme} (fs : List Frame) (e : Tree) (b : List Lexeme) → Under goal fs Kind.Whole → is_expression (shape e) ≡ true → Closing goal c (Have (frame Wait.Whole ps a ∷ fs) e b)
whole-ends {goal = Goal.ForExpression} [] e b u s = record { all = record { rest = []; answers = (e, rw s) }; first = tt }
whole-ends {goal = Goal.ForBounds} [] e b u s = cc
whole-ends (f ∷ fs) e b u s = absurd (alone Goal.ForExpression f.wait u.0)

-- a bound is enough of bounds alone
bounds-end : {goal : Goal} {c : ℕ} {ps : List Tree} {a : List Lexeme} (fs : List Frame) (e : Tree) (b : List Lexeme) → Under goal fs Kind.WholeBounds → shape e ≡ Shape.Bound → Closing goal c (Have (frame Wait.WholeBounds ps a ∷ fs) e b)
bounds-end {goal = Goal.ForExpression} [] e b u s = cc
bounds-end {goal = Goal.ForBounds} {ps = ps} [] e b u s = record { all = record { rest = []; answers = (trees (ps ++ e ∷ []), rw s) }; first = tt }
bounds-end (f ∷ fs) e b u s = absurd (alone Goal.ForBounds f.wait u.0)

-- frames that go on after their part, or close with a mark
pub goes-on : {goal : Goal} {c : ℕ} (w : Wait) {ps : List Tree} {a : List Lexeme} {fs : List Frame} {e : Tree} {b : List Lexeme} → Room goal c fs (makes w) → inner (frame w ps a ∷ fs) ≤ c → ends_with w ≡ None → shows (wanted w) (shape e) ≡ true → meets (wanted w) Kind.Step ≡ false → Closing goal c (Have (frame w ps a ∷ fs) e b)
goes-on Wait.Whole {fs = fs} {e} {b} r i q s n = whole-ends fs e b r.under s
goes-on Wait.WholeBounds {fs = fs} {e} {b} r i q s n = bounds-end fs e b r.under (bound-is (shape e) s)
goes-on Wait.ParenthesesBody r i q s n = ends_with_mark (LexKind.Mark Mark.RightParen) Form.Parentheses Conversion.Keep r i refl (rw s) refl
goes-on (Wait.Argument d) r i q s n = ends_with_mark (LexKind.Mark Mark.RightParen) (Form.Segment d) Conversion.Keep r i refl (rw s) refl
goes-on Wait.BraceFirst r i q s n = ends_with_mark (LexKind.Mark Mark.RightBrace) Form.SetEnumeration Conversion.Keep r i refl (rw s) refl
goes-on Wait.BraceNext r i q s n = ends_with_mark (LexKind.Mark Mark.RightBrace) Form.SetEnumeration Conversion.Keep r i refl (rw s) refl
goes-on Wait.FilterBody r i q s n = ends_with_mark (LexKind.Mark Mark.RightBrace) Form.SetFilter Conversion.Keep r i refl (rw s) refl
goes-on Wait.ApplicationArgument r i q s n = ends_with_mark (LexKind.Mark Mark.RightBracket) Form.Application Conversion.Keep r i refl (rw s) refl
goes-on (Wait.SquareFirst flag) {e = e} r i q s n = goes_with_mark (LexKind.Mark Mark.Arrow) Wait.FunctionTo Conversion.Keep i refl (square-arrow flag (shape e) _ s) (closes_with_mark (LexKind.Mark Mark.RightBracket) Form.FunctionSet Conversion.Keep r i refl refl (λ sh h. rw h) refl)
goes-on Wait.FunctionTo r i q s n = ends_with_mark (LexKind.Mark Mark.RightBracket) Form.FunctionSet Conversion.Keep r i refl (rw s) refl
goes-on Wait.FunctionBody r i q s n = ends_with_mark (LexKind.Mark Mark.RightBracket) Form.FunctionConstructor Conversion.Keep r i refl (rw s) refl
goes-on (Wait.RecordValue d m) r i q s n = ends_with_mark (LexKind.Mark Mark.RightBracket) Form.Record (Conversion.AsField d m) r i refl (rw s) refl
goes-on (Wait.RecordSetValue d m) r i q s n = ends_with_mark (LexKind.Mark Mark.RightBracket) Form.RecordSet (Conversion.AsField d m) r i refl (rw s) refl
goes-on Wait.IndexPart r i q s n = ends_with_mark (LexKind.Mark Mark.RightBracket) Form.IndexStep Conversion.Keep r i refl (rw s) refl
goes-on (Wait.AngleFirst flag) r i q s n = ends_with_mark (LexKind.Mark Mark.RightAngle) Form.Tuple Conversion.Keep r i refl (rw s) refl
goes-on Wait.AngleNext r i q s n = ends_with_mark (LexKind.Mark Mark.RightAngle) Form.Tuple Conversion.Keep r i refl (rw s) refl
goes-on (Wait.FairSubscript w) r i q s n = goes_with_mark (LexKind.Mark Mark.LeftParen) (Wait.FairAction w) Conversion.Keep i refl (rw s) (closes_with_mark (LexKind.Mark Mark.RightParen) (Form.Fairness w) Conversion.Keep r i refl refl (λ sh h. rw h) refl)
goes-on (Wait.FairAction w) r i q s n = ends_with_mark (LexKind.Mark Mark.RightParen) (Form.Fairness w) Conversion.Keep r i refl (rw s) refl
goes-on Wait.IfTest r i q s n = goes_with_mark (LexKind.Word Word.Then) Wait.IfThen Conversion.Keep i refl (rw s) (operand refl i (λ e b s'. goes_with_mark (LexKind.Word Word.Else) Wait.IfElse Conversion.Keep i refl (rw s') (ends_with_body Form.IfThenElse r i refl refl)))
goes-on Wait.IfThen r i q s n = goes_with_mark (LexKind.Word Word.Else) Wait.IfElse Conversion.Keep i refl (rw s) (ends_with_body Form.IfThenElse r i refl refl)
goes-on Wait.ArmGuard r i q s n = goes_with_mark (LexKind.Mark Mark.Arrow) Wait.ArmBody Conversion.Keep i refl (rw s) (ends_with_body Form.Arm r i refl refl)
goes-on (Wait.Handing Handed.Segment t) {e = e} r i q s n =
    let z : shape e ≡ Shape.Helper = helper-is (shape e) s in
    ends_alone Form.Identifier r i refl refl (rw z) (λ u h. rw (z, closes-no_bang u.kind h))
goes-on (Wait.Handing Handed.Definition t) {e = e} r i q s n = goes_with_mark (LexKind.Word Word.In) Wait.LetBody Conversion.Keep i refl (rw (helper-is (shape e) s)) (ends_with_body Form.Let r i refl refl)
goes-on (Wait.QuantifierFirst t) {e = e} r i q s n =
    elim (binding-is (shape e) s) [
      | inl z ↦ goes_with_mark (LexKind.Mark Mark.Colon) (Wait.QuantifierBody t) Conversion.Keep i refl (rw z) (ends_with_body (Form.Quantifier t) r i refl refl)
      | inr z ↦ goes_with_mark (LexKind.Mark Mark.Colon) (Wait.BoundedBody t) Conversion.Keep i refl (rw z) (ends_with_body (Form.BoundedQuantifier t) r i refl refl)
    ]
goes-on (Wait.QuantifierNext t) {e = e} r i q s n = goes_with_mark (LexKind.Mark Mark.Colon) (Wait.BoundedBody t) Conversion.Keep i refl (rw (bound-is (shape e) s)) (ends_with_body (Form.BoundedQuantifier t) r i refl refl)
goes-on (Wait.TemporalFirst t) {e = e} r i q s n = goes_with_mark (LexKind.Mark Mark.Colon) (Wait.TemporalBody t) Conversion.Keep i refl (rw (names-is (shape e) s)) (ends_with_body (Form.TemporalQuantifier t) r i refl refl)
goes-on Wait.ChooseFirst {e = e} r i q s n =
    elim (binding-is (shape e) s) [
      | inl z ↦ goes_with_mark (LexKind.Mark Mark.Colon) Wait.ChooseBody Conversion.Keep i refl (rw z) (ends_with_body Form.Choose r i refl refl)
      | inr z ↦ goes_with_mark (LexKind.Mark Mark.Colon) Wait.BoundedChooseBody Conversion.Keep i refl (rw z) (ends_with_body Form.BoundedChoose r i refl refl)
    ]
goes-on Wait.ImageBounds {e = e} r i q s n = ends_with_mark (LexKind.Mark Mark.RightBrace) Form.SetImage Conversion.Keep r i refl (rw (bound-is (shape e) s)) refl
goes-on (Wait.FunctionNames flag) {e = e} r i q s n = goes_with_mark (LexKind.Mark Mark.MapsTo) Wait.FunctionBody Conversion.Keep i refl (rw (bound-is (shape e) s)) (closes_with_mark (LexKind.Mark Mark.RightBracket) Form.FunctionConstructor Conversion.Keep r i refl refl (λ sh h. rw h) refl)
goes-on Wait.FunctionBounds {e = e} r i q s n = goes_with_mark (LexKind.Mark Mark.MapsTo) Wait.FunctionBody Conversion.Keep i refl (rw (bound-is (shape e) s)) (closes_with_mark (LexKind.Mark Mark.RightBracket) Form.FunctionConstructor Conversion.Keep r i refl refl (λ sh h. rw h) refl)
goes-on Wait.ExceptUpdates {e = e} r i q s n = ends_with_mark (LexKind.Mark Mark.RightBracket) Form.Except Conversion.Keep r i refl (rw (helper-is (shape e) s)) refl
goes-on Wait.StepFirst r i q s n = cc
goes-on Wait.StepNext r i q s n = cc
goes-on Wait.CaseArms {e = e} r i q s n =
    elim (arm-is (shape e) s) [
      | inl z ↦ ends_alone Form.Case r i refl refl (rw z) (λ u h. rw (z, closes-no_arm u.kind h))
      | inr z ↦ ends_alone Form.Case r i refl refl (rw z) (λ u h. rw z)
    ]
goes-on (Wait.DefinitionParameters d) {e = e} r i q s n = goes_with_mark (LexKind.Mark Mark.RightParen) (Wait.DefinitionDefine d) Conversion.Keep i refl (rw (helper-is (shape e) s)) (marks (LexKind.Mark Mark.Define) i refl (ends_with_body (Form.OperatorDefinition d) r i refl refl))
goes-on (Wait.FunctionHeadBounds d) {e = e} r i q s n = goes_with_mark (LexKind.Mark Mark.RightBracket) (Wait.FunctionHeadDefine d) Conversion.Keep i refl (rw (bound-is (shape e) s)) (marks (LexKind.Mark Mark.Define) i refl (ends_with_body (Form.FunctionDefinition d) r i refl refl))
goes-on (Wait.Replacements m) {e = e} r i q s n =
    let z : shape e ≡ Shape.Helper = helper-is (shape e) s in
    ends_alone (Form.Instance m) r i refl refl (rw z) (λ u h. rw (z, closes-no_comma u.kind h))
goes-on _ r i q s n = cc
