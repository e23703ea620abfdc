-- The tables keep the kinds: what a frame becomes makes the same kind, or a bound where names with a set are taken too.
use Rattle.std.proofs.Common.{◌≡◌, Bool, true, false, Option, Some, None, refl}
use Rattle.std.specs.Prelude.{cond}
use Rattle.tla_symbols.specs.declared.op.Op.{Op}
use Rattle.tla_symbols.specs.declared.place.Fix.TheVariants as Fix
use Rattle.tla_symbols.specs.declared.lexeme.LexKind.{LexKind}
use Rattle.tla_symbols.specs.declared.lexeme.Word.{Word}
use Rattle.tla_symbols.specs.declared.lexeme.Mark.{Mark}
use Rattle.tla_symbols.specs.declared.lexeme.Lexeme.{Lexeme}
use Rattle.tla_tree.specs.declared.form.Form.{Form}
use Rattle.expr_grammar.specs.declared.wait.Binding.TheVariants as Binding
use Rattle.expr_grammar.specs.declared.wait.Handed.TheVariants as Handed
use Rattle.expr_grammar.specs.declared.wait.Wait.{Wait}
use Rattle.expr_grammar.specs.declared.wait.Mode.{Mode}
use Rattle.expr_grammar.specs.declared.wait.Start.{Start}
use Rattle.expr_grammar.specs.declared.wait.MarkMove.{MarkMove}
use Rattle.expr_grammar.specs.declared.wait.PartMove.{PartMove}
use Rattle.expr_grammar.specs.declared.wait.Role.{Role}
use Rattle.expr_grammar.specs.declared.wait.Lead.{Lead}
use Rattle.expr_grammar.specs.declared.wait.Shape.{Shape}
use Rattle.expr_grammar.specs.Tables.{mode, start_kind, subscript_kind, begins, if_move, at_mark, is_expression, finishes, if_goes, in_square, after_expression, after_part, or_finish, at_part, choice, lead_infix, lead, takes, absorbs}
use Rattle.tla_tree.specs.Edges.{Edge}
use Rattle.precedence.specs.declared.Choice.TheVariants as Choice
use Rattle.expr_laws.proofs.CompletingKinds.{Kind, makes, wanted, meets, shows, rough}

abbrev pub takes_sets : Kind → Bool
takes_sets Kind.Either = true
takes_sets Kind.Bound = true
takes_sets Kind.One = true
takes_sets _ = false

-- a frame that made the first kind may come to make the second
pub data Grows : Kind → Kind → Type 0 where
  same : {k : Kind} → Grows k k
  to_bound : {k : Kind} → takes_sets k ≡ true → Grows k Kind.Bound

-- what a mark may do to a frame
abbrev pub KeepsMark : Wait → MarkMove → Type 0
KeepsMark w (MarkMove.Shift u) = Grows (makes w) (makes u)
KeepsMark w (MarkMove.Leaf form u) = Grows (makes w) (makes u)
KeepsMark w (MarkMove.LeafOf form n u) = Grows (makes w) (makes u)
KeepsMark w (MarkMove.Push v) = meets (wanted w) (makes v) ≡ true
KeepsMark w (MarkMove.Hand h) = Grows (makes w) Kind.Expression
KeepsMark w (MarkMove.Close form) = shows (makes w) (rough form) ≡ true
KeepsMark w MarkMove.Refused = Unit {0}

keeps-if : (w : Wait) (b : Bool) (m : MarkMove) → KeepsMark w m → KeepsMark w (if_move b m)
keeps-if w true m h = h
keeps-if w false m h = tt

keeps-or : (w : Wait) (b : Bool) (m n : MarkMove) → KeepsMark w m → KeepsMark w n → KeepsMark w (cond b m n)
keeps-or w true m n h k = h
keeps-or w false m n h k = k

pub mark-kept : (w : Wait) (t : Lexeme) → KeepsMark w (at_mark w t)
mark-kept (Wait.BindingStart Binding.Names) t = search (keeps-if, keeps-or, same)
mark-kept (Wait.BindingStart Binding.Either) t = search (keeps-if, keeps-or, same, to_bound)
mark-kept (Wait.BindingStart Binding.Bound) t = search (keeps-if, keeps-or, same)
mark-kept (Wait.BindingStart Binding.One) t = search (keeps-if, keeps-or, same, to_bound)
mark-kept (Wait.BindingRead Binding.Names) t = search (keeps-if, keeps-or, same)
mark-kept (Wait.BindingRead Binding.Either) t = search (keeps-if, keeps-or, same, to_bound)
mark-kept (Wait.BindingRead Binding.Bound) t = search (keeps-if, keeps-or, same)
mark-kept (Wait.BindingRead Binding.One) t = search (keeps-if, keeps-or, same, to_bound)
mark-kept _ t = search (keeps-if, keeps-or, same) depth 7

-- what another lexeme may do to a frame with a part beside it
abbrev pub KeepsPart : Wait → PartMove → Type 0
KeepsPart w (PartMove.Finish form) = Unit {0}
KeepsPart w (PartMove.Done form c) = shows (makes w) (rough form) ≡ true
KeepsPart w (PartMove.Goes u c) = Grows (makes w) (makes u)
KeepsPart w (PartMove.Hand h) = Grows (makes w) Kind.Expression
KeepsPart w (PartMove.Convert flag) = Grows (makes w) Kind.Expression
KeepsPart w PartMove.Refused = Unit {0}

goes-if : (w : Wait) (b : Bool) (m : PartMove) → KeepsPart w m → KeepsPart w (if_goes b m)
goes-if w true m h = h
goes-if w false m h = tt

goes-or : (w : Wait) (b : Bool) (m n : PartMove) → KeepsPart w m → KeepsPart w n → KeepsPart w (cond b m n)
goes-or w true m n h k = h
goes-or w false m n h k = k

square-kept : (b : Bool) (sh : Shape) (t : Lexeme) → KeepsPart (Wait.SquareFirst b) (in_square b sh t)
square-kept b (Shape.Plain n) t = search (goes-if, goes-or, same) depth 9
square-kept b Shape.Member t = search (goes-if, goes-or, same) depth 9
square-kept b _ t = search (goes-if, goes-or, same) depth 9

brace-kept : (sh : Shape) (t : Lexeme) → KeepsPart Wait.BraceFirst (after_expression Wait.BraceFirst sh t)
brace-kept Shape.Member t = search (goes-if, goes-or, same) depth 9
brace-kept _ t = search (goes-if, goes-or, same) depth 9

expression-kept : (w : Wait) (sh : Shape) (t : Lexeme) → KeepsPart w (after_expression w sh t)
expression-kept (Wait.SquareFirst b) sh t = square-kept b sh t
expression-kept Wait.BraceFirst sh t = brace-kept sh t
expression-kept _ sh t = search (goes-if, goes-or, same) depth 9

parts-kept : (w : Wait) (sh : Shape) (t : Lexeme) → KeepsPart w (after_part w sh t)
parts-kept (Wait.Argument n) Shape.Symbol t = search (goes-if, goes-or, same) depth 9
parts-kept (Wait.Handing Handed.Segment n) Shape.Helper t = search (goes-if, goes-or, same) depth 9
parts-kept (Wait.QuantifierFirst q) Shape.Names t = search (goes-if, goes-or, same) depth 9
parts-kept (Wait.QuantifierFirst q) Shape.Bound t = search (goes-if, goes-or, same) depth 9
parts-kept (Wait.QuantifierNext q) Shape.Bound t = search (goes-if, goes-or, same) depth 9
parts-kept (Wait.TemporalFirst q) Shape.Names t = search (goes-if, goes-or, same) depth 9
parts-kept Wait.ChooseFirst Shape.Names t = search (goes-if, goes-or, same) depth 9
parts-kept Wait.ChooseFirst Shape.Bound t = search (goes-if, goes-or, same) depth 9
parts-kept Wait.WholeBounds Shape.Bound t = search (goes-if, goes-or, same) depth 9
parts-kept Wait.ImageBounds Shape.Bound t = search (goes-if, goes-or, same) depth 9
parts-kept (Wait.FunctionNames b) Shape.Bound t = search (goes-if, goes-or, same) depth 9
parts-kept Wait.FunctionBounds Shape.Bound t = search (goes-if, goes-or, same) depth 9
parts-kept Wait.ExceptUpdates Shape.Helper t = search (goes-if, goes-or, same) depth 9
parts-kept Wait.CaseArms Shape.Arm t = search (goes-if, goes-or, same) depth 9
parts-kept (Wait.Handing Handed.Definition n) Shape.Helper t = search (goes-if, goes-or, same) depth 9
parts-kept (Wait.DefinitionParameters n) Shape.Helper t = search (goes-if, goes-or, same) depth 9
parts-kept (Wait.FunctionHeadBounds n) Shape.Bound t = search (goes-if, goes-or, same) depth 9
parts-kept (Wait.Replacements m) Shape.Helper t = search (goes-if, goes-or, same) depth 9
parts-kept _ sh t = tt

or-finish-kept : (w : Wait) (m : PartMove) (o : Option Form) → KeepsPart w m → KeepsPart w (or_finish m o)
or-finish-kept w PartMove.Refused None h = tt
or-finish-kept w PartMove.Refused (Some form) h = tt
or-finish-kept w (PartMove.Finish form) o h = h
or-finish-kept w (PartMove.Done form c) o h = h
or-finish-kept w (PartMove.Goes u c) o h = h
or-finish-kept w (PartMove.Hand hd) o h = h
or-finish-kept w (PartMove.Convert flag) o h = h

pub part-kept : (w : Wait) (sh : Shape) (t : Lexeme) → KeepsPart w (at_part w sh t)
part-kept w sh t = or-finish-kept w _ (finishes w sh) (goes-or w (is_expression sh) _ _ (expression-kept w sh t) (parts-kept w sh t))

-- what an expression begins with
abbrev pub BeginsExpression : Start → Type 0
BeginsExpression (Start.Leaf form) = shows Kind.Expression (rough form) ≡ true
BeginsExpression (Start.Push v) = makes v ≡ Kind.Expression
BeginsExpression (Start.PushLeaf form v) = makes v ≡ Kind.Expression
BeginsExpression (Start.Hand h) = Unit {0}
BeginsExpression Start.NoStart = Unit {0}

begins-or : (b : Bool) (m n : Start) → BeginsExpression m → BeginsExpression n → BeginsExpression (cond b m n)
begins-or true m n h k = h
begins-or false m n h k = k

start-kept : (k : LexKind) (t : Lexeme) → BeginsExpression (start_kind k t)
start-kept (LexKind.Sym op) t = search (begins-or, refl)
start-kept (LexKind.Mark Mark.At) t = refl
start-kept (LexKind.Mark Mark.LeftParen) t = refl
start-kept (LexKind.Mark Mark.LeftBracket) t = refl
start-kept (LexKind.Mark Mark.LeftBrace) t = refl
start-kept (LexKind.Mark Mark.LeftAngle) t = refl
start-kept (LexKind.Mark Mark.ForAll) t = refl
start-kept (LexKind.Mark Mark.Exists) t = refl
start-kept (LexKind.Mark Mark.TemporalForAll) t = refl
start-kept (LexKind.Mark Mark.TemporalExists) t = refl
start-kept (LexKind.Word Word.Choose) t = refl
start-kept (LexKind.Word Word.If) t = refl
start-kept (LexKind.Word Word.Case) t = refl
start-kept (LexKind.Word Word.Let) t = refl
start-kept (LexKind.Word Word.WeakFair) t = refl
start-kept (LexKind.Word Word.StrongFair) t = refl
start-kept LexKind.Number t = refl
start-kept LexKind.Str t = refl
start-kept _ t = tt

subscript-kept : (k : LexKind) (t : Lexeme) → BeginsExpression (subscript_kind k t)
subscript-kept LexKind.Name t = refl
subscript-kept (LexKind.Mark Mark.LeftParen) t = refl
subscript-kept (LexKind.Mark Mark.LeftBracket) t = refl
subscript-kept (LexKind.Mark Mark.LeftBrace) t = refl
subscript-kept (LexKind.Mark Mark.LeftAngle) t = refl
subscript-kept _ t = tt

pub begins-kept : (m : Mode) (t : Lexeme) → BeginsExpression (begins m t)
begins-kept Mode.Operand t = start-kept t.kind t
begins-kept Mode.Subscript t = subscript-kept t.kind t
begins-kept _ t = tt

pub operand-wanted : (w : Wait) → mode w ≡ Mode.Operand → meets (wanted w) Kind.Expression ≡ true
operand-wanted Wait.Whole h = refl
operand-wanted _ h = first_of (cc, search)

pub subscript-wanted : (w : Wait) → mode w ≡ Mode.Subscript → meets (wanted w) Kind.Expression ≡ true
subscript-wanted Wait.SquareSubscript h = refl
subscript-wanted _ h = first_of (cc, search)

-- and where an expression can begin, or an operator can wait, a frame takes one
abbrev pub begins_something : Start → Bool
begins_something Start.NoStart = false
begins_something _ = true

pub begins-wanted : (w : Wait) (t : Lexeme) → begins_something (begins (mode w) t) ≡ true → meets (wanted w) Kind.Expression ≡ true
begins-wanted w t h = by-mode (mode w) refl h
  where
    by-mode : (m : Mode) → mode w ≡ m → begins_something (begins m t) ≡ true → meets (wanted w) Kind.Expression ≡ true
    by-mode Mode.Operand e h = operand-wanted w e
    by-mode Mode.Subscript e h = subscript-wanted w e
    by-mode Mode.Marks e h = cc
    by-mode Mode.Child e h = cc

-- operators leave a part to a frame only where that takes expressions
pub waits-wanted : (w : Wait) (q : Edge) → choice w q ≡ Choice.Waits → meets (wanted w) Kind.Expression ≡ true
waits-wanted (Wait.Handing Handed.Segment t) q h = cc
waits-wanted (Wait.Handing Handed.Definition t) q h = cc
waits-wanted _ q h = first_of (cc, search)

-- what operators begin
abbrev pub LeadsExpression : Lead → Type 0
LeadsExpression (Lead.Push v) = makes v ≡ Kind.Expression
LeadsExpression (Lead.Node form) = shows Kind.Expression (rough form) ≡ true
LeadsExpression Lead.NoLead = Unit {0}

infix-leads : (op : Op) (t : Lexeme) → LeadsExpression (lead_infix op t)
infix-leads Op.Product t = refl
infix-leads _ t = refl

pub leads-kept : (r : Role) (t : Lexeme) → LeadsExpression (lead r t)
leads-kept (Role.Symbol op Fix.Infix) t = infix-leads op t
leads-kept (Role.Symbol op Fix.Postfix) t = refl
leads-kept (Role.Symbol op Fix.Prefix) t = tt
leads-kept Role.Apply t = refl
leads-kept Role.Select t = refl
leads-kept Role.Mark t = tt

-- only a frame of factors takes one more
pub takes-factor : (w : Wait) (r : Role) → takes w r ≡ true → w ≡ Wait.Factor
takes-factor Wait.Factor r h = refl
takes-factor _ r h = cc

-- a part that is absorbed belongs to a path of steps
pub absorbs-step : (w u : Wait) → absorbs w ≡ Some u → (u ≡ Wait.StepNext) × (makes w ≡ Kind.Update)
absorbs-step Wait.StepFirst u h = (cc, refl)
absorbs-step Wait.StepNext u h = (cc, refl)
absorbs-step _ u h = cc

pub absorbs-no_step : (w : Wait) → absorbs w ≡ None → meets (wanted w) Kind.Step ≡ false
absorbs-no_step Wait.StepFirst h = cc
absorbs-no_step Wait.StepNext h = cc
absorbs-no_step (Wait.Handing Handed.Segment t) h = refl
absorbs-no_step (Wait.Handing Handed.Definition t) h = refl
absorbs-no_step _ h = refl
