-- The tables of moves.
use Rattle.std.specs.Prelude.{ℕ, ◌+◌, nat_eq, Bool, true, false, cond, is_some, List, [], ◌∷◌, Option, Some, None}
use Rattle.tla_symbols.specs.declared.op.Op.{Op}
use Rattle.tla_symbols.specs.declared.place.Fix.{Fix}
use Rattle.tla_symbols.specs.declared.lexeme.LexKind.{LexKind}
use Rattle.tla_symbols.specs.declared.lexeme.Word.{Word}
use Rattle.tla_symbols.specs.declared.lexeme.Mark.{Mark}
use Rattle.tla_symbols.specs.declared.lexeme.Lexeme.{Lexeme}
use Rattle.tla_symbols.specs.Symbols.{range_of, is_definable}
use Rattle.tla_tree.specs.declared.form.Form.{Form}
use Rattle.tla_tree.specs.Forms.{helps}
use Rattle.tla_tree.specs.Syntax.{Tree, Trees, Node, Nil, Cons}
use Rattle.tla_tree.specs.Edges.{Edge, Operator, Open, Applied, Selected, operator, product}
use Rattle.tla_tree.specs.Lexemes.{is_passed, is_given, built, one, then}
use Rattle.precedence.specs.declared.Choice.{Choice}
use Rattle.precedence.specs.declared.Choice.TheVariants.{Ends, Waits, Clashes}
use Rattle.precedence.specs.Choices.{meets, choose}
use Rattle.expr_grammar.specs.declared.wait.Binding.{Binding}
use Rattle.expr_grammar.specs.declared.wait.Handed.{Handed}
use Rattle.expr_grammar.specs.declared.wait.Wait.{Wait}
use Rattle.expr_grammar.specs.declared.wait.Mode.{Mode}
use Rattle.expr_grammar.specs.declared.wait.Start.{Start}
use Rattle.expr_grammar.specs.declared.wait.MarkMove.{MarkMove}
use Rattle.expr_grammar.specs.declared.wait.Conversion.{Conversion}
use Rattle.expr_grammar.specs.declared.wait.PartMove.{PartMove}
use Rattle.expr_grammar.specs.declared.wait.Role.{Role}
use Rattle.expr_grammar.specs.declared.wait.Lead.{Lead}
use Rattle.expr_grammar.specs.declared.wait.Shape.{Shape}
use Rattle.expr_grammar.specs.Kinds.{is_name, is_define, is_arrow, is_left_arrow, is_maps_to, is_comma, is_colon, is_bang, is_left_paren, is_right_paren, is_left_bracket, is_right_bracket, is_right_bracket_subscript, is_right_brace, is_left_angle, is_right_angle, is_right_angle_subscript, is_underscore, is_dot, is_except, is_in_word, is_then, is_else, is_other, is_instance, is_with, is_member, is_always, is_equal, is_negative}

-- what comes next in a frame
abbrev pub mode : Wait → Mode
mode Wait.Whole = Mode.Operand
mode (Wait.PrefixOperand t) = Mode.Operand
mode (Wait.InfixOperand t) = Mode.Operand
mode Wait.Factor = Mode.Operand
mode Wait.ParenthesesBody = Mode.Operand
mode (Wait.ListFirst t) = Mode.Operand
mode (Wait.ListItem t) = Mode.Operand
mode (Wait.Argument n) = Mode.Operand
mode Wait.BoundSet = Mode.Operand
mode Wait.TupleBoundSet = Mode.Operand
mode (Wait.QuantifierBody q) = Mode.Operand
mode (Wait.BoundedBody q) = Mode.Operand
mode (Wait.TemporalBody q) = Mode.Operand
mode Wait.ChooseBody = Mode.Operand
mode Wait.BoundedChooseBody = Mode.Operand
mode Wait.BraceFirst = Mode.Operand
mode Wait.BraceNext = Mode.Operand
mode Wait.FilterBody = Mode.Operand
mode Wait.ApplicationArgument = Mode.Operand
mode (Wait.SquareFirst b) = Mode.Operand
mode Wait.FunctionTo = Mode.Operand
mode Wait.FunctionBody = Mode.Operand
mode (Wait.RecordValue n m) = Mode.Operand
mode (Wait.RecordSetValue n m) = Mode.Operand
mode Wait.UpdateValue = Mode.Operand
mode Wait.IndexPart = Mode.Operand
mode (Wait.AngleFirst b) = Mode.Operand
mode Wait.AngleNext = Mode.Operand
mode (Wait.FairAction w) = Mode.Operand
mode Wait.IfTest = Mode.Operand
mode Wait.IfThen = Mode.Operand
mode Wait.IfElse = Mode.Operand
mode Wait.ArmGuard = Mode.Operand
mode Wait.ArmBody = Mode.Operand
mode Wait.OtherBody = Mode.Operand
mode Wait.LetBody = Mode.Operand
mode (Wait.DefinitionBody n) = Mode.Operand
mode (Wait.PrefixBody t) = Mode.Operand
mode (Wait.InfixBody t) = Mode.Operand
mode (Wait.PostfixBody t) = Mode.Operand
mode (Wait.FunctionHeadBody n) = Mode.Operand
mode (Wait.ReplacementRight t) = Mode.Operand
mode Wait.WholeBounds = Mode.Child
mode (Wait.Handing h t) = Mode.Child
mode (Wait.QuantifierFirst q) = Mode.Child
mode (Wait.QuantifierNext q) = Mode.Child
mode (Wait.TemporalFirst q) = Mode.Child
mode Wait.ChooseFirst = Mode.Child
mode Wait.ImageBounds = Mode.Child
mode Wait.FunctionBounds = Mode.Child
mode Wait.ExceptUpdates = Mode.Child
mode Wait.CaseArms = Mode.Child
mode (Wait.DefinitionParameters n) = Mode.Child
mode (Wait.FunctionHeadBounds n) = Mode.Child
mode (Wait.Replacements m) = Mode.Child
mode Wait.SquareSubscript = Mode.Subscript
mode Wait.AngleSubscript = Mode.Subscript
mode (Wait.FairSubscript w) = Mode.Subscript
mode _ = Mode.Marks

-- how a part with a frame of its own begins, and the lexeme that its parent handed it
pub record Child : Type 0 where
  pub wait : Wait
  pub read : List Lexeme

-- a part that has no lexeme yet
abbrev pub fresh : Wait → Child
fresh w = record { wait = w; read = [] }

-- a segment that begins with its name, or a definition that begins with a name or with `-.`
abbrev pub handed : Handed → Lexeme → Child
handed Handed.Segment t = record { wait = Wait.SegmentName t; read = t ∷ [] }
handed Handed.Definition t = record { wait = cond (is_name t.kind) (Wait.DefinitionName t) (Wait.PrefixName t); read = t ∷ [] }

-- the part that begins in a frame that waits so before any lexeme comes, if it has a frame of its own
abbrev pub child : Wait → Option Child
child Wait.WholeBounds = Some (fresh (Wait.BindingStart Binding.Bound))
child (Wait.Handing h t) = Some (handed h t)
child (Wait.QuantifierFirst q) = Some (fresh (Wait.BindingStart Binding.Either))
child (Wait.QuantifierNext q) = Some (fresh (Wait.BindingStart Binding.Bound))
child (Wait.TemporalFirst q) = Some (fresh (Wait.BindingStart Binding.Names))
child Wait.ChooseFirst = Some (fresh (Wait.BindingStart Binding.One))
child Wait.ImageBounds = Some (fresh (Wait.BindingStart Binding.Bound))
child Wait.FunctionBounds = Some (fresh (Wait.BindingStart Binding.Bound))
child Wait.ExceptUpdates = Some (fresh Wait.UpdateBang)
child Wait.CaseArms = Some (fresh Wait.ArmGuard)
child (Wait.DefinitionParameters n) = Some (fresh Wait.ParameterStart)
child (Wait.FunctionHeadBounds n) = Some (fresh (Wait.BindingStart Binding.Bound))
child (Wait.Replacements m) = Some (fresh Wait.ReplacementStart)
child _ = None

-- the bullet of a list whose item is due
abbrev pub list_of : Wait → Option Lexeme
list_of (Wait.ListFirst t) = Some t
list_of (Wait.ListItem t) = Some t
list_of _ = None

-- conjunction and disjunction, in all their spellings
abbrev pub is_junction : LexKind → Bool
is_junction (LexKind.Sym Op.And) = true
is_junction (LexKind.Sym Op.Or) = true
is_junction _ = false

-- both are conjunctions, or both disjunctions
abbrev pub same_junction : LexKind → LexKind → Bool
same_junction (LexKind.Sym Op.And) (LexKind.Sym Op.And) = true
same_junction (LexKind.Sym Op.Or) (LexKind.Sym Op.Or) = true
same_junction _ _ = false

-- a lexeme that may stand before an item of an aligned list: `/\` or `\/`, and no longer spelling
abbrev pub is_bullet : Lexeme → Bool
is_bullet t = cond (is_junction t.kind) (nat_eq t.span.end (t.span.start + 2)) false

-- a lexeme begins the next item of the list with this first bullet: it is the same one in the same column
abbrev pub goes_on : Lexeme → Lexeme → Bool
goes_on first t = cond (is_bullet t) (cond (same_junction t.kind first.kind) (nat_eq t.col first.col) false) false

-- what a symbol begins where an expression is due: an aligned list, or a prefix application
abbrev pub start_symbol : Op → Lexeme → Start
start_symbol op t =
    cond (is_bullet t) (Start.Push (Wait.ListFirst t)) (cond (is_some (range_of op Fix.Prefix)) (Start.Push (Wait.PrefixOperand t)) Start.NoStart)

-- what a lexeme begins where an expression is due, by its kind
abbrev pub start_kind : LexKind → Lexeme → Start
start_kind LexKind.Name t = Start.Hand Handed.Segment
start_kind LexKind.Number t = Start.Leaf (Form.Number t)
start_kind LexKind.Str t = Start.Leaf (Form.Text t)
start_kind (LexKind.Sym op) t = start_symbol op t
start_kind (LexKind.Mark Mark.At) t = Start.Leaf (Form.At t)
start_kind (LexKind.Mark Mark.LeftParen) t = Start.Push Wait.ParenthesesBody
start_kind (LexKind.Mark Mark.LeftBracket) t = Start.Push (Wait.SquareFirst true)
start_kind (LexKind.Mark Mark.LeftBrace) t = Start.Push Wait.BraceFirst
start_kind (LexKind.Mark Mark.LeftAngle) t = Start.Push (Wait.AngleFirst true)
start_kind (LexKind.Mark Mark.ForAll) t = Start.Push (Wait.QuantifierFirst t)
start_kind (LexKind.Mark Mark.Exists) t = Start.Push (Wait.QuantifierFirst t)
start_kind (LexKind.Mark Mark.TemporalForAll) t = Start.Push (Wait.TemporalFirst t)
start_kind (LexKind.Mark Mark.TemporalExists) t = Start.Push (Wait.TemporalFirst t)
start_kind (LexKind.Word Word.Choose) t = Start.Push Wait.ChooseFirst
start_kind (LexKind.Word Word.If) t = Start.Push Wait.IfTest
start_kind (LexKind.Word Word.Case) t = Start.Push Wait.CaseArms
start_kind (LexKind.Word Word.Let) t = Start.Push Wait.LetFirst
start_kind (LexKind.Word Word.WeakFair) t = Start.Push (Wait.FairSubscript t)
start_kind (LexKind.Word Word.StrongFair) t = Start.Push (Wait.FairSubscript t)
start_kind _ t = Start.NoStart

-- and where a subscript is due
abbrev pub subscript_kind : LexKind → Lexeme → Start
subscript_kind LexKind.Name t = Start.PushLeaf (Form.Segment t) Wait.SubscriptRead
subscript_kind (LexKind.Mark Mark.LeftParen) t = Start.Push Wait.ParenthesesBody
subscript_kind (LexKind.Mark Mark.LeftBracket) t = Start.Push (Wait.SquareFirst false)
subscript_kind (LexKind.Mark Mark.LeftBrace) t = Start.Push Wait.BraceFirst
subscript_kind (LexKind.Mark Mark.LeftAngle) t = Start.Push (Wait.AngleFirst false)
subscript_kind _ t = Start.NoStart

-- what a lexeme begins by what comes next in the frame: nothing but an operand or a subscript begins so
abbrev pub begins : Mode → Lexeme → Start
begins Mode.Operand t = start_kind t.kind t
begins Mode.Subscript t = subscript_kind t.kind t
begins Mode.Marks t = Start.NoStart
begins Mode.Child t = Start.NoStart

-- a symbol that a module may define at this place
abbrev pub defines : Fix → LexKind → Bool
defines fix (LexKind.Sym op) = is_definable op fix
defines fix _ = false

-- a symbol that may be a bare argument
abbrev pub passes : LexKind → Bool
passes (LexKind.Sym op) = is_passed op
passes _ = false

-- a symbol that may stand bare on the right of `<-`
abbrev pub is_given_kind : LexKind → Bool
is_given_kind (LexKind.Sym op) = is_given op
is_given_kind _ = false

-- an Id or a definable symbol
abbrev pub is_replaceable : LexKind → Bool
is_replaceable k = cond (is_name k) true (cond (defines Fix.Prefix k) true (cond (defines Fix.Infix k) true (defines Fix.Postfix k)))

-- the move where the test holds; else the lexeme is refused
abbrev pub if_move : Bool → MarkMove → MarkMove
if_move test move = cond test move MarkMove.Refused

-- more names may follow after a comma: not where one is chosen
abbrev pub takes_more : Binding → Bool
takes_more Binding.One = false
takes_more _ = true

-- `\in` and a set may follow
abbrev pub takes_set : Binding → Bool
takes_set Binding.Names = false
takes_set _ = true

-- the names may stand without a set
abbrev pub takes_none : Binding → Bool
takes_none Binding.Bound = false
takes_none _ = true

-- a tuple of names may stand without a set: only where one is chosen
abbrev pub takes_lone_tuple : Binding → Bool
takes_lone_tuple Binding.One = true
takes_lone_tuple _ = false

-- the places of an operator's parameter that were read
abbrev pub places_of : Wait → ℕ
places_of (Wait.Places n places) = places
places_of _ = 0

-- what a lexeme does to a frame that has no finished part beside it
abbrev pub at_mark : Wait → Lexeme → MarkMove
at_mark Wait.BraceFirst t = if_move (is_right_brace t.kind) (MarkMove.Close Form.SetEnumeration)
at_mark (Wait.AngleFirst b) t = if_move (is_right_angle t.kind) (MarkMove.Close Form.Tuple)
at_mark (Wait.Argument n) t = if_move (passes t.kind) (MarkMove.Leaf (Form.Symbol t) (Wait.ArgumentSymbol n))
at_mark (Wait.ArgumentSymbol n) t =
    cond (is_comma t.kind) (MarkMove.Shift (Wait.Argument n)) (if_move (is_right_paren t.kind) (MarkMove.Close (Form.Segment n)))
at_mark (Wait.SegmentName n) t = if_move (is_left_paren t.kind) (MarkMove.Shift (Wait.Argument n))
at_mark Wait.IdentifierBang t = if_move (is_name t.kind) (MarkMove.Hand Handed.Segment)
at_mark Wait.SubscriptRead t = if_move (is_bang t.kind) (MarkMove.Shift Wait.SubscriptBang)
at_mark Wait.SubscriptBang t = if_move (is_name t.kind) (MarkMove.Leaf (Form.Segment t) Wait.SubscriptRead)
at_mark (Wait.BindingStart b) t =
    cond (is_name t.kind) (MarkMove.Leaf (Form.Name t) (Wait.BindingRead b))
    (cond (is_left_angle t.kind) (if_move (takes_set b) (MarkMove.Shift (Wait.TupleComma b))) MarkMove.Refused)
at_mark (Wait.BindingComma b) t = if_move (is_name t.kind) (MarkMove.Leaf (Form.Name t) (Wait.BindingRead b))
at_mark (Wait.BindingRead b) t =
    cond (is_comma t.kind) (if_move (takes_more b) (MarkMove.Shift (Wait.BindingComma b)))
    (cond (is_member t.kind) (if_move (takes_set b) (MarkMove.Shift Wait.BoundSet)) MarkMove.Refused)
at_mark (Wait.TupleComma b) t = if_move (is_name t.kind) (MarkMove.Leaf (Form.Name t) (Wait.TupleRead b))
at_mark (Wait.TupleRead b) t =
    cond (is_comma t.kind) (MarkMove.Shift (Wait.TupleComma b)) (if_move (is_right_angle t.kind) (MarkMove.Shift (Wait.TupleClosed b)))
at_mark (Wait.TupleClosed b) t = if_move (is_member t.kind) (MarkMove.Shift Wait.TupleBoundSet)
at_mark Wait.FieldName t = if_move (is_name t.kind) (MarkMove.Close (Form.FieldAccess t))
at_mark Wait.RecordNext t = if_move (is_name t.kind) (MarkMove.Shift (Wait.RecordNamed t))
at_mark (Wait.RecordNamed n) t = if_move (is_maps_to t.kind) (MarkMove.Shift (Wait.RecordValue n t))
at_mark Wait.RecordSetNext t = if_move (is_name t.kind) (MarkMove.Shift (Wait.RecordSetNamed t))
at_mark (Wait.RecordSetNamed n) t = if_move (is_colon t.kind) (MarkMove.Shift (Wait.RecordSetValue n t))
at_mark Wait.UpdateBang t = if_move (is_bang t.kind) (MarkMove.Shift Wait.StepFirst)
at_mark Wait.StepFirst t =
    cond (is_dot t.kind) (MarkMove.Shift Wait.StepField) (if_move (is_left_bracket t.kind) (MarkMove.Push Wait.IndexPart))
at_mark Wait.StepNext t =
    cond (is_dot t.kind) (MarkMove.Shift Wait.StepField)
    (cond (is_left_bracket t.kind) (MarkMove.Push Wait.IndexPart) (if_move (is_equal t.kind) (MarkMove.Shift Wait.UpdateValue)))
at_mark Wait.StepField t = if_move (is_name t.kind) (MarkMove.Leaf (Form.FieldStep t) Wait.StepNext)
at_mark Wait.ArmGuard t = if_move (is_other t.kind) (MarkMove.Shift Wait.OtherArrow)
at_mark Wait.OtherArrow t = if_move (is_arrow t.kind) (MarkMove.Shift Wait.OtherBody)
at_mark Wait.LetFirst t =
    cond (is_name t.kind) (MarkMove.Hand Handed.Definition) (if_move (is_negative t.kind) (MarkMove.Hand Handed.Definition))
at_mark (Wait.DefinitionName n) t =
    cond (is_define t.kind) (MarkMove.Shift (Wait.DefinitionBody n))
    (cond (is_left_paren t.kind) (MarkMove.Shift (Wait.DefinitionParameters n))
    (cond (is_left_bracket t.kind) (MarkMove.Shift (Wait.FunctionHeadBounds n))
    (cond (defines Fix.Infix t.kind) (MarkMove.LeafOf (Form.Name n) n (Wait.InfixName t))
    (if_move (defines Fix.Postfix t.kind) (MarkMove.LeafOf (Form.Name n) n (Wait.PostfixDefine t))))))
at_mark (Wait.DefinitionDefine n) t = if_move (is_define t.kind) (MarkMove.Shift (Wait.DefinitionBody n))
at_mark (Wait.DefinitionBody n) t = if_move (is_instance t.kind) (MarkMove.Push Wait.InstanceModule)
at_mark (Wait.PrefixName s) t = if_move (is_name t.kind) (MarkMove.Leaf (Form.Name t) (Wait.PrefixDefine s))
at_mark (Wait.PrefixDefine s) t = if_move (is_define t.kind) (MarkMove.Shift (Wait.PrefixBody s))
at_mark (Wait.InfixName s) t = if_move (is_name t.kind) (MarkMove.Leaf (Form.Name t) (Wait.InfixDefine s))
at_mark (Wait.InfixDefine s) t = if_move (is_define t.kind) (MarkMove.Shift (Wait.InfixBody s))
at_mark (Wait.PostfixDefine s) t = if_move (is_define t.kind) (MarkMove.Shift (Wait.PostfixBody s))
at_mark (Wait.FunctionHeadDefine n) t = if_move (is_define t.kind) (MarkMove.Shift (Wait.FunctionHeadBody n))
at_mark Wait.InstanceModule t = if_move (is_name t.kind) (MarkMove.Shift (Wait.InstanceNamed t))
at_mark (Wait.InstanceNamed m) t = if_move (is_with t.kind) (MarkMove.Shift (Wait.Replacements m))
at_mark Wait.ReplacementStart t = if_move (is_replaceable t.kind) (MarkMove.Shift (Wait.ReplacementArrow t))
at_mark (Wait.ReplacementArrow n) t = if_move (is_left_arrow t.kind) (MarkMove.Shift (Wait.ReplacementRight n))
at_mark (Wait.ReplacementRight n) t = if_move (is_given_kind t.kind) (MarkMove.Leaf (Form.Symbol t) (Wait.ReplacementEnd n))
at_mark Wait.ParameterStart t =
    cond (is_name t.kind) (MarkMove.Shift (Wait.ParameterName t))
    (cond (is_negative t.kind) (MarkMove.Shift (Wait.PrefixPlace t)) (if_move (is_underscore t.kind) (MarkMove.Shift Wait.SymbolPlace)))
at_mark (Wait.ParameterName n) t = if_move (is_left_paren t.kind) (MarkMove.Shift (Wait.Places n 0))
at_mark (Wait.Places n places) t = if_move (is_underscore t.kind) (MarkMove.Shift (Wait.PlacesRead n (places + 1)))
at_mark (Wait.PlacesRead n places) t =
    cond (is_comma t.kind) (MarkMove.Shift (Wait.Places n places)) (if_move (is_right_paren t.kind) (MarkMove.Close (Form.OperatorParameter n places)))
at_mark (Wait.PrefixPlace s) t = if_move (is_underscore t.kind) (MarkMove.Close (Form.PrefixParameter s))
at_mark Wait.SymbolPlace t =
    cond (defines Fix.Infix t.kind) (MarkMove.Shift (Wait.InfixPlace t)) (if_move (defines Fix.Postfix t.kind) (MarkMove.Close (Form.PostfixParameter t)))
at_mark (Wait.InfixPlace s) t = if_move (is_underscore t.kind) (MarkMove.Close (Form.InfixParameter s))
at_mark _ t = MarkMove.Refused

-- a bare symbol ends where it is an argument
abbrev pub ends_symbol : LexKind → Bool
ends_symbol k = cond (is_comma k) true (is_right_paren k)

-- the form where the test holds, else none
abbrev pub when : Bool → Form → Option Form
when test form = cond test (Some form) None

-- the form of a frame that may end before a lexeme with no part to come
abbrev pub endable : Wait → Option LexKind → Option Form
endable (Wait.SegmentName n) k = Some (Form.Segment n)
endable Wait.SubscriptRead k = Some Form.Identifier
endable (Wait.InstanceNamed m) k = Some (Form.Instance m)
endable (Wait.ReplacementEnd n) k = Some (Form.Replacement n)
endable (Wait.ParameterName n) k = Some (Form.Name n)
endable (Wait.PrefixOperand t) (Some k) = when (ends_symbol k) (Form.Symbol t)
endable (Wait.ListFirst t) (Some k) = when (ends_symbol k) (Form.Symbol t)
endable (Wait.BindingRead b) (Some k) = when (cond (takes_none b) (is_colon k) false) Form.Names
endable (Wait.TupleClosed b) (Some k) = when (cond (takes_lone_tuple b) (is_colon k) false) Form.TupleNames
endable _ k = None

-- a part that closed and that its parent takes at once
abbrev pub absorbs : Wait → Option Wait
absorbs Wait.StepFirst = Some Wait.StepNext
absorbs Wait.StepNext = Some Wait.StepNext
absorbs _ = None

-- what a symbol is after an operand: infix where it can be, else postfix
abbrev pub role_of : Op → Role
role_of op =
    cond (is_some (range_of op Fix.Infix)) (Role.Symbol op Fix.Infix)
    (cond (is_some (range_of op Fix.Postfix)) (Role.Symbol op Fix.Postfix) Role.Mark)

-- what a lexeme is after an operand; a lexeme that goes on with no operand is a mark
abbrev pub role : LexKind → Role
role (LexKind.Sym op) = role_of op
role (LexKind.Mark Mark.LeftBracket) = Role.Apply
role (LexKind.Mark Mark.Dot) = Role.Select
role _ = Role.Mark

-- what the lexeme after an operand is as an edge of the form that it goes on with
abbrev pub edge_of : Role → Edge
edge_of (Role.Symbol op fix) = Operator op fix
edge_of Role.Apply = Applied
edge_of Role.Select = Selected
edge_of Role.Mark = Open

-- the right operand of an infix symbol is due, behind `\X` a factor
abbrev pub lead_infix : Op → Lexeme → Lead
lead_infix Op.Product t = Lead.Push Wait.Factor
lead_infix op t = Lead.Push (Wait.InfixOperand t)

-- what an operator makes of the operand before it
abbrev pub lead : Role → Lexeme → Lead
lead (Role.Symbol op Fix.Infix) t = lead_infix op t
lead (Role.Symbol op Fix.Postfix) t = Lead.Node (Form.Postfix t)
lead (Role.Symbol op Fix.Prefix) t = Lead.NoLead
lead Role.Apply t = Lead.Push Wait.ApplicationArgument
lead Role.Select t = Lead.Push Wait.FieldName
lead Role.Mark t = Lead.NoLead

-- `\X` takes one operand more
abbrev pub takes : Wait → Role → Bool
takes Wait.Factor (Role.Symbol Op.Product Fix.Infix) = true
takes _ _ = false

-- in a frame of no operator: it waits where an operand is due, and elsewhere the operator clashes
abbrev pub choice_in : Mode → Choice
choice_in Mode.Operand = Waits
choice_in _ = Clashes

-- what becomes of a frame at an operator after its part, by the edge of that operator
abbrev pub choice : Wait → Edge → Choice
choice (Wait.PrefixOperand t) q = choose (operator t.kind Fix.Prefix) q
choice (Wait.InfixOperand t) q = choose (operator t.kind Fix.Infix) q
choice Wait.Factor q = choose product q
choice Wait.BoundSet q = cond (meets (Operator Op.In Fix.Infix) q) Waits Clashes
choice Wait.TupleBoundSet q = cond (meets (Operator Op.In Fix.Infix) q) Waits Clashes
choice (Wait.Handing Handed.Segment t) q = Ends
choice Wait.SquareSubscript q = Ends
choice Wait.AngleSubscript q = Ends
choice w q = choice_in (mode w)

-- the shape of an identifier with these segments
abbrev pub plain_shape : Trees → Shape
plain_shape (Cons (Node (Form.Segment n) s Nil) Nil) = Shape.Plain n
plain_shape _ = Shape.Expression

-- one name without arguments
abbrev pub is_plain : Shape → Bool
is_plain (Shape.Plain n) = true
is_plain _ = false

-- of a form that nothing else tells apart
abbrev pub shape_by : Bool → Shape
shape_by true = Shape.Helper
shape_by false = Shape.Expression

-- an identifier that is one name without arguments
abbrev pub is_plain_name : Tree → Bool
is_plain_name (Node Form.Identifier s parts) = is_plain (plain_shape parts)
is_plain_name (Node _ s parts) = false

-- at least one such identifier, and nothing else
abbrev pub are_plain_names : Trees → Bool
are_plain_names Nil = false
are_plain_names (Cons x Nil) = is_plain_name x
are_plain_names (Cons x (Cons y rest)) = cond (is_plain_name x) (are_plain_names (Cons y rest)) false

-- what may turn out to be bound: a name, or a tuple of names
abbrev pub is_binder : Tree → Bool
is_binder (Node Form.Identifier s parts) = is_plain (plain_shape parts)
is_binder (Node Form.Tuple s parts) = are_plain_names parts
is_binder (Node _ s parts) = false

-- the form `x \in e` where x may be bound, else an expression like others
abbrev pub member_shape : Bool → Shape
member_shape true = Shape.Member
member_shape false = Shape.Expression

-- an infix application is told apart where it is `x \in e` and x may be bound
abbrev pub infix_shape : Lexeme → Trees → Shape
infix_shape t (Cons x (Cons y Nil)) = member_shape (cond (is_member t.kind) (is_binder x) false)
infix_shape t _ = Shape.Expression

-- what the tables tell apart of a finished part
abbrev pub shape : Tree → Shape
shape (Node Form.Identifier s parts) = plain_shape parts
shape (Node (Form.Infix t) s parts) = infix_shape t parts
shape (Node Form.Names s parts) = Shape.Names
shape (Node Form.TupleNames s parts) = Shape.Names
shape (Node Form.Bound s parts) = Shape.Bound
shape (Node Form.TupleBound s parts) = Shape.Bound
shape (Node Form.Arm s parts) = Shape.Arm
shape (Node Form.OtherArm s parts) = Shape.OtherArm
shape (Node (Form.Instance m) s parts) = Shape.Instance
shape (Node (Form.Symbol t) s parts) = Shape.Symbol
shape (Node f s parts) = shape_by (helps f)

-- the shapes of expressions; other shapes are of helper forms
abbrev pub is_expression : Shape → Bool
is_expression (Shape.Plain n) = true
is_expression Shape.Member = true
is_expression Shape.Expression = true
is_expression _ = false

-- names where an operand turns out to bind
abbrev pub name_leaf : Lexeme → Tree
name_leaf n = built (Form.Name n) Nil (n ∷ [])

-- one name without arguments becomes a name that is bound; another tree stays
abbrev pub name_of : Tree → Tree
name_of (Node Form.Identifier s (Cons (Node (Form.Segment n) s' Nil) Nil)) = name_leaf n
name_of x = x

-- the same for each part of a tuple
abbrev pub names_of : Trees → Trees
names_of Nil = Nil
names_of (Cons x xs) = Cons (name_of x) (names_of xs)

-- `x \in e` as a bound
abbrev pub bound_of : Tree → Tree → List Lexeme → Tree
bound_of (Node Form.Tuple s parts) y b = built Form.TupleBound (then (names_of parts) y) b
bound_of x y b = built Form.Bound (then (one (name_of x)) y) b

-- a part of the form `x \in e` becomes a bound; another part stays
abbrev pub as_bound : Tree → List Lexeme → Tree
as_bound (Node (Form.Infix t) s (Cons x (Cons y Nil))) b = bound_of x y b
as_bound x b = x

-- what a finished part becomes among its parent's parts, if it stays at all
abbrev pub converted : Conversion → Tree → List Lexeme → List Tree
converted Conversion.Keep x b = x ∷ []
converted Conversion.Drop x b = []
converted Conversion.AsBound x b = as_bound x b ∷ []
converted (Conversion.AsField n m) x b = built (Form.Field n) (one x) (n ∷ m ∷ b) ∷ []

-- the form of a frame that may end with an expression
abbrev pub ends_with : Wait → Option Form
ends_with (Wait.PrefixOperand t) = Some (Form.Prefix t)
ends_with (Wait.InfixOperand t) = Some (Form.Infix t)
ends_with Wait.Factor = Some Form.Product
ends_with (Wait.ListFirst t) = Some (Form.JunctionList t)
ends_with (Wait.ListItem t) = Some (Form.JunctionList t)
ends_with Wait.BoundSet = Some Form.Bound
ends_with Wait.TupleBoundSet = Some Form.TupleBound
ends_with (Wait.QuantifierBody q) = Some (Form.Quantifier q)
ends_with (Wait.BoundedBody q) = Some (Form.BoundedQuantifier q)
ends_with (Wait.TemporalBody q) = Some (Form.TemporalQuantifier q)
ends_with Wait.ChooseBody = Some Form.Choose
ends_with Wait.BoundedChooseBody = Some Form.BoundedChoose
ends_with Wait.SquareSubscript = Some Form.SquareAction
ends_with Wait.AngleSubscript = Some Form.AngleAction
ends_with Wait.IfElse = Some Form.IfThenElse
ends_with Wait.ArmBody = Some Form.Arm
ends_with Wait.OtherBody = Some Form.OtherArm
ends_with Wait.UpdateValue = Some Form.Update
ends_with Wait.LetBody = Some Form.Let
ends_with (Wait.DefinitionBody n) = Some (Form.OperatorDefinition n)
ends_with (Wait.PrefixBody t) = Some (Form.PrefixDefinition t)
ends_with (Wait.InfixBody t) = Some (Form.InfixDefinition t)
ends_with (Wait.PostfixBody t) = Some (Form.PostfixDefinition t)
ends_with (Wait.FunctionHeadBody n) = Some (Form.FunctionDefinition n)
ends_with (Wait.ReplacementRight n) = Some (Form.Replacement n)
ends_with _ = None

-- and with another part
abbrev pub ends_with_part : Wait → Shape → Option Form
ends_with_part (Wait.Handing Handed.Segment t) Shape.Helper = Some Form.Identifier
ends_with_part Wait.CaseArms Shape.Arm = Some Form.Case
ends_with_part Wait.CaseArms Shape.OtherArm = Some Form.Case
ends_with_part (Wait.DefinitionBody n) Shape.Instance = Some (Form.ModuleDefinition n)
ends_with_part (Wait.Replacements m) Shape.Helper = Some (Form.Instance m)
ends_with_part _ _ = None

-- the form of a frame that may end with a part of this shape
abbrev pub finishes : Wait → Shape → Option Form
finishes w sh = cond (is_expression sh) (ends_with w) (ends_with_part w sh)

-- the move where the test holds; else the lexeme does nothing to the frame
abbrev pub if_goes : Bool → PartMove → PartMove
if_goes test move = cond test move PartMove.Refused

-- the frame takes the part as it is, and goes on behind the lexeme
abbrev pub keeps : Wait → PartMove
keeps w = PartMove.Goes w Conversion.Keep

-- the frame takes the part as it is, and ends with the lexeme
abbrev pub done : Form → PartMove
done form = PartMove.Done form Conversion.Keep

-- a part goes on after a comma, and the form closes with a mark
abbrev pub parted : LexKind → Wait → Bool → Form → PartMove
parted k w closes form = cond (is_comma k) (keeps w) (if_goes closes (done form))

-- `:` after the first part in braces: a filter behind `x \in e`, else the image by bounds
abbrev pub after_brace : Shape → LexKind → PartMove
after_brace Shape.Member k = if_goes (is_colon k) (PartMove.Goes Wait.FilterBody Conversion.AsBound)
after_brace _ k = if_goes (is_colon k) (keeps Wait.ImageBounds)

-- after the first part in brackets, of any shape: a function set, an action where it may be one, EXCEPT
abbrev pub after_square : Bool → Lexeme → PartMove
after_square b t =
    cond (is_arrow t.kind) (keeps Wait.FunctionTo)
    (cond (is_right_bracket_subscript t.kind) (if_goes b (keeps Wait.SquareSubscript)) (if_goes (is_except t.kind) (keeps Wait.ExceptUpdates)))

-- after a first part in brackets that may also be the name of a field, or begin the bounds of a function
abbrev pub in_square : Bool → Shape → Lexeme → PartMove
in_square b (Shape.Plain n) t =
    cond (is_comma t.kind) (PartMove.Convert b)
    (cond (is_maps_to t.kind) (PartMove.Goes (Wait.RecordValue n t) Conversion.Drop)
    (cond (is_colon t.kind) (PartMove.Goes (Wait.RecordSetValue n t) Conversion.Drop) (after_square b t)))
in_square b Shape.Member t =
    cond (is_comma t.kind) (PartMove.Goes Wait.FunctionBounds Conversion.AsBound)
    (cond (is_maps_to t.kind) (PartMove.Goes Wait.FunctionBody Conversion.AsBound) (after_square b t))
in_square b _ t = after_square b t

-- what a lexeme that is no operator does to a frame after an expression
abbrev pub after_expression : Wait → Shape → Lexeme → PartMove
after_expression Wait.ParenthesesBody sh t = if_goes (is_right_paren t.kind) (done Form.Parentheses)
after_expression (Wait.Argument n) sh t = parted t.kind (Wait.Argument n) (is_right_paren t.kind) (Form.Segment n)
after_expression Wait.BraceFirst sh t =
    cond (is_right_brace t.kind) (done Form.SetEnumeration) (cond (is_comma t.kind) (keeps Wait.BraceNext) (after_brace sh t.kind))
after_expression Wait.BraceNext sh t = parted t.kind Wait.BraceNext (is_right_brace t.kind) Form.SetEnumeration
after_expression Wait.FilterBody sh t = if_goes (is_right_brace t.kind) (done Form.SetFilter)
after_expression Wait.ApplicationArgument sh t = parted t.kind Wait.ApplicationArgument (is_right_bracket t.kind) Form.Application
after_expression (Wait.SquareFirst b) sh t = in_square b sh t
after_expression Wait.FunctionTo sh t = if_goes (is_right_bracket t.kind) (done Form.FunctionSet)
after_expression Wait.FunctionBody sh t = if_goes (is_right_bracket t.kind) (done Form.FunctionConstructor)
after_expression (Wait.RecordValue n m) sh t =
    cond (is_comma t.kind) (PartMove.Goes Wait.RecordNext (Conversion.AsField n m))
    (if_goes (is_right_bracket t.kind) (PartMove.Done Form.Record (Conversion.AsField n m)))
after_expression (Wait.RecordSetValue n m) sh t =
    cond (is_comma t.kind) (PartMove.Goes Wait.RecordSetNext (Conversion.AsField n m))
    (if_goes (is_right_bracket t.kind) (PartMove.Done Form.RecordSet (Conversion.AsField n m)))
after_expression Wait.IndexPart sh t = parted t.kind Wait.IndexPart (is_right_bracket t.kind) Form.IndexStep
after_expression (Wait.AngleFirst b) sh t =
    cond (is_comma t.kind) (keeps Wait.AngleNext)
    (cond (is_right_angle t.kind) (done Form.Tuple) (cond (is_right_angle_subscript t.kind) (if_goes b (keeps Wait.AngleSubscript)) PartMove.Refused))
after_expression Wait.AngleNext sh t = parted t.kind Wait.AngleNext (is_right_angle t.kind) Form.Tuple
after_expression (Wait.FairSubscript w) sh t = if_goes (is_left_paren t.kind) (keeps (Wait.FairAction w))
after_expression (Wait.FairAction w) sh t = if_goes (is_right_paren t.kind) (done (Form.Fairness w))
after_expression Wait.IfTest sh t = if_goes (is_then t.kind) (keeps Wait.IfThen)
after_expression Wait.IfThen sh t = if_goes (is_else t.kind) (keeps Wait.IfElse)
after_expression Wait.ArmGuard sh t = if_goes (is_arrow t.kind) (keeps Wait.ArmBody)
after_expression _ sh t = PartMove.Refused

-- the next part is due after a comma, and the move is made where the parts are closed
abbrev pub after_bound : Wait → Bool → PartMove → LexKind → PartMove
after_bound w closes move k = cond (is_comma k) (keeps w) (if_goes closes move)

-- and after another part
abbrev pub after_part : Wait → Shape → Lexeme → PartMove
after_part (Wait.Argument n) Shape.Symbol t = parted t.kind (Wait.Argument n) (is_right_paren t.kind) (Form.Segment n)
after_part (Wait.Handing Handed.Segment n) Shape.Helper t = if_goes (is_bang t.kind) (keeps Wait.IdentifierBang)
after_part (Wait.QuantifierFirst q) Shape.Names t = if_goes (is_colon t.kind) (keeps (Wait.QuantifierBody q))
after_part (Wait.QuantifierFirst q) Shape.Bound t = after_bound (Wait.QuantifierNext q) (is_colon t.kind) (keeps (Wait.BoundedBody q)) t.kind
after_part (Wait.QuantifierNext q) Shape.Bound t = after_bound (Wait.QuantifierNext q) (is_colon t.kind) (keeps (Wait.BoundedBody q)) t.kind
after_part (Wait.TemporalFirst q) Shape.Names t = if_goes (is_colon t.kind) (keeps (Wait.TemporalBody q))
after_part Wait.ChooseFirst Shape.Names t = if_goes (is_colon t.kind) (keeps Wait.ChooseBody)
after_part Wait.ChooseFirst Shape.Bound t = if_goes (is_colon t.kind) (keeps Wait.BoundedChooseBody)
after_part Wait.WholeBounds Shape.Bound t = if_goes (is_comma t.kind) (keeps Wait.WholeBounds)
after_part Wait.ImageBounds Shape.Bound t = after_bound Wait.ImageBounds (is_right_brace t.kind) (done Form.SetImage) t.kind
after_part (Wait.FunctionNames b) Shape.Bound t = after_bound Wait.FunctionBounds (is_maps_to t.kind) (keeps Wait.FunctionBody) t.kind
after_part Wait.FunctionBounds Shape.Bound t = after_bound Wait.FunctionBounds (is_maps_to t.kind) (keeps Wait.FunctionBody) t.kind
after_part Wait.ExceptUpdates Shape.Helper t = parted t.kind Wait.ExceptUpdates (is_right_bracket t.kind) Form.Except
after_part Wait.CaseArms Shape.Arm t = if_goes (is_always t.kind) (keeps Wait.CaseArms)
after_part (Wait.Handing Handed.Definition n) Shape.Helper t =
    cond (is_name t.kind) (PartMove.Hand Handed.Definition)
    (cond (is_negative t.kind) (PartMove.Hand Handed.Definition) (if_goes (is_in_word t.kind) (keeps Wait.LetBody)))
after_part (Wait.DefinitionParameters n) Shape.Helper t = after_bound (Wait.DefinitionParameters n) (is_right_paren t.kind) (keeps (Wait.DefinitionDefine n)) t.kind
after_part (Wait.FunctionHeadBounds n) Shape.Bound t = after_bound (Wait.FunctionHeadBounds n) (is_right_bracket t.kind) (keeps (Wait.FunctionHeadDefine n)) t.kind
after_part (Wait.Replacements m) Shape.Helper t = if_goes (is_comma t.kind) (keeps (Wait.Replacements m))
after_part _ sh t = PartMove.Refused

-- the frame ends before the lexeme as this form, if it may end
abbrev pub finish_by : Option Form → PartMove
finish_by None = PartMove.Refused
finish_by (Some form) = PartMove.Finish form

-- a frame goes on where it can, else it ends where it may
abbrev pub or_finish : PartMove → Option Form → PartMove
or_finish PartMove.Refused o = finish_by o
or_finish move o = move

-- what a lexeme that is no operator does to a frame with a finished part beside it
abbrev pub at_part : Wait → Shape → Lexeme → PartMove
at_part w sh t = or_finish (cond (is_expression sh) (after_expression w sh t) (after_part w sh t)) (finishes w sh)
