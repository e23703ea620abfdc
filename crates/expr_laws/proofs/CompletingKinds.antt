-- Kinds of parts: which kind each frame makes, and which it takes.
use Rattle.std.proofs.Common.{◌≡◌, Bool, true, false, refl}
use Rattle.tla_tree.specs.declared.form.Form.{Form}
use Rattle.tla_tree.specs.Forms.{helps}
use Rattle.tla_tree.specs.Syntax.{Trees, Node, Nil, Cons}
use Rattle.expr_grammar.specs.declared.wait.Binding.{Binding}
use Rattle.expr_grammar.specs.declared.wait.Handed.TheVariants as Handed
use Rattle.expr_grammar.specs.declared.wait.Mode.{Mode}
use Rattle.expr_grammar.specs.declared.wait.Shape.{Shape}
use Rattle.expr_grammar.specs.declared.wait.Wait.{Wait}
use Rattle.expr_grammar.specs.Tables.{mode, plain_shape, infix_shape, shape_by, shape, is_expression}
use Rattle.expr_laws.proofs.Starting.{plain-expression, member-expression}

pub data Kind : Type 0 where
  -- the bottom of each goal, and what no frame takes
  Whole : Kind
  WholeBounds : Kind
  Never : Kind
  Expression : Kind
  -- what a definition may have on its right: an expression or an instance
  Body : Kind
  Segment : Kind
  -- by what may be bound; a bound with its set is one where names without a set are taken too
  Names : Kind
  Either : Kind
  Bound : Kind
  One : Kind
  Update : Kind
  Step : Kind
  Arm : Kind
  Definition : Kind
  Instance : Kind
  Replacement : Kind
  Parameter : Kind

-- what the machine reads: an expression, or bounds alone
pub data Goal : Type 0 where
  ForExpression : Goal
  ForBounds : Goal

-- the kind of the bottom frame
abbrev pub bottom : Goal → Kind
bottom ForExpression = Whole
bottom ForBounds = WholeBounds

abbrev pub binds : Binding → Kind
binds Binding.Names = Names
binds Binding.Either = Either
binds Binding.Bound = Bound
binds Binding.One = One

-- the kind of part that a frame makes in the end
abbrev pub makes : Wait → Kind
makes Wait.Whole = Whole
makes Wait.WholeBounds = WholeBounds
makes (Wait.SegmentName n) = Segment
makes (Wait.Argument n) = Segment
makes (Wait.ArgumentSymbol n) = Segment
makes (Wait.BindingStart b) = binds b
makes (Wait.BindingComma b) = binds b
makes (Wait.BindingRead b) = binds b
makes (Wait.TupleComma b) = Bound
makes (Wait.TupleRead b) = Bound
makes (Wait.TupleClosed b) = Bound
makes Wait.BoundSet = Bound
makes Wait.TupleBoundSet = Bound
makes Wait.UpdateBang = Update
makes Wait.StepFirst = Update
makes Wait.StepNext = Update
makes Wait.StepField = Update
makes Wait.UpdateValue = Update
makes Wait.IndexPart = Step
makes Wait.ArmGuard = Arm
makes Wait.ArmBody = Arm
makes Wait.OtherArrow = Arm
makes Wait.OtherBody = Arm
makes (Wait.DefinitionName n) = Definition
makes (Wait.DefinitionParameters n) = Definition
makes (Wait.DefinitionDefine n) = Definition
makes (Wait.DefinitionBody n) = Definition
makes (Wait.PrefixName s) = Definition
makes (Wait.PrefixDefine s) = Definition
makes (Wait.PrefixBody s) = Definition
makes (Wait.InfixName s) = Definition
makes (Wait.InfixDefine s) = Definition
makes (Wait.InfixBody s) = Definition
makes (Wait.PostfixDefine s) = Definition
makes (Wait.PostfixBody s) = Definition
makes (Wait.FunctionHeadBounds n) = Definition
makes (Wait.FunctionHeadDefine n) = Definition
makes (Wait.FunctionHeadBody n) = Definition
makes Wait.InstanceModule = Instance
makes (Wait.InstanceNamed m) = Instance
makes (Wait.Replacements m) = Instance
makes Wait.ReplacementStart = Replacement
makes (Wait.ReplacementArrow n) = Replacement
makes (Wait.ReplacementRight n) = Replacement
makes (Wait.ReplacementEnd n) = Replacement
makes Wait.ParameterStart = Parameter
makes (Wait.ParameterName n) = Parameter
makes (Wait.Places n places) = Parameter
makes (Wait.PlacesRead n places) = Parameter
makes (Wait.PrefixPlace s) = Parameter
makes Wait.SymbolPlace = Parameter
makes (Wait.InfixPlace s) = Parameter
makes _ = Expression

abbrev pub wanted_in : Mode → Kind
wanted_in Mode.Operand = Expression
wanted_in Mode.Subscript = Expression
wanted_in _ = Never

-- the kind of part that a frame takes
abbrev pub wanted : Wait → Kind
wanted Wait.WholeBounds = Bound
wanted (Wait.Handing Handed.Segment t) = Segment
wanted (Wait.Handing Handed.Definition t) = Definition
wanted (Wait.QuantifierFirst q) = Either
wanted (Wait.QuantifierNext q) = Bound
wanted (Wait.TemporalFirst q) = Names
wanted Wait.ChooseFirst = One
wanted Wait.ImageBounds = Bound
wanted (Wait.FunctionNames b) = Bound
wanted Wait.FunctionBounds = Bound
wanted Wait.ExceptUpdates = Update
wanted Wait.StepFirst = Step
wanted Wait.StepNext = Step
wanted Wait.CaseArms = Arm
wanted (Wait.DefinitionParameters n) = Parameter
wanted (Wait.DefinitionBody n) = Body
wanted (Wait.FunctionHeadBounds n) = Bound
wanted (Wait.Replacements m) = Replacement
wanted w = wanted_in (mode w)

-- whether a frame that takes the first kind takes the second
abbrev pub meets : Kind → Kind → Bool
meets Expression Expression = true
meets Body Expression = true
meets Body Instance = true
meets Segment Segment = true
meets Names Names = true
meets Either Either = true
meets Either Bound = true
meets Bound Bound = true
meets One One = true
meets One Bound = true
meets Update Update = true
meets Step Step = true
meets Arm Arm = true
meets Definition Definition = true
meets Replacement Replacement = true
meets Parameter Parameter = true
meets _ _ = false

-- which shapes a part of a kind may have
abbrev pub shows : Kind → Shape → Bool
shows Expression sh = is_expression sh
shows Body Shape.Instance = true
shows Body sh = is_expression sh
shows Segment Shape.Helper = true
shows Names Shape.Names = true
shows Either Shape.Names = true
shows Either Shape.Bound = true
shows Bound Shape.Bound = true
shows One Shape.Names = true
shows One Shape.Bound = true
shows Update Shape.Helper = true
shows Step Shape.Helper = true
shows Arm Shape.Arm = true
shows Arm Shape.OtherArm = true
shows Definition Shape.Helper = true
shows Instance Shape.Instance = true
shows Replacement Shape.Helper = true
shows Parameter Shape.Helper = true
shows _ sh = false

-- what the form of a part says of its shape
abbrev pub rough : Form → Shape
rough Form.Names = Shape.Names
rough Form.TupleNames = Shape.Names
rough Form.Bound = Shape.Bound
rough Form.TupleBound = Shape.Bound
rough Form.Arm = Shape.Arm
rough Form.OtherArm = Shape.OtherArm
rough (Form.Instance m) = Shape.Instance
rough (Form.Symbol t) = Shape.Symbol
rough f = shape_by (helps f)

shows-expression : (k : Kind) (sh : Shape) → is_expression sh ≡ true → shows k sh ≡ shows k Shape.Expression
shows-expression Expression (Shape.Plain n) h = refl
shows-expression Expression Shape.Member h = refl
shows-expression Expression Shape.Expression h = refl
shows-expression Body (Shape.Plain n) h = refl
shows-expression Body Shape.Member h = refl
shows-expression Body Shape.Expression h = refl
shows-expression k (Shape.Plain n) h = by-kind k
  where
    by-kind : (k : Kind) → shows k (Shape.Plain n) ≡ shows k Shape.Expression
    by-kind Expression = refl
    by-kind _ = refl
shows-expression k Shape.Member h = by-kind k
  where
    by-kind : (k : Kind) → shows k Shape.Member ≡ shows k Shape.Expression
    by-kind Expression = refl
    by-kind _ = refl
shows-expression k Shape.Expression h = refl
shows-expression k _ h = cc

infix-expression : (t : _) (ps : Trees) → is_expression (infix_shape t ps) ≡ true
infix-expression t (Cons x (Cons y Nil)) = member-expression _
infix-expression t _ = refl

pub shows-form : (k : Kind) (f : Form) (s : _) (ps : Trees) → shows k (shape (Node f s ps)) ≡ shows k (rough f)
shows-form k Form.Identifier s ps = shows-expression k (plain_shape ps) (plain-expression ps)
shows-form k (Form.Infix t) s ps = shows-expression k (infix_shape t ps) (infix-expression t ps)
shows-form k _ s ps = refl

pub meets-shows : (k l : Kind) (sh : Shape) → meets k l ≡ true → shows l sh ≡ true → shows k sh ≡ true
meets-shows Expression Expression sh h j = j
meets-shows Body Expression (Shape.Plain n) h j = refl
meets-shows Body Expression Shape.Member h j = refl
meets-shows Body Expression Shape.Expression h j = refl
meets-shows Body Instance Shape.Instance h j = refl
meets-shows Segment Segment sh h j = j
meets-shows Names Names sh h j = j
meets-shows Either Either sh h j = j
meets-shows Either Bound Shape.Bound h j = refl
meets-shows Bound Bound sh h j = j
meets-shows One One sh h j = j
meets-shows One Bound Shape.Bound h j = refl
meets-shows Update Update sh h j = j
meets-shows Step Step sh h j = j
meets-shows Arm Arm sh h j = j
meets-shows Definition Definition sh h j = j
meets-shows Replacement Replacement sh h j = j
meets-shows Parameter Parameter sh h j = j
meets-shows _ _ sh h j = cc

-- what takes another kind takes no step
pub meets-no_step : (j k : Kind) → meets j k ≡ true → meets Kind.Step k ≡ false → meets j Kind.Step ≡ false
meets-no_step Kind.Step k h n = cc
meets-no_step _ k h n = refl

-- no frame takes what the bottom frame makes, and no part is of its kind
pub meets-bottom : (goal : Goal) (k : Kind) → meets k (bottom goal) ≡ false
meets-bottom ForExpression Kind.Whole = refl
meets-bottom ForExpression _ = refl
meets-bottom ForBounds Kind.Whole = refl
meets-bottom ForBounds _ = refl

pub bottom-shows : (goal : Goal) (sh : Shape) → shows (bottom goal) sh ≡ true → ⊥
bottom-shows ForExpression sh h = cc
bottom-shows ForBounds sh h = cc
