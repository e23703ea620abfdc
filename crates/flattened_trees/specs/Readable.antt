-- When a tree of an accepted text can be read without its contexts: each name means what its context has for it, arguments are what
-- their places take, and parts stand as they are written.
use Rattle.std.specs.Prelude.{◌≡◌, ℕ, suc, true, false, List, [], ◌∷◌, Option, Some, None, drop, is_some, replicate, length, slice_get}
use Rattle.tla_symbols.specs.declared.lexeme.LexKind.TheVariants as LexKind
use Rattle.tla_symbols.specs.declared.lexeme.Lexeme.{Lexeme}
use Rattle.tla_symbols.specs.declared.level.Rule.{Rule}
use Rattle.tla_symbols.specs.declared.op.Op.TheVariants as Op
use Rattle.tla_symbols.specs.declared.place.Fix.TheVariants.{Prefix, Infix, Postfix}
use Rattle.tla_tree.specs.declared.form.Form.TheVariants as Form
use Rattle.tla_tree.specs.Forms.{helps}
use Rattle.tla_tree.specs.Syntax.{Tree, Trees, Node, Nil, Cons}
use Rattle.tla_model.specs.declared.entity.Entity.TheVariants as entity
use Rattle.tla_model.specs.declared.names.Meaning.TheVariants.{BuiltIn, Declared}
use Rattle.tla_model.specs.Tables.{Named, Word, Symbol, is_among}
use Rattle.tla_model.specs.Entities.{Entity, Meaning, Text, Nothing, Operator, Function, Module, declaration, defines, name_of}
use Rattle.tla_model.specs.Contexts.{Context, meaning_of}
use Rattle.tla_model.specs.Lexemes.{spelled}
use Rattle.tla_model.specs.Scopes.{all_grouped, behind, is_free, prefixed, reserved, scope, itself as as_spelled}
use Rattle.module_model.specs.Exports.{Behind, Exports, Known, behind_instance, behind_meaning, entry_of, onward}
use Rattle.module_model.specs.Instances.{instance_among, left_sides}
use Rattle.level_text.specs.FormRules.{form_rule, symbol_rule}
use Rattle.tree_kinds.specs.Standing.{Outside}
use Rattle.tree_kinds.specs.Expanding.{Outer, Helper, Whole, bare_rule, module_of, part_of, places_at, stands_outside, symbol_places}
use Rattle.flat_trees.specs.Names.{order_by}
use Rattle.flat_trees.specs.Layouts.{order_of}
use Rattle.flattened_trees.specs.Leads.{FlatFace}
use Rattle.flattened_trees.specs.NodeForms.{bare_places, path_places}

-- the orders of what an entity takes
abbrev pub entity_orders : Entity → List ℕ
entity_orders (entity.Constant places) = replicate places 0
entity_orders (entity.Parameter places) = replicate places 0
entity_orders (entity.Definition orders) = orders
entity_orders (entity.Instance orders) = orders
entity_orders e = []

-- the same of what a name means
abbrev pub orders_of : Meaning → List ℕ
orders_of BuiltIn = []
orders_of (Declared e callee) = entity_orders e

-- what a name means is an instance with parameters of these orders
abbrev pub IsInstanceOf : Meaning → List ℕ → Type 0
IsInstanceOf (Declared (entity.Instance is) callee) orders = is ≡ orders
IsInstanceOf meaning orders = ⊥

-- it is none
abbrev pub IsNoInstance : Meaning → Type 0
IsNoInstance (Declared (entity.Instance is) callee) = ⊥
IsNoInstance meaning = Unit {0}

-- a name can stand bare: as an expression, or as an operator on expressions
abbrev pub CanStandBare : Meaning → Type 0
CanStandBare meaning = IsNoInstance meaning × (orders_of meaning ≡ replicate (length (orders_of meaning)) 0)

-- a name can stand for a parameter of this meaning
abbrev pub CanStandFor : Meaning → Meaning → Type 0
CanStandFor parameter meaning = CanStandBare meaning × (length (orders_of meaning) ≡ order_of parameter)

-- the name of the first segment of a path
abbrev pub first_name : List ℕ → Trees → Named
first_name source (Cons (Node (Form.Segment l) s arguments) rest) = name_of source l
first_name source _ = Word []

-- ---- parts as they are written

-- how many there are
abbrev pub count : Trees → ℕ
count Nil = 0
count (Cons x rest) = suc (count rest)

-- one expression, behind parts that are none and define nothing
abbrev pub EndsWhole : Trees → Type 0
EndsWhole Nil = ⊥
EndsWhole (Cons (Node form s parts) rest) = elim (part_of form) [
  | Whole ↦ rest ≡ Nil
  | Outer ↦ EndsWhole rest
  | Helper ↦ (parts ≡ Nil) × (defines form ≡ Nothing) × EndsWhole rest
]

-- none of these parts stands outside
abbrev pub AreInside : Trees → Type 0
AreInside Nil = Unit {0}
AreInside (Cons (Node form s parts) rest) = (stands_outside form ≡ false) × AreInside rest

-- these are updates, each of which ends with its right side
abbrev pub AreUpdatesWritten : Trees → Type 0
AreUpdatesWritten Nil = Unit {0}
AreUpdatesWritten (Cons (Node form s parts) rest) = (part_of form ≡ Helper) × EndsWhole parts × AreUpdatesWritten rest

-- ---- symbols that stand in

-- these stand in, in their order, for the parameters that are not among the left sides
abbrev pub AreImplied : Context → List Named → Exports → List Meaning → Type 0
AreImplied context written [] symbols = symbols ≡ []
AreImplied context written (parameter ∷ parameters) symbols = elim (is_among written parameter.0) [
  | true ↦ AreImplied context written parameters symbols
  | false ↦ (meaning : Meaning) × (slice_get symbols 0 ≡ Some meaning) × (meaning_of context parameter.0 ≡ Some meaning)
      × CanStandFor parameter.1 meaning × AreImplied context written parameters (drop 1 symbols)
]

-- the order of the parameter of a name, if there is one
abbrev pub parameter_order : Option Meaning → Option ℕ
parameter_order None = None
parameter_order (Some parameter) = Some (order_of parameter)

-- ---- trees

module _ (text : Text) (known : Known) (named : List ℕ → Outside) (means : ℕ → Option Meaning) (implied : ℕ → List Meaning) (faces : List ℕ → FlatFace) where
  -- the name that a lexeme is means this, there and in the context
  pub record IsMeaning (context : Context) (l : Lexeme) (name : Named) (meaning : Meaning) : Type 0 where
    pub here : means l.span.start ≡ Some meaning
    pub there : meaning_of context name ≡ Some meaning

  -- the module of a name is to instances what it is to those that name it
  pub record IsFaceFor (l : Lexeme) : Type 0 where
    pub parameters : (faces (spelled text.source l)).parameters ≡ (module_of text known named l).view.parameters
    pub constant : (faces (spelled text.source l)).is_constant ≡ (module_of text known named l).is_constant

  -- behind the instance of a name stands what the module has that it is of
  abbrev pub IsKnownBehind : Lexeme → Option Lexeme → Type 0
  IsKnownBehind own None = ⊥
  IsKnownBehind own (Some l) = known (declaration text own) ≡ Some (behind_instance (module_of text known named l).view)

  -- the first name of a path means this
  abbrev pub IsReadableFirst : Context → Meaning → Trees → Type 0
  IsReadableFirst context meaning (Cons (Node (Form.Segment l) s arguments) rest) = IsMeaning context l (name_of text.source l) meaning
  IsReadableFirst context meaning _ = ⊥

  -- a bare symbol is built in, or means something
  abbrev pub IsReadableBare : Context → Lexeme → LexKind.the_data → Option Rule → Type 0
  IsReadableBare context l kind (Some rule) = Unit {0}
  IsReadableBare context l (LexKind.Sym op) None =
      (is_free op ≡ true) × ((meaning : Meaning) × IsMeaning context l (Symbol op) meaning × CanStandBare meaning) × (is_some (symbol_places context (LexKind.Sym op)) ≡ true)
  IsReadableBare context l kind None = ⊥

  -- a symbol on operands is built in, or means something; it takes operands of these orders
  abbrev pub IsOperator : Context → Lexeme → (Op.the_data → Op.the_data) → LexKind.the_data → Option Rule → Trees → List ℕ → Type 0
  IsOperator context l which kind (Some rule) parts orders = orders ≡ replicate (count parts) 0
  IsOperator context l which (LexKind.Sym op) None (Cons x parts) orders =
      (is_free (which op) ≡ true)
      × ((meaning : Meaning) × IsMeaning context l (Symbol (which op)) meaning × CanStandBare meaning × (orders ≡ orders_of meaning))
  IsOperator context l which kind None parts orders = ⊥

  abbrev mutual
    -- a tree can be read
    pub IsReadable : Context → Tree → Type 0
    IsReadable context (Node Form.Identifier s parts) =
        ((meaning : Meaning) × IsReadableFirst context meaning parts × IsReadablePath context (Some meaning) (behind_meaning known (Some meaning)) parts)
        × (path_places text.source means parts ≡ places_at text known named context (Node Form.Identifier s parts))
    IsReadable context (Node (Form.Number l) s parts) = parts ≡ Nil
    IsReadable context (Node (Form.Text l) s parts) = parts ≡ Nil
    IsReadable context (Node (Form.At l) s parts) = parts ≡ Nil
    IsReadable context (Node (Form.Symbol l) s parts) =
        (parts ≡ Nil) × (bare_places text.source means l l.kind ≡ symbol_places context l.kind) × IsReadableBare context l l.kind (bare_rule l.kind)
    IsReadable context (Node (Form.Prefix l) s parts) = (orders : List ℕ) × IsOperator context l prefixed l.kind (symbol_rule Prefix l.kind) parts orders × AreArguments context orders parts
    IsReadable context (Node (Form.Infix l) s parts) = (orders : List ℕ) × IsOperator context l as_spelled l.kind (symbol_rule Infix l.kind) parts orders × AreArguments context orders parts
    IsReadable context (Node (Form.Postfix l) s parts) = (orders : List ℕ) × IsOperator context l as_spelled l.kind (symbol_rule Postfix l.kind) parts orders × AreArguments context orders parts
    IsReadable context (Node Form.Let s parts) = IsReadableChain context parts
    IsReadable context (Node Form.Except s Nil) = ⊥
    IsReadable context (Node Form.Except s (Cons (Node form at parts) updates)) =
        (helps form ≡ false) × (places_at text known named context (Node form at parts) ≡ None) × IsReadable context (Node form at parts)
        × AreUpdatesWritten updates × AreReadable context context updates
    IsReadable context (Node Form.Parentheses s parts) = EndsWhole parts × AreInside parts × AreReadable context context parts
    IsReadable context (Node (Form.BoundedQuantifier l) s parts) =
        EndsWhole parts × AreReadable (reserved text context (Form.BoundedQuantifier l) parts) (scope text context (Form.BoundedQuantifier l) parts) parts
    IsReadable context (Node form s parts) = (is_some (form_rule form) ≡ true) × AreReadable (reserved text context form parts) (scope text context form parts) parts

    -- so can the expressions that parts are made of, by the contexts outside and inside of a scope
    pub AreReadable : Context → Context → Trees → Type 0
    AreReadable outside context Nil = Unit {0}
    AreReadable outside context (Cons (Node form s parts) rest) =
        (elim (part_of form) [
          | Outer ↦ AreReadable outside outside parts
          | Helper ↦ AreReadable context context parts
          | Whole ↦ (places_at text known named context (Node form s parts) ≡ None) × IsReadable context (Node form s parts)
        ])
        × AreReadable outside context rest

    -- arguments are of these orders
    pub AreArguments : Context → List ℕ → Trees → Type 0
    AreArguments context [] Nil = Unit {0}
    AreArguments context (order ∷ orders) (Cons (Node form s parts) rest) =
        (part_of form ≡ Whole) × (order_by (places_at text known named context (Node form s parts)) ≡ order) × IsReadable context (Node form s parts)
        × AreArguments context orders rest
    AreArguments context _ _ = ⊥

    -- a path can be read, whose first name means this, and behind which this stands
    pub IsReadablePath : Context → Option Meaning → Behind → Trees → Type 0
    IsReadablePath context (Some meaning) held (Cons (Node (Form.Segment l) s Nil) Nil) = CanStandBare meaning
    IsReadablePath context (Some meaning) held (Cons (Node (Form.Segment l) s (Cons x arguments)) Nil) =
        IsNoInstance meaning × AreArguments context (orders_of meaning) (Cons x arguments)
    IsReadablePath context (Some meaning) held (Cons (Node (Form.Segment l) s arguments) (Cons x rest)) =
        IsInstanceOf meaning (orders_of meaning) × AreArguments context (orders_of meaning) arguments
        × IsReadablePath context (entry_of (held []) (first_name text.source (Cons x rest))) (onward held (first_name text.source (Cons x rest))) (Cons x rest)
    IsReadablePath context meaning held _ = ⊥

    -- definitions, and one body behind them
    pub IsReadableChain : Context → Trees → Type 0
    IsReadableChain context Nil = ⊥
    IsReadableChain context (Cons (Node form s parts) rest) = elim (helps form) [
      | true ↦ IsReadableDefinition context (Node form s parts) × IsReadableChain (behind text context (Node form s parts)) rest
      | false ↦ (part_of form ≡ Whole) × (places_at text known named context (Node form s parts) ≡ None) × IsReadable context (Node form s parts) × (rest ≡ Nil)
    ]

    -- a definition
    pub IsReadableDefinition : Context → Tree → Type 0
    IsReadableDefinition context (Node form s parts) = elim (defines form) [
      | Nothing ↦ ⊥
      | Operator l ↦ EndsWhole parts × AreInside parts × AreReadable (reserved text context form parts) (scope text context form parts) parts
      | Function l ↦ AreReadable (reserved text context form parts) (scope text context form parts) parts
      | Module l ↦ (all_grouped parts ≡ []) × IsKnownBehind l (instance_among parts) × IsReadableThrough (scope text context form parts) parts
    ]

    -- the first INSTANCE among these
    pub IsReadableThrough : Context → Trees → Type 0
    IsReadableThrough context Nil = ⊥
    IsReadableThrough context (Cons (Node (Form.Instance l) s rights) rest) =
        IsFaceFor l × AreImplied context (left_sides text.source rights) (module_of text known named l).view.parameters (implied l.span.start)
        × AreReadableRights context (module_of text known named l).view.parameters [] rights
    IsReadableThrough context (Cons x rest) = IsReadableThrough context rest

    -- right sides of replacements, each for one of these parameters, none twice
    pub AreReadableRights : Context → Exports → List Named → Trees → Type 0
    AreReadableRights context parameters before Nil = Unit {0}
    AreReadableRights context parameters before (Cons (Node (Form.Replacement l) s (Cons (Node form at parts) Nil)) rest) =
        (part_of form ≡ Whole) × (is_among before (name_of text.source l) ≡ false)
        × (parameter_order (entry_of parameters (name_of text.source l)) ≡ Some (order_by (places_at text known named context (Node form at parts))))
        × IsReadable context (Node form at parts) × AreReadableRights context parameters (name_of text.source l ∷ before) rest
    AreReadableRights context parameters before _ = ⊥
