-- Shapes of trees that the grammar tells apart.
use Rattle.std.specs.Prelude.{◌≡◌}
use Rattle.tla_symbols.specs.declared.op.Op.TheVariants as Op
use Rattle.tla_symbols.specs.declared.lexeme.LexKind.TheVariants as LexKind
use Rattle.tla_tree.specs.declared.form.Form.{Form}
use Rattle.tla_tree.specs.Syntax.{Tree, Trees, Node, Nil, Cons}

-- a form stands without parts
abbrev pub HasNoPart : Trees → Type 0
HasNoPart Nil = Unit {0}
HasNoPart (Cons tree rest) = ⊥

-- a form has one part and no other
abbrev pub HasOnePart : Trees → Type 0
HasOnePart Nil = ⊥
HasOnePart (Cons tree rest) = HasNoPart rest

-- a segment without arguments
abbrev pub IsBareSegment : Tree → Type 0
IsBareSegment (Node (Form.Segment name) s parts) = HasNoPart parts
IsBareSegment (Node _ s parts) = ⊥

-- no segment has arguments
abbrev pub AreBareSegments : Trees → Type 0
AreBareSegments Nil = Unit {0}
AreBareSegments (Cons tree rest) = IsBareSegment tree × AreBareSegments rest

-- an identifier of one segment without arguments
abbrev pub IsPlainName : Tree → Type 0
IsPlainName (Node Form.Identifier s parts) = HasOnePart parts × AreBareSegments parts
IsPlainName (Node _ s parts) = ⊥

-- each part is one name without arguments
abbrev pub ArePlainNames : Trees → Type 0
ArePlainNames Nil = Unit {0}
ArePlainNames (Cons tree rest) = IsPlainName tree × ArePlainNames rest

-- a form has at least one part
abbrev pub HasParts : Trees → Type 0
HasParts Nil = ⊥
HasParts (Cons tree rest) = Unit {0}

-- a name, or a tuple of names: what a CHOOSE can bind
abbrev pub IsBinder : Tree → Type 0
IsBinder (Node Form.Identifier s parts) = HasOnePart parts × AreBareSegments parts
IsBinder (Node Form.Tuple s parts) = HasParts parts × ArePlainNames parts
IsBinder (Node _ s parts) = ⊥

-- the first part is what a CHOOSE can bind
abbrev pub BeginsWithBinder : Trees → Type 0
BeginsWithBinder Nil = ⊥
BeginsWithBinder (Cons tree rest) = IsBinder tree

-- the bare form `x \in e`
abbrev pub IsBareMember : Tree → Type 0
IsBareMember (Node (Form.Infix symbol) s parts) = (symbol.kind ≡ LexKind.Sym Op.In) × BeginsWithBinder parts
IsBareMember (Node _ s parts) = ⊥

-- a bound of one name, or of one tuple
abbrev pub BindsOne : Tree → Type 0
BindsOne (Node Form.Bound s (Cons name (Cons set Nil))) = Unit {0}
BindsOne (Node Form.TupleBound s parts) = Unit {0}
BindsOne (Node _ s parts) = ⊥

-- what may stand as a subscript
abbrev pub IsSubscript : Tree → Type 0
IsSubscript (Node Form.Identifier s parts) = AreBareSegments parts
IsSubscript (Node Form.Tuple s parts) = Unit {0}
IsSubscript (Node Form.Parentheses s parts) = Unit {0}
IsSubscript (Node Form.SetEnumeration s parts) = Unit {0}
IsSubscript (Node Form.SetFilter s parts) = Unit {0}
IsSubscript (Node Form.SetImage s parts) = Unit {0}
IsSubscript (Node Form.FunctionConstructor s parts) = Unit {0}
IsSubscript (Node Form.FunctionSet s parts) = Unit {0}
IsSubscript (Node Form.Record s parts) = Unit {0}
IsSubscript (Node Form.RecordSet s parts) = Unit {0}
IsSubscript (Node Form.Except s parts) = Unit {0}
IsSubscript (Node _ s parts) = ⊥
