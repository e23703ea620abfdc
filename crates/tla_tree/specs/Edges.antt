-- The operators on the edges of a tree, and which may stand beside one another.
use Rattle.std.specs.Prelude.{◌≡◌, ℕ, ◌<◌, ◌⊎◌, Bool, true, false, IsTrue, List, [], ◌∷◌, Option, Some, None}
use Rattle.std.specs.List.{AllByRecursion}
use Rattle.tla_symbols.specs.declared.op.Op.{Op}
use Rattle.tla_symbols.specs.declared.place.Fix.{Fix}
use Rattle.tla_symbols.specs.declared.place.Range.{Range}
use Rattle.tla_symbols.specs.declared.lexeme.LexKind.{LexKind}
use Rattle.tla_symbols.specs.Symbols.{range_of}
use Rattle.tla_tree.specs.declared.form.Form.{Form}
use Rattle.tla_tree.specs.Syntax.{Tree, Trees, Node, Nil, Cons}

-- what stands on an edge: a symbol at its place, an open form, an application `e[..]`, a field `e.h`
pub data Edge : Type 0 where
  Operator : (op : Op) (fix : Fix) → Edge
  Open : Edge
  Applied : Edge
  Selected : Edge

-- the lowest precedence of a range; a symbol without one has 0
abbrev pub low_end : Option Range → ℕ
low_end None = 0
low_end (Some range) = range.lo

-- the highest precedence of a range; a symbol without one has 0
abbrev pub high_end : Option Range → ℕ
high_end None = 0
high_end (Some range) = range.hi

-- the symbol of this range associates to the left
abbrev pub left_of : Option Range → Bool
left_of None = false
left_of (Some range) = range.left

-- the low end of the precedence range: an open form has 0-0, an application 16-16, a field 17-17
abbrev pub lo : Edge → ℕ
lo (Operator op fix) = low_end (range_of op fix)
lo Open = 0
lo Applied = 16
lo Selected = 17

-- the high end of the precedence range
abbrev pub hi : Edge → ℕ
hi (Operator op fix) = high_end (range_of op fix)
hi Open = 0
hi Applied = 16
hi Selected = 17

-- whether the operator associates to the left
abbrev pub associates : Edge → Bool
associates (Operator op fix) = left_of (range_of op fix)
associates Open = false
associates Applied = false
associates Selected = true

-- the range of the inner operator lies above that of the outer one
abbrev pub Meets : Edge → Edge → Type 0
Meets outer inner = hi outer < lo inner

-- or it is the same symbol on the left, and that associates to the left
abbrev pub Joins : Edge → Edge → Type 0
Joins outer inner = Meets outer inner ⊎ ((inner ≡ outer) × IsTrue (associates outer))

-- all these edges lie above the outer operator, as is asked of what stands on its right
abbrev pub AllMeet : Edge → List Edge → Type 0
AllMeet outer inners = AllByRecursion (Meets outer) inners

-- all these edges lie above it or join it, as is asked of what stands on its left
abbrev pub AllJoin : Edge → List Edge → Type 0
AllJoin outer inners = AllByRecursion (Joins outer) inners

-- a lexeme's symbol at a place
abbrev pub operator : LexKind → Fix → Edge
operator (LexKind.Sym op) fix = Operator op fix
operator _ fix = Open

-- `\X` on an edge, the same for any number of factors
abbrev pub product : Edge
product = Operator Op.Product Fix.Infix

-- what a form with this mark has on its right edge: an arm counts as open, as the CASE that it ends
abbrev pub right_mark : Form → Option Edge
right_mark (Form.Prefix symbol) = Some (operator symbol.kind Fix.Prefix)
right_mark (Form.Infix symbol) = Some (operator symbol.kind Fix.Infix)
right_mark Form.Product = Some product
right_mark (Form.Quantifier word) = Some Open
right_mark (Form.BoundedQuantifier word) = Some Open
right_mark (Form.TemporalQuantifier word) = Some Open
right_mark Form.Choose = Some Open
right_mark Form.BoundedChoose = Some Open
right_mark Form.IfThenElse = Some Open
right_mark Form.Case = Some Open
right_mark Form.Arm = Some Open
right_mark Form.OtherArm = Some Open
right_mark Form.Let = Some Open
right_mark Form.Lambda = Some Open
right_mark _ = None

-- what a form with this mark has on its left edge: only what has an operand before it has one
abbrev pub left_mark : Form → Option Edge
left_mark (Form.Infix symbol) = Some (operator symbol.kind Fix.Infix)
left_mark Form.Product = Some product
left_mark (Form.Postfix symbol) = Some (operator symbol.kind Fix.Postfix)
left_mark Form.Application = Some Applied
left_mark (Form.FieldAccess name) = Some Selected
left_mark _ = None

-- an edge and those of the part beside it; a form without an edge hides what is inside it
abbrev pub beside : Option Edge → List Edge → List Edge
beside None rest = []
beside (Some edge) rest = edge ∷ rest

-- the right edge of a prefix, infix, `\X` or open form is the form and the right edge of its last part
abbrev mutual
  pub right_edge : Tree → List Edge
  right_edge (Node f s parts) = beside (right_mark f) (right_edge_of_last parts)

  -- the right edge of the last part, if there is one
  pub right_edge_of_last : Trees → List Edge
  right_edge_of_last Nil = []
  right_edge_of_last (Cons tree Nil) = right_edge tree
  right_edge_of_last (Cons tree (Cons next rest)) = right_edge_of_last (Cons next rest)

-- the left edge of an infix, `\X`, postfix, application or field is it and the left edge of its first part
abbrev mutual
  pub left_edge : Tree → List Edge
  left_edge (Node f s parts) = beside (left_mark f) (left_edge_of_first parts)

  -- the left edge of the first part, if there is one
  pub left_edge_of_first : Trees → List Edge
  left_edge_of_first Nil = []
  left_edge_of_first (Cons tree rest) = left_edge tree
