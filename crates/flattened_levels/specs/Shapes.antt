-- When the helper forms of a tree stand where they belong: those among operands bind and define nothing, and a module definition ends with
-- its INSTANCE. Trees of the grammar are such.
use Rattle.std.specs.Prelude.{◌≡◌, true, false, []}
use Rattle.tla_tree.specs.declared.form.Form.TheVariants as Form
use Rattle.tla_tree.specs.Forms.{helps}
use Rattle.tla_tree.specs.Syntax.{Tree, Trees, Node, Nil, Cons}
use Rattle.tla_model.specs.Entities.{Nothing, Operator, Function, Module, defines}
use Rattle.tla_model.specs.Scopes.{binders}
use Rattle.tree_kinds.specs.Expanding.{Outer, Helper, Whole, part_of}

-- a form is no INSTANCE
abbrev pub IsNoInstance : Form.the_data → Type 0
IsNoInstance (Form.Instance l) = ⊥
IsNoInstance form = Unit {0}

-- a helper form by which no name comes
abbrev pub IsPlainHelper : Form.the_data → Trees → Type 0
IsPlainHelper form parts = (defines form ≡ Nothing) × IsNoInstance form × (binders form parts ≡ [])

abbrev mutual
  -- the helper forms of a tree stand where they belong
  pub IsShaped : Tree → Type 0
  IsShaped (Node Form.Let s parts) = IsShapedChain parts
  IsShaped (Node Form.Parentheses s parts) = (binders Form.Parentheses parts ≡ []) × AreShaped parts
  IsShaped (Node form s parts) = AreShaped parts

  -- the same of operands
  pub AreShaped : Trees → Type 0
  AreShaped Nil = Unit {0}
  AreShaped (Cons (Node form s parts) rest) =
      (elim (part_of form) [ Outer ↦ AreShaped parts | Helper ↦ IsPlainHelper form parts × AreShaped parts | Whole ↦ IsShaped (Node form s parts) ]) × AreShaped rest

  -- the same of definitions and the body behind them
  pub IsShapedChain : Trees → Type 0
  IsShapedChain Nil = Unit {0}
  IsShapedChain (Cons (Node form s parts) rest) =
      (elim (helps form) [ true ↦ IsShapedDefinition (Node form s parts) | false ↦ IsShaped (Node form s parts) ]) × IsShapedChain rest

  -- the same of a definition
  pub IsShapedDefinition : Tree → Type 0
  IsShapedDefinition (Node form s parts) = elim (defines form) [
    | Nothing ↦ ⊥
    | Operator l ↦ AreShaped parts
    | Function l ↦ AreShaped parts
    | Module l ↦ EndsWithInstance parts
  ]

  -- an INSTANCE, behind names and parameters
  pub EndsWithInstance : Trees → Type 0
  EndsWithInstance Nil = ⊥
  EndsWithInstance (Cons (Node (Form.Instance l) s rights) rest) = (rest ≡ Nil) × AreShapedRights rights
  EndsWithInstance (Cons (Node form s parts) rest) = (part_of form ≡ Helper) × IsPlainHelper form parts × (parts ≡ Nil) × EndsWithInstance rest

  -- the same of right sides
  pub AreShapedRights : Trees → Type 0
  AreShapedRights Nil = Unit {0}
  AreShapedRights (Cons (Node form s parts) rest) = AreShaped parts × AreShapedRights rest
