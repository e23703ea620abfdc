-- When the parts of a tree are arranged as they are written: which forms bind names, and what definitions are made of.
use Rattle.std.specs.Prelude.{◌≡◌, Bool, true, false, []}
use Rattle.tla_symbols.specs.declared.lexeme.Lexeme.{Lexeme}
use Rattle.tla_tree.specs.declared.form.Form.TheVariants as Form
use Rattle.tla_tree.specs.Forms.{helps}
use Rattle.tla_tree.specs.Syntax.{Tree, Trees, Node, Nil, Cons}
use Rattle.tla_model.specs.Entities.{Nothing, Operator, Function, Module, defines}
use Rattle.tla_model.specs.Scopes.{binders, has_set}
use Rattle.tree_kinds.specs.Expanding.{Outer, Helper, Whole, part_of}

-- a form defines nothing, and binds nothing for its parts
abbrev pub BindsNothing : Form.the_data → Trees → Type 0
BindsNothing form parts = (defines form ≡ Nothing) × (binders form parts ≡ [])

-- parameters, which have no parts, and one expression behind them
abbrev pub HasBody : Trees → Type 0
HasBody Nil = ⊥
HasBody (Cons (Node form s parts) rest) = elim (part_of form) [ Whole ↦ rest ≡ Nil | Outer ↦ ⊥ | Helper ↦ (parts ≡ Nil) × HasBody rest ]

-- what is said of each module definition, by its name and by that of its module
module _ (holds : Lexeme → Lexeme → Type 0) where
  abbrev mutual
    -- in a tree only forms with names bind them: no name, no symbol on operands, no parentheses and no EXCEPT do, nor do the helper
    -- forms among the parts of a form
    pub IsArranged : Tree → Type 0
    IsArranged (Node Form.Identifier s parts) = BindsNothing Form.Identifier parts × AreArranged false parts
    IsArranged (Node (Form.Prefix l) s parts) = BindsNothing (Form.Prefix l) parts × AreArranged false parts
    IsArranged (Node (Form.Infix l) s parts) = BindsNothing (Form.Infix l) parts × AreArranged false parts
    IsArranged (Node (Form.Postfix l) s parts) = BindsNothing (Form.Postfix l) parts × AreArranged false parts
    IsArranged (Node Form.Parentheses s parts) = BindsNothing Form.Parentheses parts × AreArranged false parts
    IsArranged (Node Form.Except s parts) = BindsNothing Form.Except parts × AreArranged false parts
    IsArranged (Node Form.Let s parts) = IsArrangedChain parts
    IsArranged (Node form s parts) = (defines form ≡ Nothing) × AreArranged false parts

    -- the same of parts; an index of EXCEPT stands where nothing is bound round it
    pub AreArranged : Bool → Trees → Type 0
    AreArranged unbound Nil = Unit {0}
    AreArranged unbound (Cons (Node form s parts) rest) =
        (elim (part_of form) [
          | Outer ↦ (elim (has_set form) [ true ↦ Unit {0} | false ↦ (unbound ≡ true) × BindsNothing form parts ]) × AreArranged true parts
          | Helper ↦ BindsNothing form parts × AreArranged true parts
          | Whole ↦ IsArranged (Node form s parts)
        ])
        × AreArranged unbound rest

    -- the same of definitions and of the body behind them
    pub IsArrangedChain : Trees → Type 0
    IsArrangedChain Nil = Unit {0}
    IsArrangedChain (Cons (Node form s parts) rest) =
        (elim (helps form) [ true ↦ IsArrangedDefinition (Node form s parts) | false ↦ IsArranged (Node form s parts) ]) × IsArrangedChain rest

    -- the same of a definition
    pub IsArrangedDefinition : Tree → Type 0
    IsArrangedDefinition (Node form s parts) = elim (defines form) [
      | Nothing ↦ ⊥
      | Operator l ↦ HasBody parts × AreArranged false parts
      | Function l ↦ AreArranged false parts
      | Module l ↦ IsArrangedInstance l parts
    ]

    -- the same of a module definition: parameters, which have no parts, and one INSTANCE behind them
    pub IsArrangedInstance : Lexeme → Trees → Type 0
    IsArrangedInstance own Nil = ⊥
    IsArrangedInstance own (Cons (Node (Form.Instance l) s rights) rest) = (rest ≡ Nil) × BindsNothing (Form.Instance l) rights × AreArranged true rights × holds own l
    IsArrangedInstance own (Cons (Node form s parts) rest) = (part_of form ≡ Helper) × (parts ≡ Nil) × BindsNothing form parts × IsArrangedInstance own rest
