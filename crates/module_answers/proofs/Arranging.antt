-- A tree is arranged whatever is said of its module definitions, where that follows from what was said.
use Rattle.std.proofs.Common.{◌≡◌, Bool, true, false}
use Rattle.tla_symbols.specs.declared.lexeme.Lexeme.{Lexeme}
use Rattle.tla_symbols.specs.declared.lexeme.Span.{Span}
use Rattle.tla_tree.specs.declared.form.Form.TheVariants as Form
use Rattle.tla_tree.specs.Forms.{helps}
use Rattle.tla_tree.specs.Syntax.{Tree, Trees, Node, Nil, Cons}
use Rattle.tla_model.specs.Entities.{Defines, Nothing, Operator, Function, Module, defines}
use Rattle.tla_model.specs.Scopes.{has_set}
use Rattle.tree_kinds.specs.Expanding.{Part, Outer, Helper, Whole, part_of}
use Rattle.flattened_depths.specs.Arranged.{AreArranged, BindsNothing, HasBody, IsArranged, IsArrangedChain, IsArrangedDefinition, IsArrangedInstance}

-- what is said of a part, by what it is and whether it has a set
abbrev IsPart : (Lexeme → Lexeme → Type 0) → Bool → Form.the_data → Span → Trees → Part → Bool → Type 0
IsPart holds unbound form s parts part set = elim part as (λ _. Type 0) [
  | Outer ↦ (elim set as (λ _. Type 0) [ true ↦ Unit {0} | false ↦ (unbound ≡ true) × BindsNothing form parts ]) × AreArranged holds true parts
  | Helper ↦ BindsNothing form parts × AreArranged holds true parts
  | Whole ↦ IsArranged holds (Node form s parts)
]

-- what is said of a link of a chain, by whether it is a definition
abbrev IsLink : (Lexeme → Lexeme → Type 0) → Tree → Bool → Type 0
IsLink holds x help = elim help as (λ _. Type 0) [ true ↦ IsArrangedDefinition holds x | false ↦ IsArranged holds x ]

-- what is said of the parts of a definition, by what it defines
abbrev IsDefining : (Lexeme → Lexeme → Type 0) → Trees → Defines → Type 0
IsDefining holds parts what = elim what as (λ _. Type 0) [
  | Nothing ↦ ⊥
  | Operator l ↦ HasBody parts × AreArranged holds false parts
  | Function l ↦ AreArranged holds false parts
  | Module l ↦ IsArrangedInstance holds l parts
]

module _ (before after : Lexeme → Lexeme → Type 0) (weaker : (own l : Lexeme) → before own l → after own l) where
  by-part : (unbound : Bool) (form : Form.the_data) (s : Span) (parts : Trees) (part : Part) (set : Bool) → (AreArranged before true parts → AreArranged after true parts) → (IsArranged before (Node form s parts) → IsArranged after (Node form s parts)) → IsPart before unbound form s parts part set → IsPart after unbound form s parts part set
  by-part unbound form s parts Outer set more whole is = (is.0, more is.1)
  by-part unbound form s parts Helper set more whole is = (is.0, more is.1)
  by-part unbound form s parts Whole set more whole is = whole is

  by-link : (x : Tree) (help : Bool) → (IsArrangedDefinition before x → IsArrangedDefinition after x) → (IsArranged before x → IsArranged after x) → IsLink before x help → IsLink after x help
  by-link x true defining whole is = defining is
  by-link x false defining whole is = whole is

  by-defined : (parts : Trees) (what : Defines) → (AreArranged before false parts → AreArranged after false parts) → ((own : Lexeme) → IsArrangedInstance before own parts → IsArrangedInstance after own parts) → IsDefining before parts what → IsDefining after parts what
  by-defined parts Nothing more through is = absurd is
  by-defined parts (Operator l) more through is = (is.0, more is.1)
  by-defined parts (Function l) more through is = more is
  by-defined parts (Module l) more through is = through l is

  mutual
    -- an expression
    pub tree-weaker : (x : Tree) → IsArranged before x → IsArranged after x
    tree-weaker (Node Form.Identifier s parts) is = (is.0, parts-weaker parts false is.1)
    tree-weaker (Node (Form.Prefix l) s parts) is = (is.0, parts-weaker parts false is.1)
    tree-weaker (Node (Form.Infix l) s parts) is = (is.0, parts-weaker parts false is.1)
    tree-weaker (Node (Form.Postfix l) s parts) is = (is.0, parts-weaker parts false is.1)
    tree-weaker (Node Form.Parentheses s parts) is = (is.0, parts-weaker parts false is.1)
    tree-weaker (Node Form.Except s parts) is = (is.0, parts-weaker parts false is.1)
    tree-weaker (Node Form.Let s parts) is = chain-weaker parts is
    tree-weaker (Node form s parts) is = (is.0, parts-weaker parts false is.1)

    -- parts
    pub parts-weaker : (parts : Trees) (unbound : Bool) → AreArranged before unbound parts → AreArranged after unbound parts
    parts-weaker Nil unbound is = tt
    parts-weaker (Cons (Node form s parts) rest) unbound is =
        (by-part unbound form s parts (part_of form) (has_set form) (λ more. parts-weaker parts true more) (λ whole. tree-weaker (Node form s parts) whole) is.0, parts-weaker rest unbound is.1)

    chain-weaker : (parts : Trees) → IsArrangedChain before parts → IsArrangedChain after parts
    chain-weaker Nil is = tt
    chain-weaker (Cons (Node form s parts) rest) is =
        (by-link (Node form s parts) (helps form) (λ defining. definition-weaker (Node form s parts) defining) (λ whole. tree-weaker (Node form s parts) whole) is.0, chain-weaker rest is.1)

    -- a definition
    pub definition-weaker : (x : Tree) → IsArrangedDefinition before x → IsArrangedDefinition after x
    definition-weaker (Node form s parts) is = by-defined parts (defines form) (λ more. parts-weaker parts false more) (λ own through. instance-weaker parts own through) is

    instance-weaker : (parts : Trees) (own : Lexeme) → IsArrangedInstance before own parts → IsArrangedInstance after own parts
    instance-weaker Nil own is = is
    instance-weaker (Cons (Node (Form.Instance l) s rights) rest) own is = (is.0, is.1, parts-weaker rights true is.2, weaker own l is.3)
    instance-weaker (Cons (Node form s parts) rest) own is = (is.0, is.1, is.2, instance-weaker rest own is.3)
