-- Each module definition in a tree that is read holds an INSTANCE.
use Rattle.std.proofs.Common.{◌≡◌, ℕ, Bool, true, false, List, refl}
use Rattle.std.specs.List.{AllByRecursion}
use Rattle.list_laws.proofs.Lists.{all-weaker}
use Rattle.tla_symbols.specs.declared.lexeme.Lexeme.{Lexeme}
use Rattle.tla_symbols.specs.declared.lexeme.Span.{Span}
use Rattle.tla_tree.specs.declared.form.Form.TheVariants as Form
use Rattle.tla_tree.specs.Forms.{helps}
use Rattle.tla_tree.specs.Syntax.{Tree, Trees, Node, Nil, Cons}
use Rattle.unit_grammar.specs.Units.{UnitTree, OperatorDefinition, FunctionDefinition, ModuleDefinition, Instance, Assumption, Theorem, ModuleUnits}
use Rattle.front_laws.specs.Fronts.{IsFront, Tree as TreeFront}
use Rattle.tla_model.specs.Entities.{Defines, Nothing, Operator, Function, Module, defines}
use Rattle.tla_model.specs.Scopes.{has_set}
use Rattle.tree_kinds.specs.Expanding.{Part, Outer, Helper, Whole, part_of}
use Rattle.flattened_depths.specs.Arranged.{AreArranged, BindsNothing, HasBody, IsArranged, IsArrangedChain, IsArrangedDefinition, IsArrangedInstance}
use Rattle.grammar_shapes.specs.Instances.{HoldsAmong, HoldsIn, HoldsOf, HoldThrough, HoldsThrough}
use Rattle.grammar_shapes.specs.Units.{IsArrangedUnit, IsArrangedWith}
use Rattle.grammar_shapes.proofs.Arranged.{front-arranged}
use Rattle.written_trees.specs.Written.{AllHoldInstances, HasInstance, HoldsInstances}
use Rattle.written_modules.specs.Modules.{UnitHolds}

-- nothing is asked of module definitions
abbrev anything : Lexeme → Lexeme → Type 0
anything own l = Unit {0}

-- ---- what holds of all module definitions

among-hold : (own : Lexeme) (xs : Trees) → HoldsAmong anything own xs
among-hold own Nil = tt
among-hold own (Cons (Node form s parts) rest) = (of form, among-hold own rest)
  where
    of : (form : Form.the_data) → HoldsOf anything own form
    of (Form.Instance l) = tt
    of form = tt

in-hold : (d : Defines) (xs : Trees) → HoldsIn anything d xs
in-hold (Module own) xs = among-hold own xs
in-hold Nothing xs = tt
in-hold (Operator l) xs = tt
in-hold (Function l) xs = tt

mutual
  tree-through : (x : Tree) → HoldsThrough anything x
  tree-through (Node form s parts) = (in-hold (defines form) parts, trees-through parts)

  trees-through : (xs : Trees) → HoldThrough anything xs
  trees-through Nil = tt
  trees-through (Cons x rest) = (tree-through x, trees-through rest)

-- ---- what is arranged

-- a form that defines nothing
plain-holds : (form : Form.the_data) (s : Span) (parts : Trees) → defines form ≡ Nothing → AllHoldInstances parts → HoldsInstances (Node form s parts)
plain-holds form s parts none hold = by (defines form) none
  where
    by : (d : Defines) → d ≡ Nothing → elim d as (λ (_ : Defines). Type 0) [ Module l ↦ HasInstance parts × AllHoldInstances parts | Nothing ↦ AllHoldInstances parts | Operator l ↦ AllHoldInstances parts | Function l ↦ AllHoldInstances parts ]
    by Nothing e = hold
    by (Operator l) e = hold
    by (Function l) e = hold
    by (Module l) e = absurd (cc e)

-- a form that has a set defines nothing
set-plain : (form : Form.the_data) → has_set form ≡ true → defines form ≡ Nothing
set-plain (Form.OperatorDefinition l) e = absurd (cc e)
set-plain (Form.PrefixDefinition l) e = absurd (cc e)
set-plain (Form.InfixDefinition l) e = absurd (cc e)
set-plain (Form.PostfixDefinition l) e = absurd (cc e)
set-plain (Form.FunctionDefinition l) e = absurd (cc e)
set-plain (Form.ModuleDefinition l) e = absurd (cc e)
set-plain form e = refl

-- what stands outside defines nothing
outer-plain : (form : Form.the_data) (parts : Trees) (unbound : Bool) → elim (has_set form) as (λ (_ : Bool). Type 0) [ true ↦ Unit {0} | false ↦ (unbound ≡ true) × BindsNothing form parts ] → defines form ≡ Nothing
outer-plain form parts unbound is = by (has_set form) refl is
  where
    by : (b : Bool) → has_set form ≡ b → elim b as (λ (_ : Bool). Type 0) [ true ↦ Unit {0} | false ↦ (unbound ≡ true) × BindsNothing form parts ] → defines form ≡ Nothing
    by true e is = set-plain form e
    by false e is = is.1.0

none-hold : (xs : Trees) → xs ≡ Nil → AllHoldInstances xs
none-hold Nil e = tt
none-hold (Cons x rest) e = absurd (cc e)

-- a part, by what holds of it as a tree, and of its parts
part-holds : (unbound : Bool) (form : Form.the_data) (s : Span) (parts : Trees) (p : Part)
    → elim p as (λ (_ : Part). Type 0) [
      | Outer ↦ (elim (has_set form) as (λ (_ : Bool). Type 0) [ true ↦ Unit {0} | false ↦ (unbound ≡ true) × BindsNothing form parts ]) × AreArranged anything true parts
      | Helper ↦ BindsNothing form parts × AreArranged anything true parts
      | Whole ↦ IsArranged anything (Node form s parts)
    ]
    → (IsArranged anything (Node form s parts) → HoldsInstances (Node form s parts)) → (AreArranged anything true parts → AllHoldInstances parts) → HoldsInstances (Node form s parts)
part-holds unbound form s parts Outer is whole inner = plain-holds form s parts (outer-plain form parts unbound is.0) (inner is.1)
part-holds unbound form s parts Helper is whole inner = plain-holds form s parts is.0.0 (inner is.1)
part-holds unbound form s parts Whole is whole inner = whole is

-- a definition, or the body behind definitions, by what holds of each
link-holds : (form : Form.the_data) (s : Span) (parts : Trees) (b : Bool)
    → elim b as (λ (_ : Bool). Type 0) [ true ↦ IsArrangedDefinition anything (Node form s parts) | false ↦ IsArranged anything (Node form s parts) ]
    → (IsArrangedDefinition anything (Node form s parts) → HoldsInstances (Node form s parts)) → (IsArranged anything (Node form s parts) → HoldsInstances (Node form s parts)) → HoldsInstances (Node form s parts)
link-holds form s parts true is definition tree = definition is
link-holds form s parts false is definition tree = tree is

-- a definition, by what holds of its parts
defined-holds : (parts : Trees) (d : Defines)
    → elim d as (λ (_ : Defines). Type 0) [ Nothing ↦ ⊥ | Operator l ↦ HasBody parts × AreArranged anything false parts | Function l ↦ AreArranged anything false parts | Module l ↦ IsArrangedInstance anything l parts ]
    → (AreArranged anything false parts → AllHoldInstances parts) → ((own : Lexeme) → IsArrangedInstance anything own parts → HasInstance parts × AllHoldInstances parts)
    → elim d as (λ (_ : Defines). Type 0) [ Module l ↦ HasInstance parts × AllHoldInstances parts | Nothing ↦ AllHoldInstances parts | Operator l ↦ AllHoldInstances parts | Function l ↦ AllHoldInstances parts ]
defined-holds parts Nothing is inner instances = absurd is
defined-holds parts (Operator l) is inner instances = inner is.1
defined-holds parts (Function l) is inner instances = inner is
defined-holds parts (Module l) is inner instances = instances l is

mutual
  tree-holds : (x : Tree) → IsArranged anything x → HoldsInstances x
  tree-holds (Node Form.Identifier s parts) is = parts-hold false parts is.1
  tree-holds (Node (Form.Prefix l) s parts) is = parts-hold false parts is.1
  tree-holds (Node (Form.Infix l) s parts) is = parts-hold false parts is.1
  tree-holds (Node (Form.Postfix l) s parts) is = parts-hold false parts is.1
  tree-holds (Node Form.Parentheses s parts) is = parts-hold false parts is.1
  tree-holds (Node Form.Except s parts) is = parts-hold false parts is.1
  tree-holds (Node Form.Let s parts) is = chain-holds parts is
  tree-holds (Node form s parts) is = plain-holds form s parts is.0 (parts-hold false parts is.1)

  parts-hold : (unbound : Bool) (xs : Trees) → AreArranged anything unbound xs → AllHoldInstances xs
  parts-hold unbound Nil are = tt
  parts-hold unbound (Cons (Node form s parts) rest) are =
      (part-holds unbound form s parts (part_of form) are.0 (tree-holds (Node form s parts)) (parts-hold true parts), parts-hold unbound rest are.1)

  chain-holds : (xs : Trees) → IsArrangedChain anything xs → AllHoldInstances xs
  chain-holds Nil are = tt
  chain-holds (Cons (Node form s parts) rest) are = (link-holds form s parts (helps form) are.0 (definition-holds (Node form s parts)) (tree-holds (Node form s parts)), chain-holds rest are.1)

  definition-holds : (x : Tree) → IsArrangedDefinition anything x → HoldsInstances x
  definition-holds (Node form s parts) is = defined-holds parts (defines form) is (parts-hold false parts) (λ own. instance-holds own parts)

  instance-holds : (own : Lexeme) (xs : Trees) → IsArrangedInstance anything own xs → HasInstance xs × AllHoldInstances xs
  instance-holds own Nil is = absurd is
  instance-holds own (Cons (Node (Form.Instance l) s rights) rest) is = (tt, (plain-holds (Form.Instance l) s rights is.1.0 (parts-hold true rights is.2), none-hold rest is.0))
  instance-holds own (Cons (Node form s parts) rest) is =
      let more = instance-holds own rest is.3 in
      (more.0, (plain-holds form s parts is.2.0 (none-hold parts is.1), more.1))

-- an INSTANCE that is a unit
lone-holds : (x : Tree) → IsArrangedWith anything x → HoldsInstances x
lone-holds (Node (Form.Instance l) s rights) is = plain-holds (Form.Instance l) s rights is.0.0 (parts-hold true rights is.1)
lone-holds (Node form s parts) is = absurd is

unit-holds : (unit : UnitTree) → IsArrangedUnit anything unit → UnitHolds unit
unit-holds (OperatorDefinition local x) is = definition-holds x (is (tree-through x))
unit-holds (FunctionDefinition local x) is = definition-holds x (is (tree-through x))
unit-holds (ModuleDefinition local x) is = definition-holds x (is (tree-through x))
unit-holds (Instance local x) is = lone-holds x (is (tree-through x))
unit-holds (Assumption word name x) is = tree-holds x (is (tree-through x))
unit-holds (Theorem word name x) is = tree-holds x (is (tree-through x))
unit-holds unit is = tt

-- in each unit of a module that is the front of some bytes
pub front-holds : (name bytes : List ℕ) (found : ModuleUnits) → IsFront name bytes (TreeFront found) → AllByRecursion UnitHolds found.units
front-holds name bytes found front = all-weaker (IsArrangedUnit anything) UnitHolds unit-holds found.units (front-arranged anything name bytes found front)
