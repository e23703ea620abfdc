-- When the trees of a unit are shaped and arranged as laws on levels and depths ask.
use Rattle.tla_symbols.specs.declared.lexeme.Lexeme.{Lexeme}
use Rattle.tla_tree.specs.declared.form.Form.TheVariants as Form
use Rattle.tla_tree.specs.Syntax.{Tree, Node, Nil, Cons}
use Rattle.unit_grammar.specs.Units.{UnitTree, OperatorDefinition, FunctionDefinition, ModuleDefinition, Instance, Assumption, Theorem}
use Rattle.flattened_levels.specs.Shapes.{EndsWithInstance, IsShaped, IsShapedDefinition}
use Rattle.flattened_depths.specs.Arranged.{AreArranged, BindsNothing, IsArranged, IsArrangedDefinition}
use Rattle.grammar_shapes.specs.Instances.{HoldsThrough}
use Rattle.std.specs.Prelude.{true}

-- the helper forms of its trees stand where they belong
abbrev pub IsShapedUnit : UnitTree → Type 0
IsShapedUnit (OperatorDefinition local x) = IsShapedDefinition x
IsShapedUnit (FunctionDefinition local x) = IsShapedDefinition x
IsShapedUnit (ModuleDefinition local x) = IsShapedDefinition x
IsShapedUnit (Instance local x) = EndsWithInstance (Cons x Nil)
IsShapedUnit (Assumption word name x) = IsShaped x
IsShapedUnit (Theorem word name x) = IsShaped x
IsShapedUnit unit = Unit {0}

module _ (holds : Lexeme → Lexeme → Type 0) where
  -- an INSTANCE, whose right sides are arranged as they are written
  abbrev pub IsArrangedWith : Tree → Type 0
  IsArrangedWith (Node (Form.Instance l) s rights) = BindsNothing (Form.Instance l) rights × AreArranged holds true rights
  IsArrangedWith x = ⊥

  -- its trees are arranged as they are written, where this holds of all module definitions in them
  abbrev pub IsArrangedUnit : UnitTree → Type 0
  IsArrangedUnit (OperatorDefinition local x) = HoldsThrough holds x → IsArrangedDefinition holds x
  IsArrangedUnit (FunctionDefinition local x) = HoldsThrough holds x → IsArrangedDefinition holds x
  IsArrangedUnit (ModuleDefinition local x) = HoldsThrough holds x → IsArrangedDefinition holds x
  IsArrangedUnit (Instance local x) = HoldsThrough holds x → IsArrangedWith x
  IsArrangedUnit (Assumption word name x) = HoldsThrough holds x → IsArranged holds x
  IsArrangedUnit (Theorem word name x) = HoldsThrough holds x → IsArranged holds x
  IsArrangedUnit unit = Unit {0}
