-- The trees of a module without faults are shaped, and its claims can be read.
use Rattle.std.proofs.Common.{◌≡◌, ℕ, List, [], ◌∷◌, ◌++◌, Option, refl}
use Rattle.std.specs.List.{AllByRecursion}
use Rattle.tla_tree.specs.declared.form.Form.TheVariants as Form
use Rattle.tla_tree.specs.Syntax.{Tree, Node, Nil, Cons}
use Rattle.unit_grammar.specs.Units.{UnitTree, Variables, Constants, OperatorDefinition, FunctionDefinition, ModuleDefinition, Instance, Assumption, Theorem, Line, ModuleBegin, ModuleEnd, ModuleUnits}
use Rattle.tla_model.specs.Entities.{Meaning, Text}
use Rattle.module_model.specs.Modules.{text_of}
use Rattle.module_model.specs.Resolution.{words_of}
use Rattle.kind_text.specs.FlatModule.{FlatModule}
use Rattle.tree_kinds.specs.Standing.{Outside}
use Rattle.module_kinds.specs.ModuleKinds.{KindState, after, first, outside}
use Rattle.flat_trees.specs.Instances.{symbols_of}
use Rattle.flat_kinds.specs.Declarations.{Declarations}
use Rattle.flattened_levels.specs.Shapes.{EndsWithInstance}
use Rattle.flattened_trees.specs.Leads.{FlatFace}
use Rattle.flattened_trees.specs.Questions.{Question}
use Rattle.flattened_units.specs.Units.{AreUnitsMade, IsModuleMade, Reader}
use Rattle.module_meanings.specs.Premises.{seen_behind}
use Rattle.given_depths.specs.Passed.{AreUnitsShaped, IsModuleShaped, IsShapedInstance, IsUnitShaped}
use Rattle.grammar_shapes.specs.Units.{IsShapedUnit}
use Rattle.given_modules.proofs.AtUnits.{IsKnown, IsMet, met-first, met-next, tree-given, unit-read}

instance-shaped : (x : Tree) → EndsWithInstance (Cons x Nil) → IsShapedInstance x
instance-shaped (Node (Form.Instance l) s rights) ends = ends.1
instance-shaped (Node form s parts) ends = absurd ends.3

module _ (flat : FlatModule) (means : ℕ → Option Meaning) (implied : ℕ → List Meaning) (files : List ℕ → FlatFace) (outsides : List ℕ → Outside) (source : List ℕ) (units : ModuleUnits) (declares : Declarations) (k : IsKnown flat means implied files outsides source units declares) where
  abbrev text : Text
  text = text_of source units

  abbrev words : List ℕ
  words = words_of units

  -- what is known at a unit
  abbrev Met : List UnitTree → List UnitTree → KindState → Reader → List Meaning → Type 0
  Met before behind state reader seen = IsMet flat means implied files outsides source units k.foreign declares k.declared k.names before behind state reader seen

  unit-shaped : (before behind : List UnitTree) (unit : UnitTree) (state : KindState) (reader : Reader) (seen : List Meaning) → Met before (unit ∷ behind) state reader seen → IsShapedUnit unit → IsUnitShaped flat text means implied files outsides words state reader seen unit
  unit-shaped before behind (OperatorDefinition local x) state reader seen is shaped = shaped
  unit-shaped before behind (FunctionDefinition local x) state reader seen is shaped = shaped
  unit-shaped before behind (ModuleDefinition local x) state reader seen is shaped = shaped
  unit-shaped before behind (Instance local x) state reader seen is shaped = instance-shaped x shaped
  unit-shaped before behind (Assumption word name x) state reader seen is shaped = (
    record {
      given = tree-given flat means implied files outsides source units k.foreign declares k.declared k.names k.named k.new before behind (Assumption word name x) state reader seen x is refl;
      readable = let can = unit-read flat means implied files outsides source units k.foreign declares k.declared k.names k.read k.reads before behind (Assumption word name x) state reader seen is in can.0;
    },
    shaped,
  )
  unit-shaped before behind (Theorem word name x) state reader seen is shaped = (
    record {
      given = tree-given flat means implied files outsides source units k.foreign declares k.declared k.names k.named k.new before behind (Theorem word name x) state reader seen x is refl;
      readable = let can = unit-read flat means implied files outsides source units k.foreign declares k.declared k.names k.read k.reads before behind (Theorem word name x) state reader seen is in can.0;
    },
    shaped,
  )
  unit-shaped before behind (Variables names) state reader seen is shaped = tt
  unit-shaped before behind (Constants declarations) state reader seen is shaped = tt
  unit-shaped before behind (Line dashes) state reader seen is shaped = tt
  unit-shaped before behind (ModuleBegin dashes name extends) state reader seen is shaped = tt
  unit-shaped before behind (ModuleEnd closing) state reader seen is shaped = tt

  units-shaped : (before behind : List UnitTree) (state : KindState) (reader : Reader) (seen : List Meaning) (next : Reader) (asked : List Question) (made : AreUnitsMade flat text means implied files outsides words state reader behind next asked) → next.round ≡ []
      → AllByRecursion IsShapedUnit behind → Met before behind state reader seen → AreUnitsShaped flat text means implied files outsides words state reader seen behind next asked made
  units-shaped before [] state reader seen next asked made none shapes is = tt
  units-shaped before (unit ∷ behind) state reader seen next asked made none shapes is = (
    unit-shaped before behind unit state reader seen is shapes.0,
    units-shaped (before ++ unit ∷ []) behind (after text outsides words state unit) made.0 (seen_behind text outsides words state unit made.0 seen) next made.2 made.4 none shapes.1
        (met-next flat means implied files outsides source units k.foreign declares k.declared k.names before behind unit state reader seen made.0 next made.1 made.2 is made.3 made.4 none),
  )

  pub module-shaped : (symbols : List Meaning) (final : Reader) (asked : List Question) (made : IsModuleMade flat means implied files outsides source units symbols final asked) → symbols ≡ symbols_of (outside outsides source units) → final.round ≡ []
      → AllByRecursion IsShapedUnit units.units → IsModuleShaped flat means implied files outsides source units symbols final asked made
  module-shaped symbols final asked made same none shapes =
      units-shaped [] units.units (first outsides source units) _ _ final asked made.2 none shapes (met-first flat means implied files outsides source units k.foreign declares k.declared k.names symbols made.0 same made.1)
