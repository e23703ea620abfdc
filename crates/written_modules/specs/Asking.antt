-- What is asked of levels and depths unit by unit, by resolved trees: as `flattened_units` says it, without a flat module.
use Rattle.std.specs.Prelude.{ℕ, List, [], ◌∷◌, ◌++◌, Option}
use Rattle.tla_symbols.specs.declared.lexeme.Lexeme.{Lexeme}
use Rattle.tla_tree.specs.declared.form.Form.TheVariants as Form
use Rattle.tla_tree.specs.Syntax.{Tree, Node as TreeNode, span}
use Rattle.unit_grammar.specs.Units.{UnitTree, OperatorDefinition, FunctionDefinition, ModuleDefinition, Instance as UnitInstance, Assumption, Theorem, ModuleUnits}
use Rattle.tla_model.specs.Entities.{Meaning, Text}
use Rattle.module_scope.specs.Environments.{first as first_scope}
use Rattle.module_model.specs.Modules.{text_of}
use Rattle.module_model.specs.Resolution.{words_of}
use Rattle.tree_kinds.specs.Standing.{Outside}
use Rattle.module_kinds.specs.ModuleKinds.{KindState, after, first}
use Rattle.resolved_trees.specs.Resolved.{Nil}
use Rattle.written_trees.specs.Leading.{Face}
use Rattle.written_trees.specs.Written.{rights_of, tree_of}
use Rattle.written_questions.specs.Asking.{asks_of, definition_asks, instance_asks, right_asks}
use Rattle.written_questions.specs.Questions.{IsConstant, IsShallowTree, Question, over}
use Rattle.written_modules.specs.Modules.{Reader, behind_unit, extended, face_in, owns_of, symbol_setting}

module _ (text : Text) (means : ℕ → Option Meaning) (implied : ℕ → List Meaning) (files : List ℕ → Face) (outsides : List ℕ → Outside) (words : List ℕ) where
  -- of an INSTANCE without a name: what is written for parameters, and then what stands for each
  abbrev pub brought_asks : Reader → Tree → List Question
  brought_asks reader (TreeNode (Form.Instance l) s rights) =
      right_asks text means implied (face_in files reader.faces) reader.setting l rights
      ++ instance_asks text means implied (face_in files reader.faces) reader.setting l (rights_of text means implied (face_in files reader.faces) reader.setting rights)
  brought_asks reader x = []

  -- of an assumption or a theorem, by its first word, and then what more is asked of it
  abbrev pub claim_asks : Reader → Lexeme → Tree → List Question → List Question
  claim_asks reader word x more =
      over reader.setting.frame (IsShallowTree word (tree_of text means implied (face_in files reader.faces) reader.setting x) ∷ [])
      ++ (asks_of text means implied (face_in files reader.faces) reader.setting x ++ more)

  -- of a unit: an assumption is constant, too
  abbrev pub unit_asks : Reader → UnitTree → List Question
  unit_asks reader (OperatorDefinition local x) = definition_asks text means implied (face_in files reader.faces) reader.setting x
  unit_asks reader (FunctionDefinition local x) = definition_asks text means implied (face_in files reader.faces) reader.setting x
  unit_asks reader (ModuleDefinition local x) = definition_asks text means implied (face_in files reader.faces) reader.setting x
  unit_asks reader (UnitInstance local x) = brought_asks reader x
  unit_asks reader (Assumption word name x) =
      claim_asks reader word x (over reader.setting.frame (IsConstant (span x) (tree_of text means implied (face_in files reader.faces) reader.setting x) ∷ []))
  unit_asks reader (Theorem word name x) = claim_asks reader word x []
  unit_asks reader unit = []

  -- of units, one after another; for each of them symbols are given, which count where a nested module begins
  abbrev pub units_asks : KindState → Reader → List (List Meaning) → List UnitTree → List Question
  units_asks state reader owns [] = []
  units_asks state reader [] (unit ∷ units) =
      unit_asks reader unit ++ units_asks (after text outsides words state unit) (behind_unit text means implied files outsides words state reader [] unit) [] units
  units_asks state reader (own ∷ owns) (unit ∷ units) =
      unit_asks reader unit ++ units_asks (after text outsides words state unit) (behind_unit text means implied files outsides words state reader own unit) owns units

-- of a module with these symbols, over what it names
abbrev pub module_asks : (ℕ → Option Meaning) → (ℕ → List Meaning) → (List ℕ → Face) → (List ℕ → Outside) → List ℕ → ModuleUnits → List Meaning → List Question
module_asks means implied files outsides source units symbols =
    units_asks (text_of source units) means implied files outsides (words_of units) (first outsides source units)
    (record {
      setting = record {
        leads = extended (text_of source units) means implied files outsides (words_of units) (first_scope (text_of source units).file) (first_scope (text_of source units).file) (symbol_setting symbols) (symbol_setting symbols).leads units.extends;
        frame = symbols;
        olds = Nil;
      };
      round = [];
      faces = first_scope (text_of source units).file;
    }) (owns_of outsides source units) units.units
