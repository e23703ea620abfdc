-- What INSTANCE replaces, and what it brings.
use Rattle.std.specs.Prelude.{ℕ, Bool, List, [], ◌∷◌, ◌++◌, Option, Some, None, filter, if◌then◌else◌, map, not}
use Rattle.tla_symbols.specs.declared.lexeme.Lexeme.{Lexeme}
use Rattle.tla_tree.specs.declared.form.Form.TheVariants as Form
use Rattle.tla_tree.specs.Syntax.{Tree, Trees, Node, Nil, Cons}
use Rattle.unit_grammar.specs.Units.{UnitTree, OperatorDefinition, FunctionDefinition, ModuleDefinition, Instance, Assumption, Theorem}
use Rattle.tla_model.specs.declared.names.Finding.TheVariants.{Means, NotReplaceable, ReplacedTwice, Unreplaced, Implied}
use Rattle.tla_model.specs.declared.names.Meaning.TheVariants.{BuiltIn, Declared}
use Rattle.tla_model.specs.declared.ids.UnitId.{UnitId}
use Rattle.tla_model.specs.Tables.{Named, has, is_among}
use Rattle.tla_model.specs.Entities.{Meaning, name_of}
use Rattle.tla_model.specs.Contexts.{Context, meaning_of}
use Rattle.module_model.specs.Exports.{Exports, Known, ModuleView, entries_from, exported, instantiable, parameters_in}
use Rattle.tla_model.specs.Scopes.{Finding}

-- ---- replacements

-- the left sides of replacements
abbrev pub left_sides : List ℕ → Trees → List Named
left_sides source Nil = []
left_sides source (Cons (Node (Form.Replacement l) s right) rest) = name_of source l ∷ left_sides source rest
left_sides source (Cons _ rest) = left_sides source rest

-- a left side, which may be there already, by the parameter that it names
abbrev pub replaced_as : Lexeme → Bool → Option Meaning → List Finding
replaced_as l again None = NotReplaceable l ∷ []
replaced_as l again (Some parameter) = Means l parameter ∷ (if again then ReplacedTwice l ∷ [] else [])

-- a parameter that is not written is replaced by what its name means
abbrev pub implied_as : Lexeme → Meaning → Option Meaning → List Finding
implied_as l parameter None = Unreplaced l ∷ []
implied_as l parameter (Some meaning) = Implied l parameter meaning ∷ []

-- of the parameters of a module, at its name, those that are not among the left sides
abbrev pub implied : Context → Lexeme → List Named → Exports → List Finding
implied context l written [] = []
implied context l written (parameter ∷ rest) =
    (if is_among written parameter.0 then [] else implied_as l parameter.1 (meaning_of context parameter.0)) ++ implied context l written rest

-- ---- paths

-- the last name of a path calls through the path before it, which has this number
abbrev pub called_by : ℕ → Trees → Option Meaning → Option Meaning
called_by number Nil (Some (Declared entity callee)) = Some (Declared entity (record callee { instance = number }))
called_by number rest meaning = meaning

-- ---- INSTANCE without a name

-- what a name means that came through an INSTANCE
abbrev pub through : UnitId → Meaning → Meaning
through unit BuiltIn = BuiltIn
through unit (Declared entity callee) = Declared entity (record callee { via = callee.via ++ unit ∷ [] })

-- the entries that are brought: others than those of the module, where it has parameters to replace
abbrev pub brought_entries : UnitId → Exports → Exports → Exports
brought_entries unit [] entries = entries
brought_entries unit (parameter ∷ parameters) entries = map (λ entry. (entry.0, through unit entry.1)) entries

-- what this INSTANCE without a name brings of a module: its definitions and instances
abbrev pub brought_by : UnitId → ModuleView → Exports
brought_by unit view = brought_entries unit view.parameters (instantiable (exported view))

-- of the entries of a nested module, its parameters: the constants and variables that the context round it does not hold
abbrev pub own_parameters : Context → Exports → Exports
own_parameters context entries = filter (λ entry. not (has context entry.0)) (parameters_in entries)

-- a nested module to those that name it, by what stands behind instances and the context round it
abbrev pub nested_view : Known → Context → Exports → ModuleView
nested_view known context entries = record { entries = entries_from known entries; parameters = own_parameters context entries }

-- ---- where instances and paths stand in a text

-- the trees of a unit in which names are used
abbrev pub unit_trees : UnitTree → Trees
unit_trees (OperatorDefinition local x) = Cons x Nil
unit_trees (FunctionDefinition local x) = Cons x Nil
unit_trees (ModuleDefinition local x) = Cons x Nil
unit_trees (Instance local x) = Cons x Nil
unit_trees (Assumption word name x) = Cons x Nil
unit_trees (Theorem word name x) = Cons x Nil
unit_trees _ = Nil

-- the module name behind the first INSTANCE among these
abbrev pub instance_among : Trees → Option Lexeme
instance_among Nil = None
instance_among (Cons (Node (Form.Instance l) s parts) rest) = Some l
instance_among (Cons x rest) = instance_among rest

-- the name of an instance, with the name of its module
abbrev pub named_instance : Form.the_data → Trees → List (Lexeme × Option Lexeme)
named_instance (Form.ModuleDefinition name) parts = (name, instance_among parts) ∷ []
named_instance form parts = []

-- where a path begins that leads through an instance
abbrev pub path_start : Form.the_data → Trees → List ℕ
path_start Form.Identifier (Cons (Node (Form.Segment l) s arguments) (Cons x rest)) = l.span.start ∷ []
path_start form parts = []

abbrev mutual
  -- the instances that a tree names, with the names of their modules, in the order of the text
  pub named_instances : Tree → List (Lexeme × Option Lexeme)
  named_instances (Node form s parts) = named_instance form parts ++ all_named_instances parts

  -- the same of several trees
  pub all_named_instances : Trees → List (Lexeme × Option Lexeme)
  all_named_instances Nil = []
  all_named_instances (Cons x rest) = named_instances x ++ all_named_instances rest

abbrev mutual
  -- where the paths that lead through an instance begin in a tree, in the order of the text
  pub path_starts : Tree → List ℕ
  path_starts (Node form s parts) = path_start form parts ++ all_path_starts parts

  -- the same of several trees
  pub all_path_starts : Trees → List ℕ
  all_path_starts Nil = []
  all_path_starts (Cons x rest) = path_starts x ++ all_path_starts rest

-- where the paths through instances begin in these units, in order
abbrev pub paths_in : List UnitTree → List ℕ
paths_in [] = []
paths_in (unit ∷ units) = all_path_starts (unit_trees unit) ++ paths_in units
