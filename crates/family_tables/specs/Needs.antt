-- What a module needs.
use Rattle.std.specs.Prelude.{ℕ, List, map}
use Rattle.tla_tree.specs.declared.unit.ModuleTree.{ModuleTree}
use Rattle.tla_model.specs.Lexemes.{spelled}
use Rattle.unit_grammar.specs.UnitNodes.{module_of}
use Rattle.module_graph.specs.Imports.{imports_of}

-- the names of the modules that a tree needs
abbrev pub needs_of : ModuleTree → List (List ℕ)
needs_of tree = map (spelled tree.source) (imports_of tree.source (module_of tree))
