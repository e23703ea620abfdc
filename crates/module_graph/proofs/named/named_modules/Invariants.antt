use Rattle.std.proofs.Common.{◌≡◌, ◌++◌, drop}
use Rattle.std.specs.Prelude.{⊤, map}
use Rattle.unit_grammar.specs.UnitNodes.{module_of, unit_at}
use Rattle.module_scope.specs.Environments.{Scope}
use Rattle.module_scope.specs.Imports.{enclosing_from, enclosing_of, imports_from, imports_of}
use Rattle.module_scope.specs.Kept.{IsAt}
use Rattle.module_graph.proofs.named.named_modules.Given as goal

abbrev pub invariant-loop-unit : goal.invariant-loop-unit
invariant-loop-unit l =
    (scope : Scope ⊤) × IsAt l.modules scope
    × (l.needed ++ imports_from l.source l.outermost scope (map (unit_at l.tree.tree) (drop l.unit-index l.tree.units)) ≡ imports_of l.tree.source (module_of l.tree))
    × (l.enclosing ++ enclosing_from l.source scope (map (unit_at l.tree.tree) (drop l.unit-index l.tree.units)) ≡ enclosing_of l.tree.source (module_of l.tree))
