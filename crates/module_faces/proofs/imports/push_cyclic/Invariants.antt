use Rattle.std.proofs.Common.{◌≡◌, ◌++◌, drop}
use Rattle.module_facts.specs.Checks.{cyclic_at}
use Rattle.module_faces.proofs.imports.push_cyclic.Given as goal

abbrev pub invariant-loop-name : goal.invariant-loop-name
invariant-loop-name l = l.faults ++ cyclic_at (drop l.name-index l.names) ≡ l.initial.faults ++ cyclic_at l.names
