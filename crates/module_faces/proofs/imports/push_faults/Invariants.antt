use Rattle.std.proofs.Common.{◌≡◌, ◌++◌, drop}
use Rattle.module_facts.specs.Checks.{faults_of_imports, given_in}
use Rattle.module_faces.proofs.imports.push_faults.Given as goal

abbrev pub invariant-loop-name : goal.invariant-loop-name
invariant-loop-name l = l.faults ++ faults_of_imports (given_in l.imported) l.source (drop l.name-index l.names) ≡ l.initial.faults ++ faults_of_imports (given_in l.imported) l.source l.names
