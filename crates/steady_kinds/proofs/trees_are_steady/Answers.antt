use Rattle.std.proofs.Common.{refl}
use Rattle.steady_kinds.specs.Steady.{IsOpen}
use Rattle.steady_kinds.proofs.Binding.{tree-binds}
use Rattle.steady_kinds.proofs.Trees.{defined-same, expand-same}
use Rattle.steady_kinds.proofs.trees_are_steady.Goals as goal

pub returns-clause-expressions : goal.returns-clause-expressions
returns-clause-expressions c = λ declares text known named context a b old x steady alike binds. expand-same text known named (IsOpen declares) steady context a b old old refl alike x binds

pub returns-clause-definitions : goal.returns-clause-definitions
returns-clause-definitions c = λ declares text known named context a b old x steady alike binds. defined-same text known named (IsOpen declares) steady context a b old old refl alike x binds

pub returns-clause-names : goal.returns-clause-names
returns-clause-names c = tree-binds
