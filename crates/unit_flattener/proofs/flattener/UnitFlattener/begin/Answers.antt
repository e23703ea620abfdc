use Rattle.unit_flattener.proofs.Beginning.{begins-so, begins-there}
use Rattle.unit_flattener.proofs.Results.{on-ok}
use Rattle.unit_flattener.proofs.flattener.UnitFlattener.begin.Goals as goal

pub enter-requires-clause-begins : goal.enter-requires-clause-begins
enter-requires-clause-begins c = begins-so c.args.unit.now c.args.name c.args.extends.now c.requires.begins

pub returns : goal.returns
returns c =
    on-ok c.extend.result c.extend.ensures.extended
    (λ extends. begins-there c.args.written.now c.args.self.now c.enter.new.self c.extend.new.self c.args.unit.now c.args.name c.args.extends.now c.requires.begins c.in_ok-enter.ensures.entered extends)
