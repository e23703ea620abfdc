use Rattle.kind_table.specs.Flattened.{flat_of}
use Rattle.level_facts.proofs.Operands.{operand_past, operand_there}
use Rattle.level_facts.proofs.steps.operand.Goals as goal

pub returns-in-Some-clause-found : goal.returns-in-Some-clause-found
returns-in-Some-clause-found c =
    operand_there (flat_of c.args.flat.now) c.args.frame.now c.args.place c.in-Some.n.now c.requires.facts.table c.requires.frame c.in-Some.ensures.lookup.3.0 c.in-Some.ensures.lookup.1

pub returns-in_ok-n-in-None-clause-found : goal.returns-in_ok-n-in-None-clause-found
returns-in_ok-n-in-None-clause-found c =
    operand_past (flat_of c.args.flat.now) c.args.frame.now c.args.place c.in_ok-n-in-None.n c.in-None.ensures.lookup.3 c.in_ok-n-in-None.ensures.grows c.in_ok-n-in-None.ensures.stored
