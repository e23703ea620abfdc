use Rattle.kind_table.specs.Flattened.{definition_of, flat_of}
use Rattle.level_facts.proofs.Operands.{closure_missing, closure_there}
use Rattle.level_facts.proofs.steps.closure.Goals as goal

pub number-requires-in-Some-clause-body : goal.number-requires-in-Some-clause-body
number-requires-in-Some-clause-body c = (definition_of c.in-Some.body, c.in-Some.ensures.here, c.in-Some.ensures.root)

pub returns-in_ok-n-in-None-clause-found : goal.returns-in_ok-n-in-None-clause-found
returns-in_ok-n-in-None-clause-found c =
    closure_missing (flat_of c.args.flat.now) c.args.definition c.args.frame.now c.in_ok-n-in-None.n c.in-None.ensures c.in_ok-n-in-None.ensures.grows c.in_ok-n-in-None.ensures.stored

pub returns-in_ok-n-in-Some-clause-found : goal.returns-in_ok-n-in-Some-clause-found
returns-in_ok-n-in-Some-clause-found c =
    closure_there (flat_of c.args.flat.now) c.args.definition (definition_of c.in-Some.body) c.args.frame.now c.in_ok-outer-in-Some.outer c.in_ok-n-in-Some.n c.in-Some.ensures.here c.in_ok-outer-in-Some.ensures c.in_ok-n-in-Some.ensures.grows c.in_ok-n-in-Some.ensures.stored
