use Rattle.kind_table.specs.Flattened.{flat_of}
use Rattle.kind_table.proofs.Lookups.{definition_gone, definition_got}
use Rattle.level_facts.proofs.Bodies.{body_found, no_definition}
use Rattle.level_facts.proofs.steps.body_of.Goals as goal

pub returns-in-None : goal.returns-in-None
returns-in-None c = no_definition (flat_of c.args.flat.now) c.args.definition (definition_gone c.args.flat.now c.deref.result.now c.args.definition c.deref.ensures.value c.in-None.ensures.lookup.3)

pub returns-in-Some : goal.returns-in-Some
returns-in-Some c =
    let at_d = definition_got c.args.flat.now c.deref.result.now c.args.definition c.in-Some.body.now c.deref.ensures.value c.in-Some.ensures.lookup.3.0 c.in-Some.ensures.lookup.1 in
    body_found (flat_of c.args.flat.now) c.args.definition c.there.result c.in-Some.body.now at_d c.there.ensures
