use Rattle.level_facts.proofs.Keeping.{bodies_on, kept_on}
use Rattle.kind_table.specs.Flattened.{flat_of}
use Rattle.level_facts.proofs.facts.number.Goals as goal

pub returns-clause-facts : goal.returns-clause-facts
returns-clause-facts c = record {
  firsts = c.requires.facts.firsts;
  table = c.number.ensures.grows.table;
  bodies = bodies_on (flat_of c.args.flat.now) c.args.arg c.number.ensures.grows c.requires.facts.bodies c.number.ensures.only c.requires.body;
  kept = kept_on (flat_of c.args.flat.now) c.number.ensures.grows c.args.facts.now.frames.keys c.args.facts.now.kept.entries c.requires.facts.kept;
}

pub returns-in_err-n-clause-facts : goal.returns-in_err-n-clause-facts
returns-in_err-n-clause-facts c = record {
  firsts = c.requires.facts.firsts;
  table = c.number.ensures.grows.table;
  bodies = bodies_on (flat_of c.args.flat.now) c.args.arg c.number.ensures.grows c.requires.facts.bodies c.number.ensures.only c.requires.body;
  kept = kept_on (flat_of c.args.flat.now) c.number.ensures.grows c.args.facts.now.frames.keys c.args.facts.now.kept.entries c.requires.facts.kept;
}
