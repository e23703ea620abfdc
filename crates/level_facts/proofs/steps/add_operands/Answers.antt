use Rattle.kind_table.specs.Flattened.{flat_of}
use Rattle.level_facts.proofs.Keeping.{kept_on, values_name}
use Rattle.level_facts.proofs.steps.add_operands.Goals as goal

pub returns-clause-facts : goal.returns-clause-facts
returns-clause-facts c = record { firsts = c.requires.facts.firsts; table = c.add_values.ensures.grows.table; bodies = values_name (flat_of c.args.flat.now) c.add_values.ensures.grows c.requires.facts.bodies c.add_values.ensures.only; kept = kept_on (flat_of c.args.flat.now) c.add_values.ensures.grows c.args.facts.now.frames.keys c.args.facts.now.kept.entries c.requires.facts.kept }

pub returns-in_err-add_values-clause-facts : goal.returns-in_err-add_values-clause-facts
returns-in_err-add_values-clause-facts c = record { firsts = c.requires.facts.firsts; table = c.add_values.ensures.grows.table; bodies = values_name (flat_of c.args.flat.now) c.add_values.ensures.grows c.requires.facts.bodies c.add_values.ensures.only; kept = kept_on (flat_of c.args.flat.now) c.add_values.ensures.grows c.args.facts.now.frames.keys c.args.facts.now.kept.entries c.requires.facts.kept }
