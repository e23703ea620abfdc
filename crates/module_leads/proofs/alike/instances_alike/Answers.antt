use Rattle.kind_table.specs.Flattened.{flat_of}
use Rattle.module_leads.proofs.Telling.{instances-answered}
use Rattle.module_leads.proofs.alike.instances_alike.Goals as goal

pub returns : goal.returns
returns c = instances-answered (flat_of c.args.flat.now) c.args.numbers.now c.args.one c.args.other c.is_same_instance.result c.is_same_instance.ensures.same c.is_same_instance.ensures.found
