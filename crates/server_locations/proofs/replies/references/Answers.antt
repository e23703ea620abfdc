use Rattle.server_locations.proofs.Placing.{module-placed}
use Rattle.server_locations.proofs.replies.references.Goals as goal

pub references_in-requires-clause-one : goal.references_in-requires-clause-one
references_in-requires-clause-one c = module-placed c.args.modules.now c.as_str.result.now c.in-Some-module_named.module.now c.requires c.in-Some-module_named.ensures
