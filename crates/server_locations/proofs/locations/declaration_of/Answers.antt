use Rattle.server_locations.proofs.Placing.{module-placed}
use Rattle.server_locations.proofs.locations.declaration_of.Goals as goal

pub declaration_in-requires : goal.declaration_in-requires
declaration_in-requires c = module-placed c.args.modules.now c.as_str.result.now c.in-Some.module.now c.requires c.in-Some.ensures
