use Rattle.std.proofs.Common.{◌≡◌, drop}
use Rattle.server_locations.specs.Locations.{module_named}
use Rattle.server_locations.proofs.found.module_named.Given as goal

abbrev pub invariant-loop-module : goal.invariant-loop-module
invariant-loop-module l = module_named (drop l.module-index l.modules) l.name ≡ module_named l.modules l.name
