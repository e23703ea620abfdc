use Rattle.std.proofs.Common.{◌≡◌, ◌++◌, drop}
use Rattle.server_locations.specs.Locations.{used_in}
use Rattle.server_locations.proofs.names.used_in.Given as goal

abbrev pub invariant-loop-found : goal.invariant-loop-found
invariant-loop-found l = l.spans ++ used_in (drop l.found-index l.uses) l.decl ≡ used_in l.uses l.decl
