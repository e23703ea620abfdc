use Rattle.std.proofs.Common.{◌≡◌, ◌++◌, drop}
use Rattle.server_locations.specs.Locations.{all_uses_of, places_of}
use Rattle.server_locations.proofs.locations.places_of.Given as goal

abbrev pub invariant-loop-module : goal.invariant-loop-module
invariant-loop-module l = l.places ++ all_uses_of l.documents (drop l.module-index l.modules) l.decl ≡ places_of l.documents l.modules l.declared l.decl
