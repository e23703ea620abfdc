use Rattle.std.specs.Prelude.{string_bytes}
use Rattle.lsp_wire.specs.Written.{location_data}
use Rattle.lsp_wire.proofs.Texts.{IsSoFar}
use Rattle.lsp_wire.proofs.pieces.locations_text.Given as goal

abbrev pub invariant-locations : goal.invariant-locations
invariant-locations l = IsSoFar location_data l.locations l.location-index l.later (string_bytes l.text)
