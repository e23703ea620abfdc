use Rattle.std.proofs.Common.{sym, subst}
use Rattle.std.specs.Str.{IsUtf8}
use Rattle.server_locations.proofs.Placing.{some-utf8}
use Rattle.server_locations.proofs.locations.push_located.Goals as goal

pub from_utf8-requires-clause-utf8 : goal.from_utf8-requires-clause-utf8
from_utf8-requires-clause-utf8 c = subst IsUtf8 (sym c.bytes.ensures) (some-utf8 c.args.module.now.bytes c.args.spans.now c.requires.stand c.if-is_empty.ensures)
