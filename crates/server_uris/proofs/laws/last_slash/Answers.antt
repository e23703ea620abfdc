use Rattle.server_uris.proofs.Slashes.{last_slash_is}
use Rattle.server_uris.proofs.laws.last_slash.Goals as goal

pub returns : goal.returns
returns c = last_slash_is
