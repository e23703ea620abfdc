use Rattle.server_uris.proofs.Cutting.{front-cut}
use Rattle.server_uris.proofs.member.behind_front.Goals as goal

pub returns : goal.returns
returns c = front-cut c.args.front.now c.args.text.now c.strip_prefix.result c.strip_prefix.ensures.cases
