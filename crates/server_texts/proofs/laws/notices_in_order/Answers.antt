use Rattle.server_texts.proofs.Noticing.{dues-ordered}
use Rattle.server_texts.proofs.laws.notices_in_order.Goals as goal

pub returns : goal.returns
returns c = dues-ordered
