use Rattle.server_texts.proofs.Listing.{root-modules-ordered}
use Rattle.server_texts.proofs.laws.root_modules_in_order.Goals as goal

pub returns : goal.returns
returns c = root-modules-ordered
