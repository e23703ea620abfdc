use Rattle.list_laws.proofs.Lists.{drop-at}
use Rattle.list_laws.proofs.drops_one.Goals as goal

pub returns : goal.returns
returns g c = drop-at
