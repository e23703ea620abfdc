use Rattle.list_laws.proofs.Lists.{pushed-cases}
use Rattle.list_laws.proofs.pushed_items.Goals as goal

pub returns : goal.returns
returns g c = pushed-cases
