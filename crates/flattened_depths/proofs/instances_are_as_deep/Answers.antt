use Rattle.flattened_depths.proofs.Knowing.{instance-asked, instance-known}
use Rattle.flattened_depths.proofs.instances_are_as_deep.Goals as goal

pub returns-clause-depths : goal.returns-clause-depths
returns-clause-depths c flat text known named means implied faces inside seen layout setting beneath l at rights outer count guards sides roots j a b ordered knows fresh none arranged readable flattened puts =
    instance-known flat text known named means implied faces inside ordered seen layout setting beneath knows l at rights fresh none arranged readable outer count guards sides roots j a b flattened puts

pub returns-clause-questions : goal.returns-clause-questions
returns-clause-questions c flat text known named means implied faces inside seen layout setting beneath l at rights outer count guards sides roots j a b ordered knows fresh none arranged readable flattened puts =
    instance-asked flat text known named means implied faces inside ordered seen layout setting beneath knows l at rights fresh none arranged readable outer count guards sides roots j a b flattened puts
