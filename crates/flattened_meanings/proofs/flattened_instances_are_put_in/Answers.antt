use Rattle.flattened_meanings.proofs.Meant.{instance-stands}
use Rattle.flattened_meanings.proofs.flattened_instances_are_put_in.Goals as goal

pub returns : goal.returns
returns c flat text known named means implied faces nameable layout setting seen l at rights outer count guards written roots j asked more ordered round can are is =
    instance-stands flat text known named means implied faces nameable ordered layout setting seen l at rights outer count guards written roots j asked more round can are is
