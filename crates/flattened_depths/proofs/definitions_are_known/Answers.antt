use Rattle.flattened_depths.proofs.Knowing.{definition-known}
use Rattle.flattened_depths.proofs.definitions_are_known.Goals as goal

pub returns : goal.returns
returns c flat text known named means implied faces inside seen layout setting beneath x lead roots asked ordered knows fresh arranged readable flattened =
    definition-known flat text known named means implied faces inside ordered seen layout setting beneath knows x lead roots asked fresh arranged readable flattened
