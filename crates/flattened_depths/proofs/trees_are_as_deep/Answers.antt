use Rattle.flattened_depths.proofs.Knowing.{tree-deep, tree-places}
use Rattle.flattened_depths.proofs.trees_are_as_deep.Goals as goal

pub returns-clause-depths : goal.returns-clause-depths
returns-clause-depths c flat text known named means implied faces inside seen layout setting beneath x i asked ordered knows fresh arranged readable flattened =
    tree-deep flat text known named means implied faces inside ordered seen layout setting beneath knows x i asked fresh arranged readable flattened

pub returns-clause-places : goal.returns-clause-places
returns-clause-places c flat text known named means implied faces inside seen layout setting beneath x i asked ordered knows fresh arranged readable flattened =
    tree-places flat text known named means implied faces inside ordered seen layout setting beneath knows x i asked fresh arranged readable flattened
