use Rattle.flattened_depths.proofs.Knowing.{definition-asked, tree-asked}
use Rattle.flattened_depths.proofs.deep_definitions_are_asked.Goals as goal

pub returns-clause-trees : goal.returns-clause-trees
returns-clause-trees c flat text known named means implied faces inside seen layout setting beneath x i asked ordered knows fresh arranged readable flattened =
    tree-asked flat text known named means implied faces inside ordered seen layout setting beneath knows x i asked fresh arranged readable flattened

pub returns-clause-definitions : goal.returns-clause-definitions
returns-clause-definitions c flat text known named means implied faces inside seen layout setting beneath x lead roots asked ordered knows fresh arranged readable flattened =
    definition-asked flat text known named means implied faces inside ordered seen layout setting beneath knows x lead roots asked fresh arranged readable flattened
