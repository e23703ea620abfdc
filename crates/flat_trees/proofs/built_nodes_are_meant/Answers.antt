use Rattle.flat_trees.proofs.Definitions.{node-meant}
use Rattle.flat_trees.proofs.built_nodes_are_meant.Goals as goal

pub returns : goal.returns
returns c flat i node text known named layout x ordered there built = node-meant flat text known named layout i node x ordered there built
