use Rattle.flat_builder.proofs.Growing.{extends-definition, extends-instance, extends-node}
use Rattle.flat_builder.proofs.more_is_there.Goals as goal

pub returns-clause-nodes : goal.returns-clause-nodes
returns-clause-nodes c = extends-node

pub returns-clause-definitions : goal.returns-clause-definitions
returns-clause-definitions c = extends-definition

pub returns-clause-instances : goal.returns-clause-instances
returns-clause-instances c = extends-instance
