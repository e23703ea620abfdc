use Rattle.kind_table.specs.Flattened.{flat_of}
use Rattle.node_depths.proofs.Stepping.{depths_extended}
use Rattle.node_depths.proofs.depths.Depths.extend.Goals as goal

pub returns-in-Ok-clause-extended : goal.returns-in-Ok-clause-extended
returns-in-Ok-clause-extended c = λ before more ordered h. depths_extended before (flat_of c.args.flat.now) c.args.self.now.nodes.items c.add_depths.new.depths.items c.in-Ok.ensures.depths more ordered h
