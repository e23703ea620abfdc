use Rattle.tla_tree.specs.Arena.{tree_at}
use Rattle.expr_parts.proofs.Shaping.{plain-many}
use Rattle.expr_parts.proofs.shapes.plain_shape.Goals as goal

pub returns-in_default-2 : goal.returns-in_default-2
returns-in_default-2 c = plain-many (tree_at c.args.tree.now) c.args.segments.now c.in_default.len_at_least
