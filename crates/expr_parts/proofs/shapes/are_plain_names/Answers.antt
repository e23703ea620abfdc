use Rattle.std.proofs.Common.{sym, ◌∙◌}
use Rattle.tla_tree.specs.Arena.{tree_at}
use Rattle.expr_parts.proofs.Shaping.{names-not, names-end}
use Rattle.expr_parts.proofs.shapes.are_plain_names.Goals as goal

pub returns-then-not-is_plain_name : goal.returns-then-not-is_plain_name
returns-then-not-is_plain_name c =
    sym (names-not (tree_at c.args.tree.now) c.args.parts.now c.loop-part.part-index c.loop-part-test.true (sym c.is_plain_name.ensures ∙ c.if-not-is_plain_name.true))

pub returns : goal.returns
returns c =
    names-end (tree_at c.args.tree.now) c.args.parts.now c.loop-part.part-index c.is_empty.result c.is_empty.ensures c.loop-part-test.false c.loop-part.invariant
