use Rattle.std.proofs.Common.{sym, ◌∙◌}
use Rattle.expr_parts.proofs.Shaping.{lone-plain, lone-applied, lone-other}
use Rattle.expr_parts.proofs.shapes.lone_segment_shape.Goals as goal

pub returns-then-is_empty : goal.returns-then-is_empty
returns-then-is_empty c =
    lone-plain c.args.tree.now c.args.segment c.children.result.now c.in-Segment.name c.requires c.children.ensures.children c.children.ensures.before (sym c.form.ensures ∙ c.in-Segment.is) (sym c.is_empty.ensures ∙ c.if-is_empty.true)

pub returns-else-is_empty : goal.returns-else-is_empty
returns-else-is_empty c =
    lone-applied c.args.tree.now c.args.segment c.children.result.now c.in-Segment.name c.requires c.children.ensures.children c.children.ensures.before (sym c.form.ensures ∙ c.in-Segment.is) (sym c.is_empty.ensures ∙ c.if-is_empty.false)

pub returns-in_default : goal.returns-in_default
returns-in_default c =
    lone-other c.args.tree.now c.args.segment c.form.result c.requires (sym c.form.ensures) c.in_default.not-Segment
