use Rattle.std.proofs.Common.{ap, Some, ◌∙◌}
use Rattle.tree_parts.specs.Parts.{joined}
use Rattle.expr_parse.proofs.Renaming.{as-field-is}
use Rattle.expr_parse.proofs.convert.as_field.Goals as goal

pub returns : goal.returns
returns c last spelled part =
    as-field-is _ _ c.args.part _ c.args.name c.args.mark c.joined-span.result _ last spelled c.in_ok-node.ensures.ok c.covered.ensures
    (c.joined-span.ensures ∙ ap (λ z. joined (Some c.args.name.span) z) c.joined.ensures) c.in_ok-node.ensures.number part
