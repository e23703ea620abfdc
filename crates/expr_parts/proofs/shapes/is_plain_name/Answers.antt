use Rattle.std.proofs.Common.{sym, ap, ◌∙◌}
use Rattle.tla_tree.proofs.Nodes.{before-there}
use Rattle.expr_grammar.specs.Tables.{is_plain}
use Rattle.expr_parts.proofs.Shaping.{name-identifier, name-not}
use Rattle.expr_parts.proofs.shapes.is_plain_name.Goals as goal

pub plain_shape-requires : goal.plain_shape-requires
plain_shape-requires c = before-there c.args.tree.now c.args.node c.children.result.now c.requires c.children.ensures.before

pub returns-in-Identifier : goal.returns-in-Identifier
returns-in-Identifier c =
    name-identifier c.args.tree.now c.args.node c.children.result.now c.is_plain.result c.requires c.children.ensures.children c.children.ensures.before (sym c.form.ensures ∙ c.in-Identifier.is) (c.is_plain.ensures ∙ ap is_plain c.plain_shape.ensures)

pub returns-in_default : goal.returns-in_default
returns-in_default c =
    name-not c.args.tree.now c.args.node c.form.result c.requires (sym c.form.ensures) c.in_default.not-Identifier
