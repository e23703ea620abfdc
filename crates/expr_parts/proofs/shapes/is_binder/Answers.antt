use Rattle.std.proofs.Common.{sym, ap, ◌∙◌}
use Rattle.tla_tree.proofs.Nodes.{before-there}
use Rattle.expr_grammar.specs.Tables.{is_plain}
use Rattle.expr_parts.proofs.Shaping.{binder-identifier, binder-tuple, binder-not}
use Rattle.expr_parts.proofs.shapes.is_binder.Goals as goal

pub plain_shape-requires : goal.plain_shape-requires
plain_shape-requires c = before-there c.args.tree.now c.args.node c.children.result.now c.requires c.children.ensures.before

pub are_plain_names-requires : goal.are_plain_names-requires
are_plain_names-requires c = before-there c.args.tree.now c.args.node c.children-in-Tuple.result.now c.requires c.children-in-Tuple.ensures.before

pub returns-in-Identifier : goal.returns-in-Identifier
returns-in-Identifier c =
    binder-identifier c.args.tree.now c.args.node c.children.result.now c.is_plain.result c.requires c.children.ensures.children c.children.ensures.before (sym c.form.ensures ∙ c.in-Identifier.is) (c.is_plain.ensures ∙ ap is_plain c.plain_shape.ensures)

pub returns-in-Tuple : goal.returns-in-Tuple
returns-in-Tuple c =
    binder-tuple c.args.tree.now c.args.node c.children-in-Tuple.result.now c.are_plain_names.result c.requires c.children-in-Tuple.ensures.children c.children-in-Tuple.ensures.before (sym c.form.ensures ∙ c.in-Tuple.is) c.are_plain_names.ensures

pub returns-in_default : goal.returns-in_default
returns-in_default c =
    binder-not c.args.tree.now c.args.node c.form.result c.requires (sym c.form.ensures) c.in_default.not-Identifier c.in_default.not-Tuple
