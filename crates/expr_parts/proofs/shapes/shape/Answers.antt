use Rattle.std.proofs.Common.{refl, sym, ◌∙◌}
use Rattle.tla_tree.specs.declared.form.Form.{Form}
use Rattle.tla_tree.proofs.Nodes.{before-there}
use Rattle.expr_grammar.specs.declared.wait.Shape.{Shape}
use Rattle.expr_parts.proofs.Shaping.{shape-form, shape-either, shape-identifier, shape-infix, shape-other}
use Rattle.expr_parts.proofs.shapes.shape.Goals as goal

pub plain_shape-requires : goal.plain_shape-requires
plain_shape-requires c = before-there c.args.tree.now c.args.node c.children.result.now c.requires c.children.ensures.before

pub infix_shape-requires : goal.infix_shape-requires
infix_shape-requires c = before-there c.args.tree.now c.args.node c.children-in-Infix.result.now c.requires c.children-in-Infix.ensures.before

pub returns-in-Identifier : goal.returns-in-Identifier
returns-in-Identifier c =
    shape-identifier c.args.tree.now c.args.node c.children.result.now c.plain_shape.result c.requires c.children.ensures.children c.children.ensures.before (sym c.form.ensures ∙ c.in-Identifier.is) c.plain_shape.ensures

pub returns-in-Infix : goal.returns-in-Infix
returns-in-Infix c =
    shape-infix c.args.tree.now c.args.node c.children-in-Infix.result.now c.in-Infix.symbol c.infix_shape.result c.requires c.children-in-Infix.ensures.children c.children-in-Infix.ensures.before (sym c.form.ensures ∙ c.in-Infix.is) c.infix_shape.ensures

pub returns-in-Names : goal.returns-in-Names
returns-in-Names c = shape-either c.args.tree.now c.args.node Shape.Names c.form.result Form.Names Form.TupleNames c.requires (sym c.form.ensures) c.in-Names.is (λ span parts. refl) (λ span parts. refl)

pub returns-in-Bound : goal.returns-in-Bound
returns-in-Bound c = shape-either c.args.tree.now c.args.node Shape.Bound c.form.result Form.Bound Form.TupleBound c.requires (sym c.form.ensures) c.in-Bound.is (λ span parts. refl) (λ span parts. refl)

pub returns-in-Arm : goal.returns-in-Arm
returns-in-Arm c = shape-form c.args.tree.now c.args.node Shape.Arm Form.Arm c.requires (sym c.form.ensures ∙ c.in-Arm.is) (λ span parts. refl)

pub returns-in-OtherArm : goal.returns-in-OtherArm
returns-in-OtherArm c = shape-form c.args.tree.now c.args.node Shape.OtherArm Form.OtherArm c.requires (sym c.form.ensures ∙ c.in-OtherArm.is) (λ span parts. refl)

pub returns-in-Instance : goal.returns-in-Instance
returns-in-Instance c = shape-form c.args.tree.now c.args.node Shape.Instance (Form.Instance c.in-Instance.field-0) c.requires (sym c.form.ensures ∙ c.in-Instance.is) (λ span parts. refl)

pub returns-in-Symbol : goal.returns-in-Symbol
returns-in-Symbol c = shape-form c.args.tree.now c.args.node Shape.Symbol (Form.Symbol c.in-Symbol.field-0) c.requires (sym c.form.ensures ∙ c.in-Symbol.is) (λ span parts. refl)

pub returns-in_default : goal.returns-in_default
returns-in_default c =
    shape-form c.args.tree.now c.args.node c.helper_shape.result c.form.result c.requires (sym c.form.ensures) (λ span parts. c.helper_shape.ensures ∙ shape-other c.form.result c.in_default.not-Identifier c.in_default.not-Infix c.in_default.not-Names c.in_default.not-TupleNames c.in_default.not-Bound c.in_default.not-TupleBound c.in_default.not-Arm c.in_default.not-OtherArm c.in_default.not-Instance c.in_default.not-Symbol span parts)
