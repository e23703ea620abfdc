use Rattle.std.proofs.Common.{subst, ap, ◌∙◌}
use Rattle.declared_names.specs.Nodes.{form_at, parts_at}
use Rattle.tree_flattener.specs.declared.shapes.Making.TheVariants as making
use Rattle.tree_flattener.specs.Steps.{Adds}
use Rattle.tree_flattener.specs.Worlds.{setting_of, world_of}
use Rattle.flattened_trees.specs.NodeForms.{operator_node}
use Rattle.tree_flattener.proofs.MadeForms.{form-made-as}
use Rattle.tree_flattener.proofs.forms.add_form.Goals as goal

pub returns-in_ok-i-in-Path : goal.returns-in_ok-i-in-Path
returns-in_ok-i-in-Path g c =
    let w = world_of (g.N.Names.leads c.args.names.now) (g.N.Names.faces c.args.names.now) c.args.written.now in
    λ frame.
    subst (λ n. Adds c.args.state.now c.add_path.new.state n c.in_ok-i-in-Path.i)
    (form-made-as w.text.source w.means (setting_of w c.args.state.now frame c.args.olds.now) making.Path (form_at w.nodes c.args.node) c.form-form.result c.in-Path.ensures c.form-form.ensures (parts_at w.nodes c.args.node) c.args.is.items)
    (c.in_ok-i-in-Path.ensures frame c.args.olds.now)

pub returns-in_ok-i-in-Bare : goal.returns-in_ok-i-in-Bare
returns-in_ok-i-in-Bare g c =
    let w = world_of (g.N.Names.leads c.args.names.now) (g.N.Names.faces c.args.names.now) c.args.written.now in
    λ frame.
    subst (λ n. Adds c.args.state.now c.add_bare.new.state n c.in_ok-i-in-Bare.i)
    (form-made-as w.text.source w.means (setting_of w c.args.state.now frame c.args.olds.now) (making.Bare c.in-Bare.symbol) (form_at w.nodes c.args.node) c.form-form.result c.in-Bare.ensures c.form-form.ensures (parts_at w.nodes c.args.node) c.args.is.items)
    (c.in_ok-i-in-Bare.ensures frame c.args.olds.now)

pub returns-in_ok-i-in-Operator : goal.returns-in_ok-i-in-Operator
returns-in_ok-i-in-Operator g c =
    let w = world_of (g.N.Names.leads c.args.names.now) (g.N.Names.faces c.args.names.now) c.args.written.now in
    λ frame.
    subst (λ n. Adds c.args.state.now c.add_operator.new.state n c.in_ok-i-in-Operator.i)
    (ap (λ z. operator_node w.text.source w.means (setting_of w c.args.state.now frame c.args.olds.now) c.in-Operator.symbol z c.args.is.items) c.symbol_rule-rule.ensures
    ∙ form-made-as w.text.source w.means (setting_of w c.args.state.now frame c.args.olds.now) (making.Operator c.in-Operator.fix c.in-Operator.symbol) (form_at w.nodes c.args.node) c.form-form.result c.in-Operator.ensures c.form-form.ensures (parts_at w.nodes c.args.node) c.args.is.items)
    (c.in_ok-i-in-Operator.ensures frame c.args.olds.now)
