use Rattle.std.proofs.Common.{[], ◌∙◌, ap, subst}
use Rattle.std.specs.Prelude.{Some}
use Rattle.tree_kinds.specs.Standing.{operator_places}
use Rattle.flattened_trees.specs.NodeForms.{name_node}
use Rattle.tree_flattener.specs.Steps.{Adds}
use Rattle.tree_flattener.specs.Worlds.{with_locals, world_of}
use Rattle.tree_flattener.proofs.Within.{known-on}
use Rattle.unit_flattener.proofs.ExtendedModules.{shared-next, shared-none}
use Rattle.unit_flattener.proofs.extending.share.Goals as goal

pub loop-parameter-init : goal.loop-parameter-init
loop-parameter-init g c = shared-none c.args.state.now (g.N.Names.leads c.args.names.now) c.args.made.now.items

pub add_meaning-requires : goal.add_meaning-requires
add_meaning-requires g c =
    let w = world_of (g.N.Names.leads c.args.names.now) (g.N.Names.faces c.args.names.now) c.args.written.now in
    known-on w c.args.state.now c.loop-parameter.state c.loop-parameter.invariant.steps.extends c.loop-parameter.invariant.locals c.requires.known

pub loop-parameter-preserved : goal.loop-parameter-preserved
loop-parameter-preserved g c =
    let leads = g.N.Names.leads c.args.names.now in
    let w = world_of leads (g.N.Names.faces c.args.names.now) c.args.written.now in
    let meaning = c.parameter-item.result.meaning in
    shared-next c.args.state.now c.loop-parameter.state c.add_meaning.new.state leads c.args.parameters.now c.loop-parameter.parameter-index c.parameter-item.result c.in_ok-root.root c.args.made.now.items c.loop-parameter.made.items c.push.new.self.items
    c.loop-parameter-test.true c.parameter-item.is c.loop-parameter.invariant
    (subst (λ z. Adds c.loop-parameter.state c.add_meaning.new.state (name_node (operator_places (Some meaning)) (z meaning []) []) c.in_ok-root.root)
    (ap (with_locals w leads) (c.loop-parameter.invariant.locals ∙ c.requires.locals)) c.in_ok-root.ensures) c.in_ok-push.ensures.items
