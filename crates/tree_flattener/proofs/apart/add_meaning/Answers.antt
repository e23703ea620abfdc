use Rattle.std.proofs.Common.{◌∙◌, Some, [], ap, subst}
use Rattle.kind_text.specs.FlatModule.{Node}
use Rattle.flattened_trees.specs.NodeForms.{name_node}
use Rattle.tree_flattener.specs.Steps.{Adds}
use Rattle.tree_flattener.specs.Worlds.{with_locals, world_of}
use Rattle.tree_flattener.proofs.Within.{named-there}
use Rattle.tree_flattener.proofs.apart.add_meaning.Goals as goal

pub add_name-requires-clause-lead : goal.add_name-requires-clause-lead
add_name-requires-clause-lead g c =
    let w = world_of (g.N.Names.leads c.args.names.now) (g.N.Names.faces c.args.names.now) c.args.written.now in
    named-there w c.args.state.now c.requires c.deref.result.now c.deref.ensures.value (Some c.args.meaning.now) [] _ c.in_ok-lead.ensures

pub returns : goal.returns
returns g c =
    let w = world_of (g.N.Names.leads c.args.names.now) (g.N.Names.faces c.args.names.now) c.args.written.now in
    let lead = c.in_ok-lead.ensures ∙ ap (λ locals. with_locals w w.leads locals c.args.meaning.now []) c.deref.ensures.value in
    subst (λ (node : Node). Adds c.args.state.now c.add_name.new.state node c.in_ok-i.i) (λ i. name_node (c.operator_places-places.ensures i) (lead i) (c.new.ensures.items i)) c.in_ok-i.ensures
