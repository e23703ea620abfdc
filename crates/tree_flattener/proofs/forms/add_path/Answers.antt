use Rattle.std.proofs.Common.{sym, subst}
use Rattle.std.specs.Option.{option_copied}
use Rattle.tree_flattener.specs.Worlds.{AreNodes, world_of}
use Rattle.tree_flattener.proofs.Lying.{kids-lie}
use Rattle.tree_flattener.proofs.MadeForms.{nodes-rest}
use Rattle.tree_flattener.proofs.Within.{named-there}
use Rattle.tree_flattener.proofs.forms.add_path.Goals as goal

pub path_names-requires : goal.path_names-requires
path_names-requires g c =
    let w = world_of (g.N.Names.leads c.args.names.now) (g.N.Names.faces c.args.names.now) c.args.written.now in
    subst (AreNodes w.text.source w.nodes) (sym c.rest.ensures)
    (nodes-rest w.text.source w.nodes c.children-segments.result.now (kids-lie w c.args.node c.children-segments.result.now c.requires.node c.children-segments.ensures.children c.children-segments.ensures.before))

pub add_name-requires-clause-lead : goal.add_name-requires-clause-lead
add_name-requires-clause-lead g c =
    named-there (world_of (g.N.Names.leads c.args.names.now) (g.N.Names.faces c.args.names.now) c.args.written.now) c.args.state.now c.requires.known c.deref.result.now c.deref.ensures.value (option_copied c.meaning-meaning.result) _ _ c.in_ok-lead-in-Some.ensures
