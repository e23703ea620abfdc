use Rattle.std.proofs.Common.{ap, ◌∙◌}
use Rattle.std.specs.Prelude.{slice_get}
use Rattle.std.specs.Option.{option_map}
use Rattle.tla_tree.specs.Arena.{tree_at}
use Rattle.tree_flattener.specs.declared.locals.Entry.{Entry}
use Rattle.tree_flattener.specs.Worlds.{world_of}
use Rattle.tree_flattener.proofs.TakenNames.{apart-made}
use Rattle.tree_flattener.proofs.apart.definition_apart.Goals as goal

pub returns : goal.returns
returns g c =
    let w = world_of (g.N.Names.leads c.args.names.now) (g.N.Names.faces c.args.names.now) c.args.written.now in
    apart-made w c.args.state.now c.definition.new.state c.leave.new.state c.args.frame c.args.olds.now (tree_at w.nodes c.args.node) c.len-mark.result c.behind_mark-local.result c.args.roots.now.items c.definition.new.roots.items
    c.requires.ready (c.len-mark.ensures ∙ c.args.state.now.locals.ok.0) c.in_ok-definition.ensures
    (c.behind_mark-local.ensures ∙ ap (λ entries. option_map (λ (entry : Entry). entry.local) (slice_get entries c.len-mark.result)) c.deref.ensures.value) c.leave.ensures
