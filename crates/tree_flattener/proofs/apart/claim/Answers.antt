use Rattle.std.proofs.Common.{◌∙◌}
use Rattle.tla_tree.specs.Arena.{tree_at}
use Rattle.tree_flattener.specs.Worlds.{world_of}
use Rattle.tree_flattener.proofs.TakenNames.{claim-made}
use Rattle.tree_flattener.proofs.apart.claim.Goals as goal

pub returns : goal.returns
returns g c =
    let w = world_of (g.N.Names.leads c.args.names.now) (g.N.Names.faces c.args.names.now) c.args.written.now in
    claim-made w c.args.state.now c.ask_claim.new.state c.flatten.new.state c.give_number.new.state c.args.frame c.args.olds.now c.args.word (tree_at w.nodes c.args.node) c.in_ok-i.i c.len-from.result c.len-to.result
    c.requires.ready c.in_ok-ask_claim.ensures c.in_ok-i.ensures c.give_number.ensures (c.len-from.ensures ∙ c.args.state.now.asked.ok.0) (c.len-to.ensures ∙ c.ask_claim.new.state.asked.ok.0)
