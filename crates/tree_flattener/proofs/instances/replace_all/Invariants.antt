use Rattle.std.proofs.Common.{[], drop, map}
use Rattle.tree_names.specs.Parameters.{entry_in}
use Rattle.tree_flattener.specs.Replacing.{ReplacesSome, rights_in}
use Rattle.tree_flattener.specs.Worlds.{implied_of, setting_of, world_of}
use Rattle.tree_flattener.proofs.instances.replace_all.Given as goal

abbrev pub invariant-loop-parameter : goal.invariant-loop-parameter
invariant-loop-parameter g l =
    let w = world_of (g.N.Names.leads l.names) (g.N.Names.faces l.names) l.written in
    ReplacesSome (setting_of w l.fn.state l.frame []) l.constant (rights_in l.rights) l.«module» l.fn.state l.state (map entry_in l.items) (map entry_in (drop l.parameter-index l.items))
    (implied_of l.written l.«module».span.start) (drop l.next (implied_of l.written l.«module».span.start)) l.fn.made.items l.made.items
