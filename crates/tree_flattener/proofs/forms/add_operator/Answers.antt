use Rattle.std.proofs.Common.{[]}
use Rattle.std.specs.Option.{option_copied}
use Rattle.tree_flattener.specs.Worlds.{world_of}
use Rattle.tree_flattener.proofs.Within.{named-there}
use Rattle.tree_flattener.proofs.forms.add_operator.Goals as goal

pub add_name-requires-clause-lead : goal.add_name-requires-clause-lead
add_name-requires-clause-lead g c =
    named-there (world_of (g.N.Names.leads c.args.names.now) (g.N.Names.faces c.args.names.now) c.args.written.now) c.args.state.now c.requires.known c.deref.result.now c.deref.ensures.value (option_copied c.meaning-meaning.result) [] _ c.in_ok-lead.ensures
