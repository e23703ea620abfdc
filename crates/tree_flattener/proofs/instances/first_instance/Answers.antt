use Rattle.std.proofs.Common.{sym, ap, ◌∙◌, ◌+◌, drop, take}
use Rattle.tree_flattener.specs.Making.{module_of}
use Rattle.tree_flattener.proofs.Instantiating.{split-at}
use Rattle.tree_flattener.proofs.instances.first_instance.Goals as goal

pub returns-in-Some : goal.returns-in-Some
returns-in-Some c =
    let i = c.loop-node.node-index in
    (take i c.args.nodes.now, drop (i + 1) c.args.nodes.now, split-at c.args.nodes.now i 0 c.loop-node-test.true, c.loop-node.invariant, sym (c.in-Some.ensures ∙ ap module_of c.form.ensures))
