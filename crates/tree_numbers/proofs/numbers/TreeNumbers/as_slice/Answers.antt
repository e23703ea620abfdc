use Rattle.std.proofs.Common.{subst, sym}
use Rattle.tree_numbers.specs.Numbered.{AreTold, TellTrees}
use Rattle.tree_numbers.proofs.Sharing.{nodes-tell, nodes-told, numbers-apart}
use Rattle.tree_numbers.proofs.numbers.TreeNumbers.as_slice.Goals as goal

pub returns-clause-told : goal.returns-clause-told
returns-clause-told c = λ flat numbered. subst (AreTold flat) (sym c.deref.ensures.value) (nodes-told flat c.args.self.now.nodes.items numbered.nodes)

pub returns-clause-trees : goal.returns-clause-trees
returns-clause-trees c = λ flat numbered.
    let numbers = c.args.self.now.nodes.items in
    let apart = numbers-apart flat c.args.self.now.keys.entries numbers numbered.firsts numbered.keys.apart in
    subst (TellTrees flat) (sym c.deref.ensures.value) (nodes-tell flat numbers numbered.nodes apart)
