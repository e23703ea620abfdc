use Rattle.tree_scope.proofs.Replacing.{children-path}
use Rattle.tree_scope.proofs.replacements.push_instance.Goals as goal

pub replacements-requires : goal.replacements-requires
replacements-requires c = children-path c.args.text.now c.args.tree.now c.args.node c.requires c.children.result.now c.children.ensures.children c.children.ensures.before
