use Rattle.std.proofs.Common.{◌≡◌, ◌∙◌, ◌∷◌, ◌++◌, ap, rules}
use Rattle.module_model.specs.Instances.{implied, left_sides}
use Rattle.name_context.specs.AsTables.{context_of}
use Rattle.declared_names.specs.Nodes.{parts_at}
use Rattle.tree_names.specs.Parameters.{entries_in, entry_in}
use Rattle.tree_scope.proofs.Replacing.{children-path, implied-next, written-are}
use Rattle.tree_scope.proofs.replacements.imply.Goals as goal

pub left_sides-requires : goal.left_sides-requires
left_sides-requires g c = children-path c.args.text.now c.args.tree.now c.args.node c.requires.node c.children.result.now c.children.ensures.children c.children.ensures.before

pub loop-parameter-preserved : goal.loop-parameter-preserved
loop-parameter-preserved g c =
    let nodes = c.args.tree.now in
    let node = c.args.node in
    let source = c.args.text.now.source in
    let left = left_sides source (parts_at nodes node) in
    let context = context_of c.args.context.now in
    let rest = c.next.new.self.rest.items in
    let written = written-are c.args.text.now nodes node c.requires.node c.children.result.now c.children.ensures.children c.children.ensures.before (context_of c.in_ok-written.written) c.in_ok-written.ensures in
    let split : c.in-Some.parameter ∷ rest ≡ c.loop-parameter.parameter-iterator.rest.items = search rules in
    implied-next context (context_of c.in_ok-written.written) c.args.«module» left c.loop-parameter.findings c.imply_one.new.findings _ (entry_in c.in-Some.parameter) (entries_in rest) written c.in_ok-imply_one.ensures
    (ap (λ z. c.loop-parameter.findings ++ implied context c.args.«module» left (entries_in z)) split ∙ c.loop-parameter.invariant)
