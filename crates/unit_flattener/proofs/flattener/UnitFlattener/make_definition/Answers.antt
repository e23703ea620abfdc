use Rattle.std.proofs.Common.{[], subst}
use Rattle.std.proofs.lemmas.Result.{IfOk-weaker}
use Rattle.tla_tree.specs.Arena.{tree_at}
use Rattle.tree_flattener.specs.Apart.{IsMadeApart}
use Rattle.unit_flattener.specs.Walking.{world_at}
use Rattle.unit_flattener.proofs.flattener.UnitFlattener.make_definition.Goals as goal

pub returns-clause-made : goal.returns-clause-made
returns-clause-made c =
    let old = c.args.self.now in let written = c.args.written.now in
    IfOk-weaker c.definition_apart.result _ _
    (λ local made. (
      c.definition_apart.new.roots.items,
      subst (λ first. IsMadeApart (world_at written old) old.state c.definition_apart.new.state old.frame [] (tree_at written.tree.now c.args.node) local first c.definition_apart.new.roots.items) c.new-roots.ensures.items made,
    ))
    c.definition_apart.ensures
