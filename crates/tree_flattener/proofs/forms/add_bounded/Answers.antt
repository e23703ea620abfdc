use Rattle.std.proofs.Common.{sym, subst, [], ◌<◌, length}
use Rattle.std.specs.List.{AllByRecursion}
use Rattle.tree_flattener.proofs.MadeForms.{last-first-all}
use Rattle.tree_flattener.proofs.forms.add_bounded.Goals as goal

pub add_plain-requires-clause-parts : goal.add_plain-requires-clause-parts
add_plain-requires-clause-parts c =
    subst (AllByRecursion (λ i. i < length c.args.state.now.flat.nodes)) (sym c.in_ok-ordered.ensures) (last-first-all (λ i. i < length c.args.state.now.flat.nodes) [] c.args.is.items tt c.requires.parts)
