use Rattle.std.proofs.Common.{subst, sym}
use Rattle.kind_text.proofs.Unfolding.{text-step}
use Rattle.tree_kinds.specs.Standing.{applied_to, item_of}
use Rattle.tree_kinds.specs.Expanding.{at_names, expand, places_at}
use Rattle.flat_trees.specs.Stands.{Matches}
use Rattle.flat_trees.specs.Names.{order_by}
use Rattle.flat_trees.proofs.BuiltNodes.{at-path, built-node}
use Rattle.flat_trees.proofs.built_nodes_are_expanded.Goals as goal

pub returns-clause-trees : goal.returns-clause-trees
returns-clause-trees c flat i node s text known named stands around x ordered there standing built =
    subst (λ y. Matches (order_by (places_at text known named around.context x)) y (expand text known named around x))
    (sym (text-step flat i node s ordered there)) (built-node flat node.form node.parts s stands around standing text known named x built)

pub returns-clause-names : goal.returns-clause-names
returns-clause-names c flat i node s stands around places path ordered there standing made =
    subst (λ y. Matches (order_by places) y (item_of places (λ more. at_names around (applied_to path more))))
    (sym (text-step flat i node s ordered there)) (at-path flat node.form node.parts s stands around standing places path made)
