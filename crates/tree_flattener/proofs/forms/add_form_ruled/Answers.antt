use Rattle.std.proofs.Common.{sym, subst, ◌<◌, length}
use Rattle.std.specs.List.{AllByRecursion}
use Rattle.tree_flattener.proofs.MadeForms.{in-order-all}
use Rattle.tree_flattener.proofs.forms.add_form_ruled.Goals as goal

pub add_ruled-requires : goal.add_ruled-requires
add_ruled-requires c =
    record { parts = subst (AllByRecursion (λ i. i < length c.args.state.now.flat.nodes)) (sym c.in_ok-ordered.ensures) (in-order-all (λ i. i < length c.args.state.now.flat.nodes) c.args.form c.args.is.items c.requires.parts) }
