use Rattle.std.proofs.Common.{sym, ap, ◌∙◌}
use Rattle.std.specs.Prelude.{is_some}
use Rattle.kind_text.specs.FlatModule.{places_of}
use Rattle.kind_table.proofs.Lookups.{node_gone, node_got}
use Rattle.node_depths.proofs.nodes.is_operator.Goals as goal

pub returns-in-Some : goal.returns-in-Some
returns-in-Some c =
    c.is_some.ensures
    ∙ sym (ap (λ o. is_some (places_of o)) (node_got c.args.flat.now c.deref.result.now c.args.node c.in-Some.node.now c.deref.ensures.value c.in-Some.ensures.lookup.3.0 c.in-Some.ensures.lookup.1))

pub returns-in-None : goal.returns-in-None
returns-in-None c = sym (ap (λ o. is_some (places_of o)) (node_gone c.args.flat.now c.deref.result.now c.args.node c.deref.ensures.value c.in-None.ensures.lookup.3))
