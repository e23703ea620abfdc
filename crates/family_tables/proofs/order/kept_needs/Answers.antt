use Rattle.std.proofs.Common.{◌∙◌, ap, sym, subst, [], ◌∷◌, ◌++◌}
use Rattle.std.proofs.lemmas.Bool.{both_ways}
use Rattle.std.proofs.lemmas.List.{take_all}
use Rattle.family_tables.specs.Plans.{AreKept}
use Rattle.family_tables.proofs.Graphs.{kept-more, kept-skip}
use Rattle.family_tables.proofs.order.kept_needs.Goals.{then-not-branch+in_ok-from_str+in_ok-push, else-not-branch}
use Rattle.family_tables.proofs.order.kept_needs.Goals as goal

pub loop-need-preserved : goal.loop-need-preserved
loop-need-preserved c = elim c.if-not-branch.branch [
  | then-not-branch+in_ok-from_str+in_ok-push w ↦
      let item = c.as_str.result.now in
      kept-more c.args.graph.now c.args.name.now item c.args.needs.now c.loop-need.need-index c.need-item.result c.loop-need.kept c.if-not-branch.kept c.loop-need-test.true (c.as_str.ensures ∙ c.need-item.is) c.loop-need.invariant
      (λ h. both_ways c.in_ok-is_cyclic_in.field-0 w.if-not-branch.true (c.in_ok-is_cyclic_in.ensures.1 h))
      (w.kept-is ∙ w.in_ok-push.ensures.ok ∙ ap (λ z. c.loop-need.kept ++ z ∷ []) (w.in_ok-from_str.ensures ∙ w.as_str-then-not-branch.ensures ∙ sym c.as_str.ensures))
  | else-not-branch w ↦
      let item = c.as_str.result.now in
      kept-skip c.args.graph.now c.args.name.now item c.args.needs.now c.loop-need.need-index c.need-item.result c.loop-need.kept c.if-not-branch.kept c.loop-need-test.true (c.as_str.ensures ∙ c.need-item.is) c.loop-need.invariant
      (c.in_ok-is_cyclic_in.ensures.0 w.if-not-branch.false) w.kept-is
]

pub returns : goal.returns
returns c = subst (λ needs. AreKept c.args.graph.now c.args.name.now needs c.loop-need.kept) (take_all c.loop-need.need-index c.args.needs.now c.loop-need-test.false) c.loop-need.invariant
