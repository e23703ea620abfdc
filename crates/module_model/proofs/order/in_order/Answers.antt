use Rattle.std.proofs.Common.{◌∙◌, rules}
use Rattle.std.proofs.lemmas.List.Filters.{dedup_is}
use Rattle.std.proofs.lemmas.List.Sorted.{answers_always}
use Rattle.module_model.proofs.Ordering.{same_fault, sorted-in-order}
use Rattle.module_model.proofs.order.in_order.Goals as goal

pub returns : goal.returns
returns c =
    sorted-in-order c.args.faults c.sort_unstable_by_key.new.self.items c.from_vec.result
    (rw (← c.into_vec-faults.ensures) c.sort_unstable_by_key.ensures.permutation)
    (c.sort_unstable_by_key.ensures.sorted (λ fault. (fault.span.start, fault.span.end, fault.code)) (answers_always _ _ _ (λ f a r g h. search rules)))
    (c.from_vec.ensures ∙ dedup_is same_fault _ _ c.dedup.ensures.filtered)
