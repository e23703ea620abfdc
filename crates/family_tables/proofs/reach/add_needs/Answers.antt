use Rattle.std.proofs.Common.{◌≡◌, ◌-◌, ◌<◌, ◌∙◌, Some, ap, arith, length, sym, true}
use Rattle.std.specs.Prelude.{slice_get}
use Rattle.std.proofs.lemmas.Option.{slice_get-get_or}
use Rattle.family_tables.specs.Tables.{has_name}
use Rattle.family_tables.proofs.Reaching.{closed-all, closed-more, reached-more}
use Rattle.family_tables.proofs.reach.add_needs.Goals as goal

pub returns-clause-kept : goal.returns-clause-kept
returns-clause-kept c = c.loop-count.invariant.kept

pub loop-count-preserved : goal.loop-count-preserved
loop-count-preserved c =
    let order = c.args.order.now in
    let count = c.loop-count.count in
    let i = length order - 1 - count in
    let less : count < length order = c.loop-count-test.true in
    let at : slice_get order i ≡ Some c.as_str.result.now = slice_get-get_or order i _ (omega (arith, less)) ∙ ap (λ x. Some x) (sym (c.as_str.ensures ∙ c.index-order-last.is)) in
    let ensures = c.in_ok-add_needs_of.ensures in
    record {
      kept = λ other h. ensures.kept other (c.loop-count.invariant.kept other h);
      closed = closed-more c.args.modules.now order c.requires.order c.requires.acyclic count i c.as_str.result.now c.loop-count.names c.add_needs_of.new.names (omega (arith, less)) at ensures.kept ensures.needs ensures.only c.loop-count.invariant.closed;
      only = reached-more c.args.modules.now (λ name. has_name c.args.names.now name ≡ true) (λ name. has_name c.loop-count.names name ≡ true) (λ name. has_name c.add_needs_of.new.names name ≡ true) c.as_str.result.now ensures.only c.loop-count.invariant.only;
    }

pub returns-clause-only : goal.returns-clause-only
returns-clause-only c = c.loop-count.invariant.only

pub returns-clause-closed : goal.returns-clause-closed
returns-clause-closed c = closed-all c.args.modules.now c.args.order.now c.requires.order c.requires.acyclic c.loop-count.count c.loop-count.names c.loop-count-test.false c.loop-count.invariant.closed
