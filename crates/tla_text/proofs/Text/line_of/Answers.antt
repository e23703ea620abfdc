use Rattle.std.proofs.Common.{leb, arith, rules, ◌≡◌, sym, subst, ap, ◌∙◌, length}
use Rattle.std.proofs.lemmas.List.Sorted.{IsPartitionPoint-from_clause, IsPartitionedBy-leb}
use Rattle.std.specs.List.Sorted.{IsNonDecreasingBy}
use Rattle.tla_text.specs.LineStarts.{starts_after, IsLineOf}
use Rattle.tla_text.proofs.LineLemmas.{starts_after-rise, length-starts_after}
use Rattle.tla_text.proofs.PlaceLemmas.{starts_of_view, IsLineOf-from}
use Rattle.tla_text.proofs.Text.line_of.Goals as goal

pub returns-clause-point : goal.returns-clause-point
returns-clause-point c =
    let text = c.args.self.now in
    let starts : c.as_slice.result.now ≡ starts_after 0 text = c.as_slice.ensures.value ∙ starts_of_view _ text _ c.self.view_is c.self.invariant.1 in
    let rises : IsNonDecreasingBy (λ s. s) c.as_slice.result.now = subst (λ l. IsNonDecreasingBy (λ s. s) l) (sym starts) (starts_after-rise 0 text) in
    let point = IsPartitionPoint-from_clause (λ s. leb s c.args.offset) _ _ c.partition_point-line.ensures.partitioned (IsPartitionedBy-leb (λ s. s) _ c.args.offset rises) (λ a r q k. search rules) in
    subst (λ l. IsLineOf c.partition_point-line.result c.args.offset l) starts (IsLineOf-from c.partition_point-line.result c.args.offset c.as_slice.result.now c.partition_point-line.ensures.bound point)

pub overflow_cast-result : goal.overflow_cast-result
overflow_cast-result c =
    let text = c.args.self.now in
    let starts : length c.as_slice.result.now ≡ length (starts_after 0 text) = ap length (c.as_slice.ensures.value ∙ starts_of_view _ text _ c.self.view_is c.self.invariant.1) in
    omega (arith, starts, length-starts_after 0 text, c.partition_point-line.ensures.bound, c.self.invariant.0, ap length c.self.view_is)
