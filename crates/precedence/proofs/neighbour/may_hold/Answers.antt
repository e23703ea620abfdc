use Rattle.std.proofs.Common.{◌≡◌, ap, ◌∙◌}
use Rattle.std.specs.Prelude.{nat_lt}
use Rattle.tla_tree.specs.Edges.{lo, hi}
use Rattle.precedence.specs.Choices.{meets}
use Rattle.precedence.specs.Ranges.{edge_of}
use Rattle.precedence.proofs.Deciding.{test-less}
use Rattle.precedence.proofs.neighbour.may_hold.Goals as goal

pub returns : goal.returns
unfolding meets
returns c =
    let high : c.range_on.result.hi ≡ hi (edge_of c.args.outer) = ap (λ range. range.hi) c.range_on.ensures in
    let low : c.range_on-2.result.lo ≡ lo (edge_of c.args.inner) = ap (λ range. range.lo) c.range_on-2.ensures in
    test-less _ _ _ c.meets.ensures ∙ (ap (λ n. nat_lt n c.range_on-2.result.lo) high ∙ ap (λ n. nat_lt (hi (edge_of c.args.outer)) n) low)
