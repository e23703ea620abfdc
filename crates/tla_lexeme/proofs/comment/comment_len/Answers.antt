use Rattle.std.proofs.Common.{codes, refl, sym, ◌∙◌, arith}
use Rattle.tla_lexeme.proofs.CommentLemmas.{opens_turn, closes_turn, two_passed}
use Rattle.tla_lexeme.proofs.comment.comment_len.Goals as goal

pub loop-more-preserved-then-begins : goal.loop-more-preserved-then-begins
loop-more-preserved-then-begins c = (
  opens_turn c.loop-more.at c.loop-more.depth c.in-Some.field-0-0 c.loop-more.rest.now c.in-Some.more.now c.skip-rest.result.now c.in-Some.ensures (sym c.if-begins.ensures) c.skip-rest.ensures ∙ c.loop-more.invariant.0,
  two_passed c.loop-more.at c.in-Some.field-0-0 (codes "(*") c.loop-more.rest.now c.in-Some.more.now c.skip-rest.result.now c.args.text.now refl c.in-Some.ensures (sym c.if-begins.ensures) c.skip-rest.ensures c.loop-more.invariant.1,
  omega (arith, c.loop-more.invariant.2),
)

pub loop-more-preserved-then-begins-2 : goal.loop-more-preserved-then-begins-2
loop-more-preserved-then-begins-2 c = (
  closes_turn c.loop-more.at c.loop-more.depth c.in-Some.field-0-0 c.loop-more.rest.now c.in-Some.more.now c.skip-rest-then-begins-2.result.now c.in-Some.ensures (sym c.if-begins.ensures) (sym c.if-begins-2.ensures) c.if-depth-le1.false c.skip-rest-then-begins-2.ensures ∙ c.loop-more.invariant.0,
  two_passed c.loop-more.at c.in-Some.field-0-0 (codes "*)") c.loop-more.rest.now c.in-Some.more.now c.skip-rest-then-begins-2.result.now c.args.text.now refl c.in-Some.ensures (sym c.if-begins-2.ensures) c.skip-rest-then-begins-2.ensures c.loop-more.invariant.1,
  omega (arith, c.loop-more.invariant.2),
)
