use Rattle.std.proofs.Common.{ℕ, List, arith}
use Rattle.std.specs.Borrow.{Bor}
use Rattle.tla_model.specs.Entities.{Meaning}
use Rattle.instance_scope.proofs.NestedEnds.{in-more, told-next}
use Rattle.instance_scope.proofs.ending.keep_words.Goals as goal

pub loop-meaning-preserved : goal.loop-meaning-preserved
loop-meaning-preserved c = record {
  known = c.in_ok-keep_meant.ensures.known;
  kept = in-more c.args.kept.now c.loop-meaning.kept c.keep_meant.new.kept c.loop-meaning.invariant.kept c.in_ok-keep_meant.ensures.kept;
  told = told-next (λ (entry : Bor (List ℕ) × Bor Meaning). entry.1.now) c.loop-meaning.kept c.keep_meant.new.kept c.args.words.now c.loop-meaning.meaning-index c.loop-meaning-item.result (omega arith) c.loop-meaning-item.is
      c.in_ok-keep_meant.ensures.kept c.loop-meaning.invariant.told c.in_ok-keep_meant.ensures.told;
}
