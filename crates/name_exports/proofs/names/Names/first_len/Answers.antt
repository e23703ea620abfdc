use Rattle.std.proofs.Common.{refl, sym}
use Rattle.tla_model.specs.Stretches.{shown}
use Rattle.name_context.specs.AsTables.{behind}
use Rattle.name_exports.proofs.Firsts.{one-more, one-more-usable}
use Rattle.name_exports.proofs.names.Names.first_len.Goals as goal

pub loop-index-preserved : goal.loop-index-preserved
loop-index-preserved c =
    let self = c.args.self.now in
    let words = c.args.table.now.words in
    let word = shown c.in-Some.entry in
    let there = sym c.in-Some.ensures in (
      one-more self.exports.words words c.loop-index.index word (c.if-not-has_at.ensures.shown refl) there c.loop-index.invariant.0,
      one-more-usable (behind self.context) words c.loop-index.index word (c.if-not-has_at.ensures.seen refl) there c.loop-index.invariant.1,
    )
