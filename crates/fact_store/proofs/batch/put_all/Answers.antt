use Rattle.std.proofs.Common.{◌≡◌, ◌+◌, List, refl, subst, cond, arith}
use Rattle.std.proofs.lemmas.List.{take_rest}
use Rattle.std.proofs.lemmas.Option.{slice_get_read}
use Rattle.fact_store.specs.declared.given.NewText.{NewText}
use Rattle.fact_store.specs.Holding.{with_text, has_text}
use Rattle.fact_store.specs.Slots.{texts_of}
use Rattle.fact_store.proofs.Batches.{HasTexts-end, IsUpTo-start, IsUpTo-next}
use Rattle.fact_store.proofs.batch.put_all.Goals as goal

pub loop-index-init : goal.loop-index-init
loop-index-init g c =
    let D = g.D.Derive in
    record { up_to = IsUpTo-start D.own_of D.needs_of D.fact_of c.args.slots.now c.args.texts.now c.requires.sound; planned = c.requires.plan }

pub loop-index-preserved : goal.loop-index-preserved
loop-index-preserved g c =
    let D = g.D.Derive in let e = c.in_ok-put_last.ensures in let texts = c.args.texts.now in let index = c.loop-index.index in let text = c.index-texts-index.result in
    let at = slice_get_read texts _ index text refl c.loop-index-test.true c.index-texts-index.is in
    let before = texts_of c.loop-index.slots in
    let goes = subst (λ (later : List NewText). texts_of c.put_last.new.slots ≡ cond (has_text later text.name) before (with_text before text.name text.bytes)) (take_rest texts (index + 1)) e.texts in
    record {
      up_to = IsUpTo-next D.own_of D.needs_of D.fact_of c.args.slots.now c.loop-index.slots c.put_last.new.slots texts index text c.requires.sound c.loop-index.invariant.up_to at e.sound goes e.carries;
      planned = e.plan;
    }

pub returns-clause-texts : goal.returns-clause-texts
returns-clause-texts g c =
    HasTexts-end (texts_of c.args.slots.now) (texts_of c.loop-index.slots) c.args.texts.now c.loop-index.index (omega (arith, c.loop-index-test.false)) c.loop-index.invariant.up_to.texts
