use Rattle.std.proofs.Common.{◌∙◌, ap, arith, sym}
use Rattle.std.proofs.lemmas.List.{take_all}
use Rattle.tla_model.specs.Stretches as owned
use Rattle.name_context.specs.AsTables.{words_of}
use Rattle.name_exports.proofs.Owning.{absent-owned, next-owned}
use Rattle.name_exports.proofs.exported.owned.Goals as goal

pub loop-index-init : goal.loop-index-init
loop-index-init c = ap owned.words_of c.new-copies.ensures.empty

pub put_copy-requires : goal.put_copy-requires
put_copy-requires c =
    absent-owned c.loop-index.copies.entries c.args.words.now.entries c.loop-index.index c.in-Some.word.now c.in-Some.meaning.now c.loop-index.invariant c.requires (sym c.in-Some.ensures.entry)

pub loop-index-preserved : goal.loop-index-preserved
loop-index-preserved c =
    next-owned c.args.words.now.entries c.loop-index.index c.in-Some.word.now c.in-Some.meaning.now c.loop-index.invariant (sym c.in-Some.ensures.entry) c.in_ok-put_copy.ensures

pub returns : goal.returns
returns c =
    let entries = c.args.words.now.entries in
    let many = c.len-index-end.ensures.len in
    let ending = c.loop-index-test.false in
    c.loop-index.invariant ∙ ap words_of (take_all c.loop-index.index entries (omega (arith, many, ending)))
