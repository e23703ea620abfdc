use Rattle.std.proofs.Common.{◌+◌, ap, drop, sym}
use Rattle.module_model.specs.Exports.{of_words}
use Rattle.list_laws.proofs.Lists.{drop-at}
use Rattle.tla_model.specs.Tables.{Word}
use Rattle.module_leads.specs.Layers.{way_by}
use Rattle.module_leads.proofs.Tabled.{puts-first}
use Rattle.module_leads.proofs.leads.put_words.Goals as goal

pub loop-index-preserved : goal.loop-index-preserved
loop-index-preserved c =
    let words = c.args.table.now.words in
    let i = c.loop-index.index in
    puts-first c.args.names.now c.loop-index.names c.put.new.self (way_by c.args.round.now c.args.here.now) (of_words (drop i words)) (of_words (drop (i + 1) words)) (of_words words) (Word c.in-Some.word.now) c.in-Some.meaning.now c.in_ok-way.way
    (ap of_words (drop-at words i (c.in-Some.word.now, c.in-Some.meaning.now) (sym c.in-Some.ensures))) c.in_ok-way.ensures c.in_ok-put.ensures c.loop-index.invariant
