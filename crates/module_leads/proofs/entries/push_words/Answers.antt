use Rattle.std.proofs.Common.{◌+◌, ap, drop, sym}
use Rattle.module_model.specs.Exports.{of_words}
use Rattle.list_laws.proofs.Lists.{drop-at}
use Rattle.tla_model.specs.Tables.{Word}
use Rattle.tree_names.specs.Parameters.{entries_in}
use Rattle.module_leads.proofs.Listing.{listed-more}
use Rattle.module_leads.proofs.entries.push_words.Goals as goal

pub loop-index-preserved : goal.loop-index-preserved
loop-index-preserved c =
    let words = c.args.table.now.words in
    let i = c.loop-index.index in
    listed-more (entries_in c.loop-index.entries) (entries_in c.push_word.new.entries) (of_words (drop i words)) (of_words (drop (i + 1) words)) _ (Word c.in-Some.word.now, c.in-Some.meaning.now)
    c.in_ok-push_word.ensures (ap of_words (drop-at words i (c.in-Some.word.now, c.in-Some.meaning.now) (sym c.in-Some.ensures))) c.loop-index.invariant
