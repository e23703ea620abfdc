use Rattle.std.proofs.Common.{◌+◌, ap, drop, sym}
use Rattle.module_model.specs.Exports.{of_words}
use Rattle.list_laws.proofs.Lists.{drop-at}
use Rattle.tla_model.specs.Tables.{Word}
use Rattle.name_context.specs.AsTables.{words_of}
use Rattle.tree_names.specs.Parameters.{entries_in}
use Rattle.module_leads.proofs.Listing.{listed-more}
use Rattle.module_leads.proofs.entries.push_own_words.Goals as goal

pub loop-index-preserved : goal.loop-index-preserved
loop-index-preserved c =
    let entries = c.args.words.now.entries in
    let i = c.loop-index.index in
    listed-more (entries_in c.loop-index.entries) (entries_in c.push_word.new.entries) (of_words (words_of (drop i entries))) (of_words (words_of (drop (i + 1) entries))) _
    (Word c.in-Some.word.now.now, c.in-Some.meaning.now) c.in_ok-push_word.ensures
    (ap (λ z. of_words (words_of z)) (drop-at entries i (c.in-Some.word.now, c.in-Some.meaning.now) (sym c.in-Some.ensures.entry))) c.loop-index.invariant
