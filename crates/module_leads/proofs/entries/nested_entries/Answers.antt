use Rattle.std.proofs.Common.{◌∙◌, ◌++◌, ap}
use Rattle.module_model.specs.Exports.{of_symbols, of_words}
use Rattle.name_context.specs.AsTables.{taken_words, words_of}
use Rattle.tree_names.specs.Parameters.{entries_in}
use Rattle.module_leads.proofs.Listing.{listed-all}
use Rattle.module_leads.proofs.entries.nested_entries.Goals as goal

pub returns : goal.returns
returns c =
    listed-all (entries_in c.new-entries.result) (entries_in c.push_taken.new.entries) (entries_in c.push_own_words.new.entries) (entries_in c.push_symbols.new.entries) (taken_words c.words.result.0)
    (words_of c.words.result.1.now.entries) c.args.exports.now.words c.symbols.result.now (ap entries_in c.new-entries.ensures) c.in_ok-push_taken.ensures
    c.in_ok-push_own_words.ensures c.in_ok-push_symbols.ensures c.words.ensures
    ∙ ap (λ symbols. of_words c.args.exports.now.words ++ of_symbols symbols) c.symbols.ensures.symbols
