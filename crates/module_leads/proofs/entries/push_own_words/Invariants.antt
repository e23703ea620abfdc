use Rattle.std.proofs.Common.{◌≡◌, ◌++◌, drop}
use Rattle.module_model.specs.Exports.{of_words}
use Rattle.name_context.specs.AsTables.{words_of}
use Rattle.tree_names.specs.Parameters.{entries_in}
use Rattle.module_leads.proofs.entries.push_own_words.Given as goal

abbrev pub invariant-loop-index : goal.invariant-loop-index
invariant-loop-index l = entries_in l.entries ++ of_words (words_of (drop l.index l.words.entries)) ≡ entries_in l.fn.entries ++ of_words (words_of l.words.entries)
