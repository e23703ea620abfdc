use Rattle.std.proofs.Common.{◌≡◌, ◌++◌, drop}
use Rattle.module_model.specs.Exports.{of_words}
use Rattle.tree_names.specs.Parameters.{entries_in}
use Rattle.module_leads.proofs.entries.push_words.Given as goal

abbrev pub invariant-loop-index : goal.invariant-loop-index
invariant-loop-index l = entries_in l.entries ++ of_words (drop l.index l.table.words) ≡ entries_in l.fn.entries ++ of_words l.table.words
