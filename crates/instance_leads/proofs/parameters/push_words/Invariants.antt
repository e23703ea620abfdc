use Rattle.std.proofs.Common.{◌≡◌, ◌++◌, take, map}
use Rattle.tla_model.specs.Stretches.{shown}
use Rattle.module_model.specs.Exports.{of_words}
use Rattle.tree_names.specs.Parameters.{entries_in}
use Rattle.instance_leads.proofs.parameters.push_words.Given as goal

abbrev pub invariant-loop-word : goal.invariant-loop-word
invariant-loop-word l = entries_in l.found ≡ entries_in l.initial.found ++ of_words (map shown (take l.word-index l.words))
