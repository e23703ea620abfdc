use Rattle.std.proofs.Common.{drop, false}
use Rattle.module_model.specs.Exports.{of_words}
use Rattle.name_context.specs.AsTables.{words_of}
use Rattle.name_exports.specs.Brought.{IsBringing}
use Rattle.name_exports.proofs.extend.bring_own_words.Given as goal

abbrev pub invariant-loop-index : goal.invariant-loop-index
invariant-loop-index l = IsBringing false l.initial.names l.names l.clash (of_words (words_of (drop l.index l.words.entries))) (of_words (words_of l.words.entries))
