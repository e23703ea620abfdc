use Rattle.std.proofs.Common.{drop, false}
use Rattle.module_model.specs.Exports.{of_words}
use Rattle.name_exports.specs.Brought.{IsBringing}
use Rattle.name_exports.proofs.extend.bring_words.Given as goal

abbrev pub invariant-loop-index : goal.invariant-loop-index
invariant-loop-index l = IsBringing false l.initial.names l.names l.clash (of_words (drop l.index l.table.words)) (of_words (drop l.first l.table.words))
