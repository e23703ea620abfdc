use Rattle.std.proofs.Common.{drop}
use Rattle.std.specs.Option.{option_copied}
use Rattle.module_model.specs.Exports.{of_words}
use Rattle.name_context.specs.AsTables.{words_of}
use Rattle.name_exports.specs.Brought.{IsBringing, behind_through}
use Rattle.name_exports.proofs.instance.bring_own_words.Given as goal

abbrev pub invariant-loop-index : goal.invariant-loop-index
invariant-loop-index l =
    IsBringing l.local l.initial.names l.names l.clash (behind_through (option_copied l.unit) (of_words (words_of (drop l.index l.words.entries)))) (behind_through (option_copied l.unit) (of_words (words_of l.words.entries)))
