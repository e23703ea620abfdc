use Rattle.std.proofs.Common.{◌≡◌, take}
use Rattle.tla_model.specs.Stretches as owned
use Rattle.name_context.specs.AsTables.{words_of}
use Rattle.name_exports.proofs.exported.owned.Given as goal

abbrev pub invariant-loop-index : goal.invariant-loop-index
invariant-loop-index l = owned.words_of l.copies.entries ≡ words_of (take l.index l.words.entries)
