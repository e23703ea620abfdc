use Rattle.std.proofs.Common.{◌≡◌, ◌++◌, take}
use Rattle.tla_model.specs.Stretches.{words_of}
use Rattle.tla_model.proofs.table.append.Given as goal

abbrev pub invariant-loop-index : goal.invariant-loop-index
invariant-loop-index l = words_of l.words.entries ≡ words_of l.initial.words.entries ++ words_of (take l.index l.more.entries)
