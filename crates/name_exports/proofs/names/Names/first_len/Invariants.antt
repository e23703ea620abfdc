use Rattle.std.proofs.Common.{◌≡◌, take}
use Rattle.name_context.specs.AsTables.{behind, usable_words}
use Rattle.name_exports.proofs.names.Names.first_len.Given as goal

abbrev pub invariant-loop-index : goal.invariant-loop-index
invariant-loop-index l =
    (take l.index l.self.exports.words ≡ take l.index l.table.words) × (take l.index (behind l.self.context) ≡ usable_words (take l.index l.table.words))
