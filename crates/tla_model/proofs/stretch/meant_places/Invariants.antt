use Rattle.std.proofs.Common.{◌≤◌, drop, length}
use Rattle.tla_model.specs.Meant.{AreMeant}
use Rattle.tla_model.specs.Stretches.{words_of}
use Rattle.tla_model.proofs.stretch.meant_places.Given as goal

abbrev pub invariant-loop-index : goal.invariant-loop-index
invariant-loop-index l = (l.index ≤ length l.words.entries) × AreMeant (words_of l.words.entries) (drop l.index (words_of l.words.entries)) l.places

abbrev pub decreases-loop-index : goal.decreases-loop-index
decreases-loop-index l = l.index
