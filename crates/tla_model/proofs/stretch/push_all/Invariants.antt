use Rattle.std.proofs.Common.{◌≡◌, ◌++◌, drop}
use Rattle.std.specs.Prelude.{map}
use Rattle.tla_model.specs.Stretches.{shown, words_at, words_of}
use Rattle.tla_model.proofs.stretch.push_all.Given as goal

abbrev pub invariant-loop-place : goal.invariant-loop-place
invariant-loop-place l =
    map shown l.found.items ++ words_at (words_of l.words.entries) (drop l.place-index l.places) ≡ map shown l.initial.found.items ++ words_at (words_of l.words.entries) l.places
