use Rattle.std.proofs.Common.{◌≡◌, map, take}
use Rattle.tla_model.specs.Stretches as words
use Rattle.tla_model.specs.Entities.{Meaning}
use Rattle.std.proofs.Common.{ℕ, List}
use Rattle.exact_faces.specs.Searching.{shown}
use Rattle.exact_faces.proofs.reached.words_in.Given as goal

abbrev pub invariant-loop-index : goal.invariant-loop-index
invariant-loop-index l = shown l.found.items ≡ map (λ (word : List ℕ × Meaning). word.1) (map words.shown (take l.index l.words.items))
