-- The front of a module, as a function.
use Rattle.std.specs.Prelude.{ℕ, List}
use Rattle.tla_lexeme.proofs.ReadsLemmas.{reads_longest}
use Rattle.unit_laws.proofs.Ending.{derivable-or-bad}
use Rattle.front_laws.specs.Fronts.{Front}
use Rattle.front_laws.proofs.OneFront.{some-front}

-- the one front of some bytes, for a file of this name
unfoldable pub front_of : List ℕ → List ℕ → Front
front_of name bytes = (some-front derivable-or-bad reads_longest name bytes).0
