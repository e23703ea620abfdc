-- The front of some bytes is the one that the function gives.
use Rattle.std.proofs.Common.{◌≡◌, ℕ, List}
use Rattle.tla_lexeme.proofs.ReadsLemmas.{reads_longest}
use Rattle.tla_model.specs.Lexemes.{spelled}
use Rattle.unit_laws.proofs.Ending.{derivable-or-bad}
use Rattle.unit_grammar.specs.Units.{ModuleUnits}
use Rattle.front_laws.specs.Fronts.{IsFront, Tree, read, whole}
use Rattle.front_laws.proofs.OneFront.{some-front}
use Rattle.family_facts.specs.Fronts.{front_of}

pub front-is : (name bytes : List ℕ) → IsFront name bytes (front_of name bytes)
unfolding front_of
front-is name bytes = (some-front derivable-or-bad reads_longest name bytes).1

-- a module has the name of its file
pub front-named : {name bytes : List ℕ} {found : ModuleUnits} → IsFront name bytes (Tree found) → spelled bytes found.name ≡ name
front-named (read full few part (whole d low named)) = named
