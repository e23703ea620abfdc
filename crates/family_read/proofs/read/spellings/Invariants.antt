use Rattle.std.proofs.Common.{◌≡◌, take, map}
use Rattle.tla_model.specs.Lexemes.{spelled}
use Rattle.family_read.proofs.read.spellings.Given as goal

abbrev pub invariant-loop-lexeme : goal.invariant-loop-lexeme
invariant-loop-lexeme l = l.names ≡ map (spelled l.source) (take l.lexeme-index l.lexemes)
