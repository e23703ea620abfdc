-- What is asked of one segment of a path.
use Rattle.std.specs.Prelude.{ℕ, Bool, true, false, List, [], ◌∷◌, Option, Some, None}
use Rattle.tla_symbols.specs.declared.lexeme.Lexeme.{Lexeme}
use Rattle.tla_model.specs.declared.entity.Level.{Level}
use Rattle.flattened_trees.specs.Questions.{Asked, UseAs, UseOf}

-- the level of the node for the last one, of a name before `!` for the others
abbrev pub segment_asks : ℕ → Option Lexeme → Bool → List Asked
segment_asks i None is_last = []
segment_asks i (Some l) true = UseOf l i ∷ []
segment_asks i (Some l) false = UseAs l Level.Instance ∷ []
