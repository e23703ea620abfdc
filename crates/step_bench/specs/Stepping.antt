-- Where a machine for expressions stops in a list of lexemes.
use Rattle.std.specs.Prelude.{◌≡◌, ◌+◌, ◌<◌, List, [], ◌∷◌, ◌++◌, length, Some}
use Rattle.tla_symbols.specs.declared.lexeme.Lexeme.{Lexeme}
use Rattle.tla_tree.specs.Arena as Arena
use Rattle.tla_tree.specs.Arena.{tree_at}
use Rattle.tla_tree.specs.Syntax.{Tree}
use Rattle.tla_tree.specs.FirstBad.{Begins}
use Rattle.tla_tree.specs.Derivation.{Derives}
use Rattle.expr_parse.specs.declared.goal.Goal.{Goal}
use Rattle.expr_parse.specs.declared.goal.Step.{Step}
use Rattle.expr_parse.specs.Goals.{IsWhole}
use Rattle.step_bench.specs.declared.stepping.Stop.{Stop}

-- some expression begins with these lexemes and the next, and none is whole before it
abbrev pub GoesOn : List Lexeme → Lexeme → Type 0
GoesOn front next = Begins (front ++ next ∷ []) × (IsWhole Goal.Expression front next → ⊥)

-- behind these lexemes each of the others goes on with what stands before it
abbrev pub AllGoOn : List Lexeme → List Lexeme → Type 0
AllGoOn front [] = Unit {0}
AllGoOn front (next ∷ rest) = GoesOn front next × AllGoOn (front ++ next ∷ []) rest

-- what a lexeme leads to that does not go on: the node is the one expression before it, or no expression begins so
abbrev pub EndsAt : List Arena.Node → List Lexeme → Lexeme → Step → Type 0
EndsAt nodes front next Step.Going = ⊥
EndsAt nodes front next (Step.Done node) =
    (node < length nodes)
    × IsWhole Goal.Expression front next
    × Derives (tree_at nodes node) front 0 (Some next)
    × ((other : Tree) → Derives other front 0 (Some next) → other ≡ tree_at nodes node)
EndsAt nodes front next Step.Refused =
    (Begins (front ++ next ∷ []) → ⊥) × (IsWhole Goal.Expression front next → ⊥)

-- the machine stops at the first lexeme that does not go on
pub record StopsAt (lexemes : List Lexeme) (nodes : List Arena.Node) (stop : Stop) : Type 0 where
  pub front : List Lexeme
  pub next : Lexeme
  pub rest : List Lexeme
  pub split : lexemes ≡ front ++ next ∷ rest
  pub going : AllGoOn [] front
  pub count : stop.lexemes ≡ length front + 1
  pub ends : EndsAt nodes front next stop.step

-- or all lexemes go on
abbrev pub HasStopped : List Lexeme → List Arena.Node → Stop → Type 0
HasStopped lexemes nodes stop = elim stop.step [
  | Step.Going ↦ AllGoOn [] lexemes × (stop.lexemes ≡ length lexemes)
  | Step.Done node ↦ StopsAt lexemes nodes stop
  | Step.Refused ↦ StopsAt lexemes nodes stop
]
