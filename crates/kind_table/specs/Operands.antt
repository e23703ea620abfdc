-- A rule on its operands, one after another, by the greatest kind so far.
use Rattle.std.specs.Prelude.{ℕ, ◌+◌, if◌then◌else◌, nat_le, List, [], ◌∷◌, Option, Some, None, option_and_then}
use Rattle.tla_symbols.specs.declared.level.Kind.{Kind}
use Rattle.tla_symbols.specs.declared.level.Rule.{Rule}
use Rattle.level_rules.specs.Kinds.{applied, level, takes}

-- the one of two kinds that is of the greater level
abbrev pub greater : Kind → Kind → Kind
greater most kind = if nat_le (level kind) (level most) then most else kind

-- the greatest kind up to an operand at this place, or none where that has none or is refused
abbrev pub with_operand : Rule → ℕ → Kind → Option Kind → Option Kind
with_operand rule place most None = None
with_operand rule place most (Some kind) = if takes rule place kind then Some (greater most kind) else None

-- the kind by a rule, by the greatest kind before a place and the operands from there on
abbrev pub ruled_on : Rule → ℕ → Kind → List (Option Kind) → Option Kind
ruled_on rule place most [] = applied rule (most ∷ [])
ruled_on rule place most (kind ∷ rest) = option_and_then (λ next. ruled_on rule (place + 1) next rest) (with_operand rule place most kind)
