-- Expanded expressions, in which no use of a definition is left, and their kinds.
use Rattle.std.specs.Prelude.{ℕ, Bool, false, if◌then◌else◌, nat_le, List, [], ◌∷◌, Option, Some, None, option_and_then, option_map}
use Rattle.tla_symbols.specs.declared.level.Kind.{Kind}
use Rattle.tla_symbols.specs.declared.level.Kind.TheVariants.{Const}
use Rattle.tla_symbols.specs.declared.level.Rule.{Rule}
use Rattle.tla_symbols.specs.declared.level.Rule.TheVariants.{Boolean}
use Rattle.level_rules.specs.Kinds.{level, applied}

mutual
  -- an expanded expression
  pub data Expanded : Type 0 where
    -- a leaf of a given kind, or without a kind
    Given : (kind : Option Kind) → Expanded
    -- the parameter at a place, which stays
    Stays : (place : ℕ) → Expanded
    -- the operator parameter at a place, which stays, on its operands
    Applied : (place : ℕ) (operands : Operands) → Expanded
    -- a form with this rule of levels, on its operands
    Ruled : (rule : Rule) (operands : Operands) → Expanded
    -- an expression through an instance, by the greatest level that a replacement may have
    Guarded : (most : ℕ) (replacement inner : Expanded) → Expanded

  -- expanded expressions, in order
  pub data Operands : Type 0 where
    Nil : Operands
    Cons : (first : Expanded) (rest : Operands) → Operands

-- the kinds, if there is each of them
abbrev pub all_kinds : List (Option Kind) → Option (List Kind)
all_kinds [] = Some []
all_kinds (kind ∷ rest) = option_and_then (λ k. option_map (λ ks. k ∷ ks) (all_kinds rest)) kind

-- the kind by a rule, or none where an operand has none or is refused
abbrev pub ruled : Rule → List (Option Kind) → Option Kind
ruled rule kinds = option_and_then (applied rule) (all_kinds kinds)

-- whether there is a kind of at most this level
abbrev pub is_at_most : ℕ → Option Kind → Bool
is_at_most most None = false
is_at_most most (Some kind) = nat_le (level kind) most

-- the kind of an expression through an instance, by that of a replacement
abbrev pub guarded : ℕ → Option Kind → Option Kind → Option Kind
guarded most replacement inner = if is_at_most most replacement then inner else None

abbrev mutual
  -- the kind of an expanded expression, from the leaves up; a parameter that stays is constant
  pub kind : Expanded → Option Kind
  kind (Given k) = k
  kind (Stays i) = Some Const
  kind (Applied i ts) = ruled Boolean (kinds ts)
  kind (Ruled rule ts) = ruled rule (kinds ts)
  kind (Guarded most t inner) = guarded most (kind t) (kind inner)

  -- the same of each
  pub kinds : Operands → List (Option Kind)
  kinds Nil = []
  kinds (Cons t ts) = kind t ∷ kinds ts
