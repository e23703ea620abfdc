-- The table of levels: which kinds each rule takes at each operand, and the kind that it gives.
use Rattle.std.specs.Prelude.{ℕ, ◌+◌, Bool, true, false, not, ◌||◌, ◌==◌, if◌then◌else◌, nat_le, max, fold, List, [], ◌∷◌, Option, Some, None}
use Rattle.tla_symbols.specs.declared.level.Kind.{Kind}
use Rattle.tla_symbols.specs.declared.level.Kind.TheVariants.{Const, State, Action, BoxAction, DiamondAction, Temporal}
use Rattle.tla_symbols.specs.declared.level.Rule.{Rule}
use Rattle.tla_symbols.specs.declared.level.Rule.TheVariants.{Plain, Boolean, Prime, Unchanged, Enabled, Always, Eventually, Leads, Compose, Square, Angle, Fair}

-- constant 0, state 1, action 2, temporal 3
abbrev pub level : Kind → ℕ
level Const = 0
level State = 1
level Action = 2
level BoxAction = 2
level DiamondAction = 2
level Temporal = 3

-- the plain kind of a level
abbrev pub plain : ℕ → Kind
plain level = if level == 0 then Const else if level == 1 then State else if level == 2 then Action else Temporal

-- the plain kind of the greatest level; of no kinds, Const
abbrev pub greatest : List Kind → Kind
greatest kinds = plain (fold (λ most kind. max most (level kind)) 0 kinds)

-- of another level than an action's
abbrev pub is_no_action : Kind → Bool
is_no_action kind = not (level kind == 2)

-- the kind of `[A]_e`
abbrev pub is_box : Kind → Bool
is_box BoxAction = true
is_box _ = false

-- the kind of `<<A>>_e`
abbrev pub is_diamond : Kind → Bool
is_diamond DiamondAction = true
is_diamond _ = false

-- an action first, and then a state function as its subscript
abbrev pub takes_subscripted : ℕ → Kind → Bool
takes_subscripted place kind = nat_le (level kind) (if place == 0 then 2 else 1)

-- whether the rule takes an operand of this kind at this place, counted from 0
abbrev pub takes : Rule → ℕ → Kind → Bool
takes Plain place kind = nat_le (level kind) 2
takes Boolean place kind = true
takes Prime place kind = nat_le (level kind) 1
takes Unchanged place kind = nat_le (level kind) 1
takes Enabled place kind = nat_le (level kind) 2
takes Always place kind = is_no_action kind || is_box kind
takes Eventually place kind = is_no_action kind || is_diamond kind
takes Leads place kind = is_no_action kind
takes Compose place kind = nat_le (level kind) 2
takes Square place kind = takes_subscripted place kind
takes Angle place kind = takes_subscripted place kind
takes Fair place kind = takes_subscripted place kind

-- the kind that the rule gives where it takes its operands
abbrev pub given : Rule → List Kind → Kind
given Plain kinds = greatest kinds
given Boolean kinds = greatest kinds
given Prime kinds = Action
given Unchanged kinds = Action
given Enabled kinds = State
given Always kinds = Temporal
given Eventually kinds = Temporal
given Leads kinds = Temporal
given Compose kinds = Action
given Square kinds = BoxAction
given Angle kinds = DiamondAction
given Fair kinds = Temporal

-- the first operand that the rule refuses, where the first of these kinds stands at this place
abbrev pub first_refused : Rule → ℕ → List Kind → Option ℕ
first_refused rule place [] = None
first_refused rule place (kind ∷ kinds) = if takes rule place kind then first_refused rule (place + 1) kinds else Some place

-- the kind of an expression from those of its operands, or none where one is refused
abbrev pub applied : Rule → List Kind → Option Kind
applied rule kinds = unless (first_refused rule 0 kinds)
  where
    unless : Option ℕ → Option Kind
    unless None = Some (given rule kinds)
    unless (Some place) = None
