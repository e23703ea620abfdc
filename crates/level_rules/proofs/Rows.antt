-- Rows of the table, read against section 17.2 of Specifying Systems.
use Rattle.std.proofs.Common.{◌≡◌, [], ◌∷◌, refl}
use Rattle.std.specs.Prelude.{Some}
use Rattle.tla_symbols.specs.declared.level.Kind.TheVariants.{Const, State, Action, BoxAction, DiamondAction, Temporal}
use Rattle.tla_symbols.specs.declared.level.Rule.TheVariants.{Plain, Boolean, Prime, Enabled, Always, Eventually, Leads, Square, Angle}
use Rattle.level_rules.specs.Kinds.{applied, first_refused}

always-box : applied Always (BoxAction ∷ []) ≡ Some Temporal
always-box = refl

always-action : first_refused Always 0 (Action ∷ []) ≡ Some 0
always-action = refl

eventually-box : first_refused Eventually 0 (BoxAction ∷ []) ≡ Some 0
eventually-box = refl

boolean-box : applied Boolean (BoxAction ∷ []) ≡ Some Action
boolean-box = refl

prime-state : applied Prime (State ∷ []) ≡ Some Action
prime-state = refl

enabled-diamond : applied Enabled (DiamondAction ∷ []) ≡ Some State
enabled-diamond = refl

leads-diamond : first_refused Leads 0 (DiamondAction ∷ []) ≡ Some 0
leads-diamond = refl

plain-nothing : applied Plain [] ≡ Some Const
plain-nothing = refl

plain-temporal : first_refused Plain 0 (State ∷ Temporal ∷ []) ≡ Some 1
plain-temporal = refl

square-subscript : applied Square (Action ∷ Const ∷ []) ≡ Some BoxAction
square-subscript = refl

angle-subscript : first_refused Angle 0 (Action ∷ Action ∷ []) ≡ Some 1
angle-subscript = refl
