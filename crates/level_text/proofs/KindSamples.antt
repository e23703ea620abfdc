-- Small modules, and the kinds of what is written in them.
use Rattle.std.proofs.Common.{◌≡◌, ℕ, suc, List, [], ◌∷◌, ◌++◌, Option, Some, None, refl, length}
use Rattle.tla_symbols.specs.declared.level.Kind.{Kind}
use Rattle.tla_symbols.specs.declared.level.Kind.TheVariants.{Const, State, Action, BoxAction, DiamondAction, Temporal}
use Rattle.tla_symbols.specs.declared.level.Rule.{Rule}
use Rattle.tla_symbols.specs.declared.level.Rule.TheVariants.{Plain, Boolean, Prime, Unchanged, Enabled, Always, Eventually, Leads, Compose, Square, Angle, Fair}
use Rattle.order_rec.specs.Earlier.{within}
use Rattle.kind_text.specs.FlatModule.{FlatModule, Form, Node}
use Rattle.tla_symbols.specs.declared.lexeme.LexKind.TheVariants as LexKind
use Rattle.tla_symbols.specs.declared.op.Op.TheVariants as Op
use Rattle.tla_symbols.specs.declared.place.Fix.TheVariants as Fix
use Rattle.level_text.specs.FormRules.{symbol_rule}
use Rattle.level_text.specs.LevelFaults.{Place, Constant, Operator, Variable, Parameter, kind_at}

-- ---- one form over operands of these kinds

-- a node that is no bare operator
abbrev node : Form → List ℕ → Node
node form parts = record { form = form; places = None; parts = parts }

-- a bare operator with so many places
abbrev bare : Form → ℕ → Node
bare form n = record { form = form; places = Some n; parts = [] }

-- nodes alone
abbrev nodes : List Node → FlatModule
nodes ns = record { nodes = ns; definitions = []; instances = [] }

-- leaves of these kinds
abbrev leaves : List Kind → List Node
leaves [] = []
leaves (k ∷ ks) = node (Form.Leaf k) [] ∷ leaves ks

-- their numbers
abbrev numbers : ℕ → List Kind → List ℕ
numbers i [] = []
numbers i (k ∷ ks) = i ∷ numbers (suc i) ks

-- the kind of a form over leaves of these kinds, with this at the first place round it
abbrev of_form : Place → Form → List Kind → Option Kind
of_form place form ks = kind_at (nodes (leaves ks ++ node form (numbers 0 ks) ∷ [])) (record { node = length ks; round = place ∷ [] })

abbrev of_rule : Rule → List Kind → Option Kind
of_rule rule ks = of_form Variable (Form.Operation rule) ks

-- ---- the rows of the table, at both sides of their bounds

number : of_form Variable (Form.Leaf Const) [] ≡ Some Const
unfolding within
number = refl

bound_name_of_a_temporal_quantifier : of_form Constant (Form.Leaf State) [] ≡ Some State
unfolding within
bound_name_of_a_temporal_quantifier = refl

constant : of_form Constant (Form.Parameter 0) [] ≡ Some Const
unfolding within
constant = refl

variable : of_form Variable (Form.Parameter 0) [] ≡ Some State
unfolding within
variable = refl

parameter : of_form Parameter (Form.Parameter 0) [] ≡ Some Const
unfolding within
parameter = refl

prime_of_state : of_rule Prime (State ∷ []) ≡ Some Action
unfolding within
prime_of_state = refl

prime_of_action : of_rule Prime (Action ∷ []) ≡ None
unfolding within
prime_of_action = refl

unchanged_state : of_rule Unchanged (State ∷ []) ≡ Some Action
unfolding within
unchanged_state = refl

unchanged_action : of_rule Unchanged (Action ∷ []) ≡ None
unfolding within
unchanged_action = refl

enabled_action : of_rule Enabled (Action ∷ []) ≡ Some State
unfolding within
enabled_action = refl

enabled_temporal : of_rule Enabled (Temporal ∷ []) ≡ None
unfolding within
enabled_temporal = refl

composed_actions : of_rule Compose (Action ∷ BoxAction ∷ []) ≡ Some Action
unfolding within
composed_actions = refl

composed_temporal : of_rule Compose (Action ∷ Temporal ∷ []) ≡ None
unfolding within
composed_temporal = refl

square_of_action : of_rule Square (Action ∷ State ∷ []) ≡ Some BoxAction
unfolding within
square_of_action = refl

square_of_temporal : of_rule Square (Temporal ∷ State ∷ []) ≡ None
unfolding within
square_of_temporal = refl

square_by_action : of_rule Square (Const ∷ Action ∷ []) ≡ None
unfolding within
square_by_action = refl

angle_of_action : of_rule Angle (Action ∷ State ∷ []) ≡ Some DiamondAction
unfolding within
angle_of_action = refl

angle_of_temporal : of_rule Angle (Temporal ∷ State ∷ []) ≡ None
unfolding within
angle_of_temporal = refl

angle_by_action : of_rule Angle (Const ∷ Action ∷ []) ≡ None
unfolding within
angle_by_action = refl

fairness_of_action : of_rule Fair (Action ∷ State ∷ []) ≡ Some Temporal
unfolding within
fairness_of_action = refl

fairness_of_temporal : of_rule Fair (Temporal ∷ State ∷ []) ≡ None
unfolding within
fairness_of_temporal = refl

fairness_by_action : of_rule Fair (Action ∷ Action ∷ []) ≡ None
unfolding within
fairness_by_action = refl

always_state : of_rule Always (State ∷ []) ≡ Some Temporal
unfolding within
always_state = refl

always_temporal : of_rule Always (Temporal ∷ []) ≡ Some Temporal
unfolding within
always_temporal = refl

always_box : of_rule Always (BoxAction ∷ []) ≡ Some Temporal
unfolding within
always_box = refl

always_action : of_rule Always (Action ∷ []) ≡ None
unfolding within
always_action = refl

always_diamond : of_rule Always (DiamondAction ∷ []) ≡ None
unfolding within
always_diamond = refl

eventually_temporal : of_rule Eventually (Temporal ∷ []) ≡ Some Temporal
unfolding within
eventually_temporal = refl

eventually_diamond : of_rule Eventually (DiamondAction ∷ []) ≡ Some Temporal
unfolding within
eventually_diamond = refl

eventually_action : of_rule Eventually (Action ∷ []) ≡ None
unfolding within
eventually_action = refl

eventually_box : of_rule Eventually (BoxAction ∷ []) ≡ None
unfolding within
eventually_box = refl

leads_to : of_rule Leads (State ∷ Temporal ∷ []) ≡ Some Temporal
unfolding within
leads_to = refl

action_leads_to : of_rule Leads (Action ∷ Temporal ∷ []) ≡ None
unfolding within
action_leads_to = refl

leads_to_box : of_rule Leads (Const ∷ BoxAction ∷ []) ≡ None
unfolding within
leads_to_box = refl

body_of_a_temporal_quantifier : of_rule Leads (Temporal ∷ []) ≡ Some Temporal
unfolding within
body_of_a_temporal_quantifier = refl

conjunction : of_rule Boolean (Const ∷ Temporal ∷ BoxAction ∷ []) ≡ Some Temporal
unfolding within
conjunction = refl

conjunction_of_box : of_rule Boolean (BoxAction ∷ State ∷ []) ≡ Some Action
unfolding within
conjunction_of_box = refl

empty_set : of_rule Plain ([]) ≡ Some Const
unfolding within
empty_set = refl

set_of_action : of_rule Plain (State ∷ Action ∷ []) ≡ Some Action
unfolding within
set_of_action = refl

set_of_temporal : of_rule Plain (State ∷ Temporal ∷ []) ≡ None
unfolding within
set_of_temporal = refl

bounded_temporal : of_form Constant Form.Bounded (Temporal ∷ Action ∷ []) ≡ Some Temporal
unfolding within
bounded_temporal = refl

bounded_by_temporal : of_form Constant Form.Bounded (Const ∷ State ∷ Temporal ∷ []) ≡ None
unfolding within
bounded_by_temporal = refl

declared_operator : of_form Operator (Form.Call 0) (State ∷ Action ∷ []) ≡ Some Action
unfolding within
declared_operator = refl

declared_operator_on_temporal : of_form Operator (Form.Call 0) (Temporal ∷ []) ≡ None
unfolding within
declared_operator_on_temporal = refl

operator_parameter_on_temporal : of_form Parameter (Form.Call 0) (Const ∷ Temporal ∷ []) ≡ Some Temporal
unfolding within
operator_parameter_on_temporal = refl

operator_parameter_on_box : of_form Parameter (Form.Call 0) (BoxAction ∷ []) ≡ Some Action
unfolding within
operator_parameter_on_box = refl

old_value : of_form Constant Form.Old (Temporal ∷ State ∷ []) ≡ Some Temporal
unfolding within
old_value = refl

let_box : of_form Constant Form.Let (BoxAction ∷ []) ≡ Some BoxAction
unfolding within
let_box = refl

-- ---- the rules of forms

always_is_always : symbol_rule Fix.Prefix (LexKind.Sym Op.Always) ≡ Some Always
always_is_always = refl

prime_is_prime : symbol_rule Fix.Postfix (LexKind.Sym Op.Prime) ≡ Some Prime
prime_is_prime = refl

plus_has_none : symbol_rule Fix.Infix (LexKind.Sym Op.Plus) ≡ None
plus_has_none = refl

minus_has_none : symbol_rule Fix.Prefix (LexKind.Sym Op.Minus) ≡ None
minus_has_none = refl
