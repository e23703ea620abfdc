-- Small modules with definitions, the kinds of what is written in them, their faults and depths. Each is written with the
-- numbers of its nodes; of what stands round a node, `x` is a variable.
use Rattle.std.proofs.Common.{◌≡◌, ℕ, zero, suc, ◌+◌, ◌*◌, true, false, List, [], ◌∷◌, ◌++◌, Option, Some, None, refl, map}
use Rattle.std.specs.Prelude.{slice_get}
use Rattle.tla_symbols.specs.declared.level.Kind.{Kind}
use Rattle.tla_symbols.specs.declared.level.Kind.TheVariants.{Const, State, Action, BoxAction, Temporal}
use Rattle.tla_symbols.specs.declared.level.Rule.TheVariants.{Plain, Boolean, Prime, Always, Square}
use Rattle.order_rec.specs.Earlier.{within}
use Rattle.kind_text.specs.FlatModule.{Definition, FlatModule, Form, Instance, Node, Replacement}
use Rattle.level_text.specs.Depth.{deep_definitions, depth, depth_of, instance_depth}
use Rattle.level_text.specs.LevelFaults.{Place, Constant, Variable, Parameter, Site, kind_at, not_constant, refused, too_high}

-- a node that is no bare operator
abbrev node : Form → List ℕ → Node
node form parts = record { form = form; places = None; parts = parts }

-- a bare operator with one place
abbrev bare : Form → Node
bare form = record { form = form; places = Some 1; parts = [] }

-- what stands at a place, and a number
abbrev here : ℕ → Node
here place = node (Form.Parameter place) []

abbrev number : Node
number = node (Form.Leaf Const) []

abbrev use_of : ℕ → List ℕ → Node
use_of d parts = node (Form.Use [] d) parts

abbrev through : List ℕ → ℕ → List ℕ → Node
through path d parts = node (Form.Use path d) parts

abbrev definition : ℕ → ℕ → Definition
definition outer root = record { outer = outer; root = root }

-- what stands for a symbol, of at most this level; and a symbol that stays
abbrev at_most : ℕ → ℕ → Replacement
at_most most root = record { root = root; most = Some most }

abbrev staying : ℕ → Replacement
staying root = record { root = root; most = None }

-- an instance with a name, and one without
abbrev named : ℕ → ℕ → List Replacement → Instance
named outer parameters rs = record { outer = outer; parameters = parameters; guards = true; replacements = rs }

abbrev unnamed : ℕ → List Replacement → Instance
unnamed outer rs = record { outer = outer; parameters = 0; guards = false; replacements = rs }

abbrev flat_of : List Node → List Definition → List Instance → FlatModule
flat_of nodes definitions instances = record { nodes = nodes; definitions = definitions; instances = instances }

abbrev sites : List Place → List ℕ → List Site
sites round nodes = map (λ i. record { node = i; round = round }) nodes

-- the kinds of these nodes, with that round them
abbrev kinds : FlatModule → List Place → List ℕ → List (Option Kind)
kinds flat round nodes = map (kind_at flat) (sites round nodes)

-- where levels are refused among these nodes
abbrev refusals : FlatModule → List Site → List ℕ
refusals flat nodes = map (λ site. site.node) (refused flat (record { nodes = nodes; assumptions = []; instances = [] }))

-- the replacements that are too high, of these instances with that round them
abbrev high : FlatModule → List Place → List ℕ → List (List ℕ)
high flat round js = too_high flat (map (λ j. record { instance = j; round = round }) js)

abbrev x : List Place
x = Variable ∷ []

-- x and a parameter
abbrev x_p : List Place
x_p = Variable ∷ Parameter ∷ []

-- ---- uses

-- VARIABLE x | F(p) == p' (1) | U == F(x) (3) | V == F(x') (6)
abbrev primed : FlatModule
primed = flat_of (here 1 ∷ node (Form.Operation Prime) (0 ∷ []) ∷ here 0 ∷ use_of 0 (2 ∷ []) ∷ here 0 ∷ node (Form.Operation Prime) (4 ∷ []) ∷ use_of 0 (5 ∷ []) ∷ []) (definition 1 1 ∷ []) ([])

prime_at_a_use : kinds primed x (3 ∷ 6 ∷ []) ≡ Some Action ∷ None ∷ []
unfolding within
prime_at_a_use = refl

refused_at_the_use : refusals primed (sites x_p (0 ∷ 1 ∷ []) ++ sites x (2 ∷ 3 ∷ 4 ∷ 5 ∷ 6 ∷ [])) ≡ 6 ∷ []
unfolding within
refused_at_the_use = refl

-- VARIABLE x | A == x' (1) | U == []A (3) | V == [][A]_x (7) | F(p) == []p (9) | W == F(x) (11), F([A]_x) (12), F(A) (13)
abbrev boxes : FlatModule
boxes = flat_of (here 0 ∷ node (Form.Operation Prime) (0 ∷ []) ∷ use_of 0 [] ∷ node (Form.Operation Always) (2 ∷ []) ∷ use_of 0 [] ∷ here 0 ∷ node (Form.Operation Square) (4 ∷ 5 ∷ []) ∷ node (Form.Operation Always) (6 ∷ []) ∷ here 1 ∷ node (Form.Operation Always) (8 ∷ []) ∷ here 0 ∷ use_of 1 (10 ∷ []) ∷ use_of 1 (6 ∷ []) ∷ use_of 1 (2 ∷ []) ∷ []) (definition 1 1 ∷ definition 1 9 ∷ []) ([])

box_of_a_plain_action : kinds boxes x (1 ∷ 3 ∷ 6 ∷ 7 ∷ []) ≡ Some Action ∷ None ∷ Some BoxAction ∷ Some Temporal ∷ []
unfolding within
box_of_a_plain_action = refl

box_judged_at_uses : kinds boxes x (11 ∷ 12 ∷ 13 ∷ []) ≡ Some Temporal ∷ Some Temporal ∷ None ∷ []
unfolding within
box_judged_at_uses = refl

refused_box : refusals boxes (sites x (1 ∷ 2 ∷ 3 ∷ 6 ∷ 7 ∷ 11 ∷ 12 ∷ 13 ∷ [])) ≡ 3 ∷ 13 ∷ []
unfolding within
refused_box = refl

-- VARIABLE x | G(Op(_)) == Op(x) (1) | H(y) == y' (5) | LAMBDA y : []y (9) | K(y) == y'' (14); G of ', H, that LAMBDA, K (3, 7, 11, 16)
abbrev operators : FlatModule
operators = flat_of (here 0 ∷ node (Form.Call 1) (0 ∷ []) ∷ bare (Form.Symbol Prime) ∷ use_of 0 (2 ∷ []) ∷ here 1 ∷ node (Form.Operation Prime) (4 ∷ []) ∷ bare (Form.Name [] 1) ∷ use_of 0 (6 ∷ []) ∷ here 1 ∷ node (Form.Operation Always) (8 ∷ []) ∷ bare (Form.Lambda 2) ∷ use_of 0 (10 ∷ []) ∷ here 1 ∷ node (Form.Operation Prime) (12 ∷ []) ∷ node (Form.Operation Prime) (13 ∷ []) ∷ bare (Form.Name [] 3) ∷ use_of 0 (15 ∷ []) ∷ []) (definition 1 1 ∷ definition 1 5 ∷ definition 1 9 ∷ definition 1 14 ∷ []) ([])

operators_applied : kinds operators x (3 ∷ 7 ∷ 11 ∷ 16 ∷ []) ≡ Some Action ∷ Some Action ∷ Some Temporal ∷ None ∷ []
unfolding within
operators_applied = refl

operators_on_constants : kinds operators x (2 ∷ 6 ∷ 10 ∷ 15 ∷ []) ≡ Some Action ∷ Some Action ∷ Some Temporal ∷ None ∷ []
unfolding within
operators_on_constants = refl

bare_operator_refused : refusals operators (sites x_p (12 ∷ 13 ∷ 14 ∷ []) ++ sites x (2 ∷ 3 ∷ 6 ∷ 7 ∷ 11 ∷ 15 ∷ 16 ∷ [])) ≡ 14 ∷ 15 ∷ []
unfolding within
bare_operator_refused = refl

-- VARIABLE x | F(p) == LET g(y) == p /\ y IN g(x) (5) | U == F([]x) (8) | V == F(1) (10)
abbrev captured : FlatModule
captured = flat_of (here 1 ∷ here 2 ∷ node (Form.Operation Boolean) (0 ∷ 1 ∷ []) ∷ here 0 ∷ use_of 0 (3 ∷ []) ∷ node Form.Let (4 ∷ 2 ∷ []) ∷ here 0 ∷ node (Form.Operation Always) (6 ∷ []) ∷ use_of 1 (7 ∷ []) ∷ number ∷ use_of 1 (9 ∷ []) ∷ []) (definition 2 2 ∷ definition 1 5 ∷ []) ([])

parameter_in_let : kinds captured x (8 ∷ 10 ∷ []) ≡ Some Temporal ∷ Some State ∷ []
unfolding within
parameter_in_let = refl

-- VARIABLES x, i | [x EXCEPT ![i] = @ + 1] (5) | [x EXCEPT ![i] = LET g(y) == @ IN g(1)] (10)
abbrev olds : FlatModule
olds = flat_of (here 0 ∷ here 1 ∷ node Form.Old (0 ∷ 1 ∷ []) ∷ number ∷ node (Form.Operation Plain) (2 ∷ 3 ∷ []) ∷ node (Form.Operation Plain) (0 ∷ 1 ∷ 4 ∷ []) ∷ node Form.Old (0 ∷ 1 ∷ []) ∷ number ∷ use_of 0 (7 ∷ []) ∷ node Form.Let (8 ∷ 6 ∷ []) ∷ node (Form.Operation Plain) (0 ∷ 1 ∷ 9 ∷ []) ∷ []) (definition 2 6 ∷ []) ([])

old_values : kinds olds (Variable ∷ Variable ∷ []) (2 ∷ 5 ∷ 9 ∷ 10 ∷ []) ≡ Some State ∷ Some State ∷ Some State ∷ Some State ∷ []
unfolding within
old_values = refl

old_of_what_is_put_in : kinds olds (Parameter ∷ Constant ∷ []) (5 ∷ 10 ∷ []) ≡ Some Const ∷ Some Const ∷ []
unfolding within
old_of_what_is_put_in = refl

-- a variable x, Next == x', and then definitions of which each is a conjunction of two uses of the one before it: the nodes and the
-- definitions of so many of these
abbrev doubled : ℕ → ℕ → List Node
doubled k zero = []
doubled k (suc n) = use_of k [] ∷ use_of k [] ∷ node (Form.Operation Boolean) ((3 * k + 2) ∷ (3 * k + 3) ∷ []) ∷ doubled (suc k) n

abbrev doublings : ℕ → ℕ → List Definition
doublings k zero = []
doublings k (suc n) = definition 1 (3 * k + 4) ∷ doublings (suc k) n

abbrev chain : ℕ → FlatModule
chain n = flat_of (here 0 ∷ node (Form.Operation Prime) (0 ∷ []) ∷ doubled 0 n) (definition 1 1 ∷ doublings 0 n) []

doubling_chain : kinds (chain 6) x (1 ∷ 4 ∷ 19 ∷ []) ≡ Some Action ∷ Some Action ∷ Some Action ∷ []
unfolding within
doubling_chain = refl

depth_of_the_chain : map (λ d. depth_of (depth (chain 6)) (slice_get (chain 6).definitions d)) (0 ∷ 1 ∷ 6 ∷ []) ≡ 1 ∷ 2 ∷ 7 ∷ []
unfolding within
depth_of_the_chain = refl

-- ---- instances

-- Q has CONSTANT c, VARIABLE v, F == v' (1), G == c (2). VARIABLE x | I == INSTANCE Q WITH c <- 1, v <- x | J == INSTANCE Q WITH c <- x, v <- x
-- | K(p) == INSTANCE Q WITH c <- p, v <- x | INSTANCE Q WITH c <- x, v <- x; I!F (5), J!F (8), K(1)!F (12), K(x)!F (14), G by the last (15), F by it (16)
abbrev instances : FlatModule
instances = flat_of (here 1 ∷ node (Form.Operation Prime) (0 ∷ []) ∷ here 0 ∷ number ∷ here 0 ∷ through (0 ∷ []) 0 [] ∷ here 0 ∷ here 0 ∷ through (1 ∷ []) 0 [] ∷ here 1 ∷ here 0 ∷ number ∷ through (2 ∷ []) 0 (11 ∷ []) ∷ here 0 ∷ through (2 ∷ []) 0 (13 ∷ []) ∷ through (3 ∷ []) 1 [] ∷ through (3 ∷ []) 0 [] ∷ []) (definition 2 1 ∷ definition 2 2 ∷ []) (named 1 0 (at_most 0 3 ∷ at_most 1 4 ∷ []) ∷ named 1 0 (at_most 0 6 ∷ at_most 1 7 ∷ []) ∷ named 1 1 (at_most 0 9 ∷ at_most 1 10 ∷ []) ∷ unnamed 1 (at_most 0 6 ∷ at_most 1 7 ∷ []) ∷ [])

guards : kinds instances x (5 ∷ 8 ∷ []) ≡ Some Action ∷ None ∷ []
unfolding within
guards = refl

guards_by_arguments : kinds instances x (12 ∷ 14 ∷ []) ≡ Some Action ∷ None ∷ []
unfolding within
guards_by_arguments = refl

no_guard_without_a_name : kinds instances x (15 ∷ 16 ∷ []) ≡ Some State ∷ Some Action ∷ []
unfolding within
no_guard_without_a_name = refl

replacements_too_high : high instances x (0 ∷ 1 ∷ 3 ∷ []) ≡ [] ∷ (6 ∷ []) ∷ (6 ∷ []) ∷ []
unfolding within
replacements_too_high = refl

parameter_as_replacement : high instances x_p (2 ∷ []) ≡ [] ∷ []
unfolding within
parameter_as_replacement = refl

-- P has VARIABLE v and F == v' (1); Q has VARIABLE w and I == INSTANCE P WITH v <- w. VARIABLES y, x | J == INSTANCE Q WITH w <- x | K == INSTANCE Q WITH w <- x'
-- | L == INSTANCE Q WITH w <- 1; J!I!F (4), K!I!F (7), L!I!F (9)
abbrev two_instances : FlatModule
two_instances = flat_of (here 0 ∷ node (Form.Operation Prime) (0 ∷ []) ∷ here 0 ∷ here 1 ∷ through (1 ∷ 0 ∷ []) 0 [] ∷ here 1 ∷ node (Form.Operation Prime) (5 ∷ []) ∷ through (2 ∷ 0 ∷ []) 0 [] ∷ number ∷ through (3 ∷ 0 ∷ []) 0 [] ∷ []) (definition 1 1 ∷ []) (named 1 0 (at_most 1 2 ∷ []) ∷ named 2 0 (at_most 1 3 ∷ []) ∷ named 2 0 (at_most 1 6 ∷ []) ∷ named 2 0 (at_most 1 8 ∷ []) ∷ [])

through_two_instances : kinds two_instances (Constant ∷ Variable ∷ []) (4 ∷ 7 ∷ 9 ∷ []) ≡ Some Action ∷ None ∷ Some Action ∷ []
unfolding within
through_two_instances = refl

-- P has CONSTANTS c, Op(_) and F == Op(c) (1). VARIABLE x | I == INSTANCE P WITH c <- x', Op <- ~ | J == INSTANCE P WITH c <- x, Op <- [] | H(y) == y'
-- | K == INSTANCE P WITH c <- x, Op <- H; I!F (5), J!F (8), K!F (13)
abbrev constant_module : FlatModule
constant_module = flat_of (here 0 ∷ node (Form.Call 1) (0 ∷ []) ∷ here 0 ∷ node (Form.Operation Prime) (2 ∷ []) ∷ bare (Form.Symbol Boolean) ∷ through (0 ∷ []) 0 [] ∷ here 0 ∷ bare (Form.Symbol Always) ∷ through (1 ∷ []) 0 [] ∷ here 1 ∷ node (Form.Operation Prime) (9 ∷ []) ∷ here 0 ∷ bare (Form.Name [] 1) ∷ through (2 ∷ []) 0 [] ∷ []) (definition 2 1 ∷ definition 1 10 ∷ []) (named 1 0 (at_most 2 3 ∷ at_most 2 4 ∷ []) ∷ named 1 0 (at_most 2 6 ∷ at_most 2 7 ∷ []) ∷ named 1 0 (at_most 2 11 ∷ at_most 2 12 ∷ []) ∷ [])

operators_as_replacements : kinds constant_module x (5 ∷ 8 ∷ 13 ∷ []) ≡ Some Action ∷ None ∷ Some Action ∷ []
unfolding within
operators_as_replacements = refl

operator_too_high : high constant_module x (0 ∷ 1 ∷ 2 ∷ []) ≡ [] ∷ (7 ∷ []) ∷ [] ∷ []
unfolding within
operator_too_high = refl

-- VARIABLE x | a nested module N with CONSTANT c and F == c /\ x (2) | I == INSTANCE N WITH c <- 1 | U == I!F (5)
abbrev nested : FlatModule
nested = flat_of (here 1 ∷ here 0 ∷ node (Form.Operation Boolean) (0 ∷ 1 ∷ []) ∷ here 0 ∷ number ∷ through (0 ∷ []) 0 [] ∷ []) (definition 2 2 ∷ []) (named 1 0 (staying 3 ∷ at_most 0 4 ∷ []) ∷ [])

symbol_round_a_nested_module : kinds nested x (2 ∷ 5 ∷ []) ≡ Some State ∷ Some State ∷ []
unfolding within
symbol_round_a_nested_module = refl

-- ---- assumptions and depth

-- VARIABLE x | ASSUME x (0) | ASSUME 1 (1)
abbrev assumed : FlatModule
assumed = flat_of (here 0 ∷ number ∷ []) ([]) ([])

assumptions : map (λ site. site.node) (not_constant assumed (record { nodes = []; assumptions = sites x (0 ∷ 1 ∷ []); instances = [] })) ≡ 0 ∷ []
unfolding within
assumptions = refl

-- A == 1 (0) | B == A (1) | G(Op(_)) == Op(1) (3) | H(y) == B (4); G(H) (6), G(LAMBDA y : B) (9), LET C == B IN 1 (12), B in a set (14)
-- | Q has CONSTANT c and F == c (15) | I == INSTANCE Q WITH c <- B; I!F (17)
abbrev depths : FlatModule
depths = flat_of (number ∷ use_of 0 [] ∷ number ∷ node (Form.Call 0) (2 ∷ []) ∷ use_of 1 [] ∷ bare (Form.Name [] 3) ∷ use_of 2 (5 ∷ []) ∷ use_of 1 [] ∷ bare (Form.Lambda 4) ∷ use_of 2 (8 ∷ []) ∷ use_of 1 [] ∷ number ∷ node Form.Let (11 ∷ 10 ∷ []) ∷ use_of 1 [] ∷ node (Form.Operation Plain) (13 ∷ []) ∷ here 0 ∷ use_of 1 [] ∷ through (0 ∷ []) 5 [] ∷ []) (definition 0 0 ∷ definition 0 1 ∷ definition 0 3 ∷ definition 0 4 ∷ definition 0 7 ∷ definition 1 15 ∷ []) (named 0 0 (at_most 0 16 ∷ []) ∷ [])

depths_of_definitions : map (λ d. depth_of (depth depths) (slice_get depths.definitions d)) (0 ∷ 1 ∷ 2 ∷ 3 ∷ 5 ∷ []) ≡ 1 ∷ 2 ∷ 1 ∷ 3 ∷ 1 ∷ []
unfolding within
depths_of_definitions = refl

depths_of_uses : map (depth depths) (6 ∷ 9 ∷ 12 ∷ 14 ∷ 17 ∷ []) ≡ 4 ∷ 3 ∷ 2 ∷ 2 ∷ 3 ∷ []
unfolding within
depths_of_uses = refl

depth_of_an_instance : instance_depth (depth depths) (slice_get depths.instances 0) ≡ 3
unfolding within
depth_of_an_instance = refl

none_too_deep : deep_definitions depths (0 ∷ 1 ∷ 2 ∷ 3 ∷ 4 ∷ 5 ∷ []) ≡ []
unfolding within
none_too_deep = refl
