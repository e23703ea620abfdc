-- How much work a node and an argument may be.
use Rattle.std.specs.Prelude.{ℕ, zero, suc, ◌+◌, ◌*◌, List, [], ◌∷◌, Option, Some, None, length, max, slice_get}
use Rattle.order_rec.specs.Earlier.{along}
use Rattle.kind_text.specs.FlatModule.{Definition, FlatModule, Form, Node}
use Rattle.kind_table.specs.declared.argument.Arg.{Arg}
use Rattle.kind_table.specs.declared.argument.Arg.TheVariants.{Value, Stays, BuiltIn, Operator}

-- the number of instances on a form's path
abbrev pub path_length : Form → ℕ
path_length (Form.Use path d) = length path
path_length (Form.Name path d) = length path
path_length form = 0

-- the greatest number of instances on a path
abbrev pub longest : List Node → ℕ
longest [] = 0
longest (node ∷ rest) = max (path_length node.form) (longest rest)

-- a number so many times
unfoldable pub times : ℕ → ℕ → ℕ
times zero c = 0
times (suc k) c = c + times k c

-- how much work a node may be, whatever is put in, where paths have so many instances at most
unfoldable pub cost : ℕ → ℕ → ℕ
cost most zero = 16
cost most (suc i) = 4 * cost most i + times most (cost most i)

-- the same of the node before it
abbrev pub lower_cost : ℕ → ℕ → ℕ
lower_cost most zero = 0
lower_cost most (suc i) = cost most i

-- the work of a node of a module
abbrev pub node_cost : FlatModule → ℕ → ℕ
node_cost flat = cost (longest flat.nodes)

-- the work of a definition's body
abbrev pub body_cost : FlatModule → Option Definition → ℕ
body_cost flat None = 0
body_cost flat (Some d) = node_cost flat d.root + 4

-- the greatest work of these
abbrev pub heaviest : (ℕ → ℕ) → List ℕ → ℕ
heaviest f [] = 0
heaviest f (n ∷ ns) = max (f n) (heaviest f ns)

-- the work of an argument's call, by that of the entries before it
abbrev pub arg_weight : FlatModule → (ℕ → ℕ) → Option Arg → ℕ
arg_weight flat f None = 0
arg_weight flat f (Some (Value k)) = 0
arg_weight flat f (Some (Stays rule)) = 0
arg_weight flat f (Some (BuiltIn rule)) = 0
arg_weight flat f (Some (Operator d ns)) = heaviest f ns.items + body_cost flat (slice_get flat.definitions d)

-- the work of an entry's call
abbrev pub weight : FlatModule → List Arg → ℕ → ℕ
weight flat table = along 0 (λ i f. arg_weight flat f (slice_get table i))

-- the greatest work of the entries of a frame
abbrev pub load : FlatModule → List Arg → List ℕ → ℕ
load flat table = heaviest (weight flat table)
