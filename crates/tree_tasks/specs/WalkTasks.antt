-- A walk over a tree, from what is due of it, the next one last.
use Rattle.std.specs.Prelude.{ℕ, Bool, true, false, Option, Some, None, List, [], ◌∷◌, ◌++◌, map, filter, if◌then◌else◌, reverse}
use Rattle.std.specs.List.{AllByRecursion}
use Rattle.tla_symbols.specs.declared.lexeme.Lexeme.{Lexeme}
use Rattle.tla_tree.specs.declared.form.Form.TheVariants as Form
use Rattle.tla_tree.specs.Arena.{Node, AreThere, node_at}
use Rattle.tla_tree.specs.Syntax as Syntax
use Rattle.tla_model.specs.declared.names.Finding.TheVariants.{ReplacedTwice}
use Rattle.tla_model.specs.Contexts.{Context, meaning_of}
use Rattle.tla_model.specs.Entities.{Meaning, name_of}
use Rattle.tla_model.specs.Scopes.{Finding, has_set}
use Rattle.tla_model.specs.Tables.{Named, has, put}
use Rattle.module_model.specs.Exports.{Behind}
use Rattle.module_model.specs.Instances.{called_by, implied_as}
use Rattle.tree_tasks.specs.declared.held.Held.{Held}
use Rattle.tree_tasks.specs.declared.tasks.Task.TheVariants as task
use Rattle.tree_tasks.specs.declared.tasks.Naming.TheVariants as how
use Rattle.name_context.specs.declared.context.Mark.{Mark}
use Rattle.declared_names.specs.Nodes.{IsWhole, form_at}

-- what is to be done next in a walk
abbrev pub Task : Type 0
Task = task.the_data

-- how a form names things
abbrev pub naming : Form.the_data → how.the_data
naming Form.Identifier = how.Path
naming (Form.Symbol l) = how.Bare l
naming (Form.Prefix l) = how.Prefix l
naming (Form.Infix l) = how.Infix l
naming (Form.Postfix l) = how.Postfix l
naming Form.Let = how.InOrder
naming Form.SetImage = how.BoundsLast
naming (Form.FunctionDefinition l) = how.Function l
naming (Form.Instance l) = how.Instance l
naming _ = how.BoundsFirst

-- visits of these nodes, one after another
abbrev pub visits : List ℕ → List Task
visits nodes = map (λ node. task.Visit node) nodes

-- both hold, or neither
abbrev pub same : Bool → Bool → Bool
same true b = b
same false true = false
same false false = true

-- whether a node has a set, or none, as is asked
abbrev pub is_chosen : List Node → Bool → ℕ → Bool
is_chosen nodes sets node = same (has_set (form_at nodes node)) sets

-- visits, each with the definition of its name behind it
abbrev pub chain : List ℕ → List Task
chain [] = []
chain (node ∷ nodes) = task.Visit node ∷ (task.Define node ∷ chain nodes)

-- the same from the end, as it is put on a stack
abbrev pub chain_back : List ℕ → List Task
chain_back [] = []
chain_back (node ∷ nodes) = task.Define node ∷ (task.Visit node ∷ chain_back nodes)

-- the scope that began at a mark is left
abbrev pub leave : Mark → Task
leave mark = task.Leave mark

-- a symbol is used as it is spelled
abbrev pub used : Lexeme → Task
used l = task.Symbol l

-- visits of the children that have a set, or of those that have none
abbrev pub with_sets : List Node → Bool → List ℕ → List Task
with_sets nodes sets children = visits (filter (is_chosen nodes sets) children)

-- the names of a node enter the context, the children without a set are visited, and the scope is left
abbrev pub in_scope : List Node → ℕ → List ℕ → Mark → List Task → List Task
in_scope nodes node children mark more = task.Bind node ∷ (with_sets nodes false children ++ (task.Leave mark ∷ more))

-- what is due of a node, before more, by its children: sets of bounds, and then the scope of the names
abbrev pub scope_tasks : List Node → ℕ → List ℕ → Mark → List Task → List Task
scope_tasks nodes node children mark more = with_sets nodes true children ++ in_scope nodes node children mark more

-- the same of a function
abbrev pub function_tasks : List Node → ℕ → Lexeme → List ℕ → Mark → List Task → List Task
function_tasks nodes node name children mark more = with_sets nodes true children ++ (task.Leave mark ∷ (task.Function name ∷ in_scope nodes node children mark more))

-- the scope of the names, and then the sets
abbrev pub image_tasks : List Node → ℕ → List ℕ → Mark → List Task → List Task
image_tasks nodes node children mark more = in_scope nodes node children mark (with_sets nodes true children ++ more)

-- a symbol behind the first operand
abbrev pub between_tasks : Lexeme → List ℕ → List Task → List Task
between_tasks l [] more = task.Symbol l ∷ more
between_tasks l (x ∷ rest) more = task.Visit x ∷ (task.Symbol l ∷ (visits rest ++ more))

-- the name of a segment
abbrev pub segment_of : Form.the_data → Option Lexeme
segment_of (Form.Segment l) = Some l
segment_of _ = None

-- where a name leads that means this: nowhere, if it means nothing
abbrev pub leads : Option Meaning → Behind → Option Behind
leads None behind = None
leads (Some meaning) behind = Some behind

-- the segments of a path from this one on, if the one before it leads on
abbrev pub path_tasks : ℕ → ℕ → ℕ → Option Held → List Task → List Task
path_tasks node from number None more = more
path_tasks node from number (Some held) more = task.Path node from number held ∷ more

-- what a segment calls: the last one calls through the path before it, which has this number
abbrev pub called : Bool → ℕ → Option Meaning → Option Meaning
called true number meaning = called_by number Syntax.Nil meaning
called false number meaning = meaning

-- the left side of a replacement
abbrev pub left_of : Form.the_data → Option Lexeme
left_of (Form.Replacement l) = Some l
left_of _ = None

-- names with one more, if there is one; they mean nothing
abbrev pub noted : List ℕ → Context → Option Lexeme → Context
noted source names None = names
noted source names (Some l) = put names (name_of source l) None

-- names, and behind them the left sides among these nodes
abbrev pub noted_all : List ℕ → List Node → Context → List ℕ → Context
noted_all source nodes names [] = names
noted_all source nodes names (x ∷ rest) = noted_all source nodes (noted source names (left_of (form_at nodes x))) rest

-- what is due of a replacement, if it is one, behind these left sides: its own one, and visits of what stands for it
abbrev pub replacing : List ℕ → Context → Lexeme → Option Lexeme → List ℕ → List Task
replacing source names l None right = []
replacing source names l (Some left) right = task.Replace left l (has names (name_of source left)) ∷ visits right

-- what is due of the replacements among these nodes
abbrev pub replacements : List ℕ → List Node → Context → Lexeme → List ℕ → List Task
replacements source nodes names l [] = []
replacements source nodes names l (x ∷ rest) =
    replacing source names l (left_of (form_at nodes x)) (node_at nodes x).children
    ++ replacements source nodes (noted source names (left_of (form_at nodes x))) l rest

-- what is due of an INSTANCE: its replacements, and those that are not written
abbrev pub instance_tasks : List ℕ → List Node → Context → ℕ → Lexeme → List ℕ → List Task → List Task
instance_tasks source nodes names node l children more = replacements source nodes names l children ++ (task.Imply node l ∷ more)

-- the same left side is there again
abbrev pub twice : Lexeme → Bool → List Finding
twice l again = if again then ReplacedTwice l ∷ [] else []

-- a parameter of a module, unless its name is one of the left sides
abbrev pub implied_of : Context → Context → Lexeme → Named × Meaning → List Finding
implied_of context written l parameter = if has written parameter.0 then [] else implied_as l parameter.1 (meaning_of context parameter.0)

-- each of these is a node whose children are there
abbrev pub AreWhole : List Node → List ℕ → Type 0
AreWhole nodes numbers = AllByRecursion (λ x. IsWhole nodes x × AreThere nodes (node_at nodes x).children) numbers

-- the visit of one node
abbrev pub visited : ℕ → Task
visited node = task.Visit node

-- what is due, the next one first
abbrev pub stack : List Task → List Task
stack tasks = reverse tasks
