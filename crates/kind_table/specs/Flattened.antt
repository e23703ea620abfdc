-- What the tables of a flat module are as definitions, and where the nodes that a node's kind is made of begin.
use Rattle.std.specs.Global.{Global}
use Rattle.std.specs.Prelude.{Vec, ◌≡◌, ℕ, ◌<◌, ◌≤◌, List, [], ◌∷◌, Option, Some, None, fold, length, map, min, slice_get, slice_index_or}
use Rattle.order_rec.specs.Earlier.{along}
use Rattle.kind_text.specs.FlatModule as flat
use Rattle.kind_text.specs.FlatModule.{Definition, FlatModule, Instance, Node, Replacement}
use Rattle.kind_table.specs.declared.flat.Form.{Form}
use Rattle.kind_table.specs.declared.flat.Form.TheVariants as variant
use Rattle.kind_table.specs.declared.flat.Node as node
use Rattle.kind_table.specs.declared.flat.Definition as definition
use Rattle.kind_table.specs.declared.flat.Replacement as replacement
use Rattle.kind_table.specs.declared.flat.Instance as instance
use Rattle.kind_table.specs.declared.flat.FlatModule as table

-- ---- tables as definitions

-- the instances of a path that may be there
abbrev pub path_of : Option (Vec ℕ Global) → List ℕ
path_of None = []
path_of (Some path) = path.items

-- the instances of a path, by its number
abbrev pub path_at : List (Vec ℕ Global) → ℕ → List ℕ
path_at paths i = path_of (slice_get paths i)

-- a form, with its path
abbrev pub form_of : List (Vec ℕ Global) → Form → flat.Form
form_of paths (variant.Leaf kind) = flat.Form.Leaf kind
form_of paths (variant.Parameter place) = flat.Form.Parameter place
form_of paths (variant.Call place) = flat.Form.Call place
form_of paths (variant.Operation rule) = flat.Form.Operation rule
form_of paths variant.Bounded = flat.Form.Bounded
form_of paths variant.Old = flat.Form.Old
form_of paths variant.Let = flat.Form.Let
form_of paths (variant.Use path d) = flat.Form.Use (path_at paths path) d
form_of paths (variant.Name path d) = flat.Form.Name (path_at paths path) d
form_of paths (variant.Symbol rule) = flat.Form.Symbol rule
form_of paths (variant.Lambda d) = flat.Form.Lambda d

-- a node
abbrev pub node_of : List (Vec ℕ Global) → node.Node → Node
node_of paths n = record { form = form_of paths n.form; places = n.places; parts = n.parts.items }

-- a definition
abbrev pub definition_of : definition.Definition → Definition
definition_of d = record { outer = d.outer; root = d.root }

-- a replacement
abbrev pub replacement_of : replacement.Replacement → Replacement
replacement_of r = record { root = r.root; most = r.most }

-- an instance
abbrev pub instance_of : instance.Instance → Instance
instance_of j = record { outer = j.outer; parameters = j.parameters; guards = j.guards; replacements = map replacement_of j.replacements.items }

-- all that is defined
unfoldable pub flat_of : table.FlatModule → FlatModule
flat_of t =
    record {
      nodes = map (node_of t.paths.items) t.nodes.items;
      definitions = map definition_of t.definitions.items;
      instances = map instance_of t.instances.items;
    }

-- ---- where a node's part of the nodes begins

-- the first of a node and of the firsts of these
abbrev pub least_among : (ℕ → ℕ) → ℕ → List ℕ → ℕ
least_among f i parts = fold (λ least part. min least (f part)) i parts

-- the same of LET, where the body alone counts
abbrev pub least_inner : (ℕ → ℕ) → ℕ → List ℕ → ℕ
least_inner f i [] = i
least_inner f i (part ∷ rest) = min i (f part)

-- the first node that a form is made of
abbrev pub least_of : (ℕ → ℕ) → ℕ → flat.Form → List ℕ → ℕ
least_of f i flat.Form.Let parts = least_inner f i parts
least_of f i other parts = least_among f i parts

-- the first node that a node is made of
abbrev pub least_at : (ℕ → ℕ) → ℕ → Option Node → ℕ
least_at f i None = i
least_at f i (Some n) = least_of f i n.form n.parts

-- the first of the nodes that a node's expansion is made of, definitions aside
abbrev pub first_node : FlatModule → ℕ → ℕ
first_node m = along 0 (λ i f. least_at f i (slice_get m.nodes i))

-- the numbers at places, and 0 past the end
abbrev pub number_in : List ℕ → ℕ → ℕ
number_in numbers i = slice_index_or numbers i 0

-- the first of a node and of the firsts of these, as a list
abbrev pub first_among : List ℕ → ℕ → List ℕ → ℕ
first_among firsts = least_among (number_in firsts)

-- the same of LET
abbrev pub first_inner : List ℕ → ℕ → List ℕ → ℕ
first_inner firsts = least_inner (number_in firsts)

-- the same of each form
abbrev pub first_of : List ℕ → ℕ → Form → List ℕ → ℕ
first_of firsts i variant.Let parts = first_inner firsts i parts
first_of firsts i other parts = first_among firsts i parts

-- these are first nodes, as far as they go
abbrev pub AreFirsts : FlatModule → List ℕ → Type 0
AreFirsts m firsts = (i : ℕ) → i < length firsts → number_in firsts i ≡ first_node m i

-- these are the first nodes of all nodes
pub record IsFirsts (m : FlatModule) (firsts : List ℕ) : Type 0 where
  pub long : length firsts ≡ length m.nodes
  pub each : AreFirsts m firsts

-- those of some nodes become those of all
abbrev pub GivesFirsts : FlatModule → List ℕ → List ℕ → Type 0
GivesFirsts m some all = length some ≤ length m.nodes → AreFirsts m some → IsFirsts m all
