-- Trees of nodes: each is missing, or has the places of its node.
use Rattle.std.proofs.Common.{◌≡◌, ◌⊎◌, ℕ, zero, suc, Bool, true, false, cond, List, Option, Some, None, refl, inl, inr}
use Rattle.std.specs.Prelude.{nat_lt, slice_get}
use Rattle.order_rec.specs.Earlier.{before, within}
use Rattle.kind_text.specs.FlatModule.{FlatModule, Form, Node, places_of}
use Rattle.resolved_trees.specs.Resolved.{Missing, Resolved, form_at, node_at, places_in, resolved}

-- a tree is missing, or has the places of the node with this number
abbrev pub IsKnown : FlatModule → ℕ → Resolved → Type 0
IsKnown flat j tree = (tree ≡ Missing) ⊎ (places_in tree ≡ places_of (slice_get flat.nodes j))

-- one step of trees
abbrev pub tree_step : FlatModule → ℕ → (ℕ → Resolved) → Resolved
tree_step flat i f = node_at flat f (slice_get flat.nodes i)

form-places : (flat : FlatModule) (f : ℕ → Resolved) (form : Form) (places : Option ℕ) (parts : List ℕ) → places_in (form_at flat f form places parts) ≡ places
form-places flat f (Form.Leaf kind) places parts = refl
form-places flat f (Form.Parameter place) places parts = refl
form-places flat f (Form.Call place) places parts = refl
form-places flat f (Form.Operation rule) places parts = refl
form-places flat f Form.Bounded places parts = refl
form-places flat f Form.Old places parts = refl
form-places flat f Form.Let places parts = refl
form-places flat f (Form.Use path d) places parts = refl
form-places flat f (Form.Name path d) places parts = refl
form-places flat f (Form.Symbol rule) places parts = refl
form-places flat f (Form.Lambda d) places parts = refl

pub node-places : (flat : FlatModule) (f : ℕ → Resolved) (o : Option Node) → places_in (node_at flat f o) ≡ places_of o
node-places flat f None = refl
node-places flat f (Some node) = form-places flat f node.form node.places node.parts

within-known : (flat : FlatModule) (n j : ℕ) → IsKnown flat j (within Missing (tree_step flat) n j)
unfolding within
within-known flat zero j = inl refl
within-known flat (suc n) j = inr (node-places flat (before Missing (within Missing (tree_step flat) n) j) (slice_get flat.nodes j))

pub before-known : (flat : FlatModule) (n i j : ℕ) → IsKnown flat j (before Missing (within Missing (tree_step flat) n) i j)
before-known flat n i j = by (nat_lt j i)
  where
    by : (b : Bool) → IsKnown flat j (cond b (within Missing (tree_step flat) n j) Missing)
    by true = within-known flat n j
    by false = inl refl

-- so is the tree of a node
pub resolved-known : (flat : FlatModule) (j : ℕ) → IsKnown flat j (resolved flat j)
resolved-known flat j = within-known flat (suc j) j
