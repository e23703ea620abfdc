-- How deep nodes are is told by their trees.
use Rattle.std.proofs.Common.{◌≡◌, ℕ, zero, suc, ◌+◌, Bool, true, false, cond, List, [], ◌∷◌, Option, Some, None, refl, sym, ap, ◌∙◌, inl, inr, map, take, drop}
use Rattle.std.specs.Prelude.{max, nat_lt, slice_get}
use Rattle.order_rec.specs.Earlier.{before, within}
use Rattle.kind_text.specs.FlatModule.{Definition, FlatModule, Form, Instance, Node, Replacement, places_of}
use Rattle.level_text.specs.Depth as flat_depth
use Rattle.level_text.specs.Depth.{depth, form_depth, greatest, node_depth}
use Rattle.resolved_trees.specs.Resolved.{Missing, Resolved, definition_at, depth_in, depth_of, form_at, greatest_behind, greatest_first, greatest_in, greatest_replaced, inner_depth, instance_at, node_at, operator_depth, parameters_of, parameters_on, parts_at, path_at, places_in, replaced_in, replaced_on, replacements_at, resolved}
use Rattle.resolved_trees.proofs.Known.{IsKnown, before-known, tree_step}

-- nothing is as deep as nothing, whatever its places are
nothing-deep : (places : Option ℕ) → operator_depth places 0 ≡ 0
nothing-deep None = refl
nothing-deep (Some n) = refl

-- where earlier trees tell how deep earlier nodes are
module _ (flat : FlatModule) (f : ℕ → ℕ) (g : ℕ → Resolved) (tell : (j : ℕ) → f j ≡ depth_in (g j)) (known : (j : ℕ) → IsKnown flat j (g j)) where
  greatest-told : (is : List ℕ) → greatest f is ≡ greatest_in (parts_at flat g is)
  greatest-told [] = refl
  greatest-told (i ∷ is) = ap (λ n. max n (greatest f is)) (tell i) ∙ ap (max (depth_in (g i))) (greatest-told is)

  first-told : (n : ℕ) (is : List ℕ) → greatest f (take n is) ≡ greatest_first n (parts_at flat g is)
  first-told zero [] = refl
  first-told (suc n) [] = refl
  first-told zero (i ∷ is) = refl
  first-told (suc n) (i ∷ is) = ap (λ m. max m (greatest f (take n is))) (tell i) ∙ ap (max (depth_in (g i))) (first-told n is)

  operator-told : (i : ℕ) → flat_depth.operator_depth flat f i ≡ operator_depth (places_in (g i)) (depth_in (g i))
  operator-told i = ap (λ n. operator_depth (places_of (slice_get flat.nodes i)) n) (tell i) ∙ by (known i)
    where
      by : IsKnown flat i (g i) → operator_depth (places_of (slice_get flat.nodes i)) (depth_in (g i)) ≡ operator_depth (places_in (g i)) (depth_in (g i))
      by (inl missing) =
          ap (λ x. operator_depth (places_of (slice_get flat.nodes i)) (depth_in x)) missing
          ∙ nothing-deep (places_of (slice_get flat.nodes i))
          ∙ sym (ap (λ x. operator_depth (places_in x) (depth_in x)) missing)
      by (inr places) = ap (λ p. operator_depth p (depth_in (g i))) (sym places)

  behind-told : (n : ℕ) (is : List ℕ) → greatest (flat_depth.operator_depth flat f) (drop n is) ≡ greatest_behind n (parts_at flat g is)
  behind-told zero [] = refl
  behind-told (suc n) [] = refl
  behind-told zero (i ∷ is) =
      ap (λ m. max m (greatest (flat_depth.operator_depth flat f) is)) (operator-told i)
      ∙ ap (max (operator_depth (places_in (g i)) (depth_in (g i)))) (behind-told zero is)
  behind-told (suc n) (i ∷ is) = behind-told n is

  roots-told : (rs : List Replacement) → greatest f (map (λ r. r.root) rs) ≡ greatest_replaced (replacements_at flat g rs)
  roots-told [] = refl
  roots-told (r ∷ rs) = ap (λ n. max n (greatest f (map (λ r. r.root) rs))) (tell r.root) ∙ ap (max (depth_in (g r.root))) (roots-told rs)

  pub replaced-told : (o : Option Instance) → flat_depth.replaced_depth f o ≡ replaced_in (instance_at flat g o)
  replaced-told None = refl
  replaced-told (Some x) = roots-told x.replacements

  path-told : (path : List ℕ) → flat_depth.replaced_on flat f path ≡ replaced_on (path_at flat g path)
  path-told [] = refl
  path-told (j ∷ path) =
      ap (λ n. max n (flat_depth.replaced_on flat f path)) (replaced-told (slice_get flat.instances j))
      ∙ ap (max (replaced_in (instance_at flat g (slice_get flat.instances j)))) (path-told path)

  pub parameters-told : (o : Option Instance) → flat_depth.parameters_of o ≡ parameters_of (instance_at flat g o)
  parameters-told None = refl
  parameters-told (Some x) = refl

  arguments-told : (path : List ℕ) → flat_depth.parameters_on flat f path ≡ parameters_on (path_at flat g path)
  arguments-told [] = refl
  arguments-told (j ∷ path) =
      ap (λ n. n + flat_depth.parameters_on flat f path) (parameters-told (slice_get flat.instances j))
      ∙ ap (λ n. parameters_of (instance_at flat g (slice_get flat.instances j)) + n) (arguments-told path)

  pub definition-told : (o : Option Definition) → flat_depth.depth_of f o ≡ depth_of (definition_at flat g o)
  definition-told None = refl
  definition-told (Some x) = ap suc (tell x.root)

  inner-told : (o : Option Definition) → flat_depth.inner_depth f o ≡ inner_depth (definition_at flat g o)
  inner-told None = refl
  inner-told (Some x) = tell x.root

  use-told : (path : List ℕ) (d : ℕ) (is : List ℕ) → max (greatest f is) (flat_depth.use_depth flat f path d is)
      ≡ max (greatest_in (parts_at flat g is)) (depth_of (definition_at flat g (slice_get flat.definitions d))
      + max (replaced_on (path_at flat g path)) (max (greatest_first (parameters_on (path_at flat g path)) (parts_at flat g is)) (greatest_behind (parameters_on (path_at flat g path)) (parts_at flat g is))))
  use-told path d is =
      let all = greatest-told is in
      let definition = definition-told (slice_get flat.definitions d) in
      let replaced = path-told path in
      let first = ap (λ n. greatest f (take n is)) (arguments-told path) ∙ first-told (parameters_on (path_at flat g path)) is in
      let behind = ap (λ n. greatest (flat_depth.operator_depth flat f) (drop n is)) (arguments-told path) ∙ behind-told (parameters_on (path_at flat g path)) is in
      λ i. max (all i) (definition i + max (replaced i) (max (first i) (behind i)))

  form-told : (form : Form) (places : Option ℕ) (is : List ℕ) → form_depth flat f form is ≡ depth_in (form_at flat g form places is)
  form-told (Form.Leaf kind) places is = greatest-told is
  form-told (Form.Parameter place) places is = greatest-told is
  form-told (Form.Call place) places is = greatest-told is
  form-told (Form.Operation rule) places is = greatest-told is
  form-told Form.Bounded places is = greatest-told is
  form-told Form.Old places is = refl
  form-told Form.Let places is = greatest-told is
  form-told (Form.Use path d) places is = use-told path d is
  form-told (Form.Name path d) places is = use-told path d is
  form-told (Form.Symbol rule) places is = greatest-told is
  form-told (Form.Lambda d) places is = inner-told (slice_get flat.definitions d)

  node-told : (o : Option Node) → node_depth flat f o ≡ depth_in (node_at flat g o)
  node-told None = refl
  node-told (Some node) = form-told node.form node.places node.parts

-- one step of depths
abbrev depth_step : FlatModule → ℕ → (ℕ → ℕ) → ℕ
depth_step flat i f = node_depth flat f (slice_get flat.nodes i)

within-told : (flat : FlatModule) (n i : ℕ) → within 0 (depth_step flat) n i ≡ depth_in (within Missing (tree_step flat) n i)
unfolding within
within-told flat zero i = refl
within-told flat (suc n) i =
    node-told flat (before 0 (within 0 (depth_step flat) n) i) (before Missing (within Missing (tree_step flat) n) i)
    (λ j. by j (nat_lt j i) (within-told flat n j)) (before-known flat n i) (slice_get flat.nodes i)
  where
    by : (j : ℕ) (b : Bool) → within 0 (depth_step flat) n j ≡ depth_in (within Missing (tree_step flat) n j)
        → cond b (within 0 (depth_step flat) n j) 0 ≡ depth_in (cond b (within Missing (tree_step flat) n j) Missing)
    by j true told = told
    by j false told = refl

pub depths-told : (flat : FlatModule) (i : ℕ) → depth flat i ≡ depth_in (resolved flat i)
depths-told flat i = within-told flat (suc i) i
