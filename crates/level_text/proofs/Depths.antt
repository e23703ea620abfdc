-- The depth of a node, from those of the nodes that it is made of.
use Rattle.std.proofs.Common.{◌≡◌, ℕ, zero, suc, ◌+◌, ◌<◌, ◌≤◌, max, cond, List, [], ◌∷◌, Some, refl, sym, ap, ◌∙◌, map, take, drop, length, arith}
use Rattle.std.specs.Prelude.{is_some, slice_get}
use Rattle.std.specs.List.{AllByRecursion}
use Rattle.order_rec.specs.Earlier.{before}
use Rattle.order_rec.proofs.Order.{along-step, before-lt}
use Rattle.list_laws.proofs.Lists.{item-at}
use Rattle.kind_text.specs.FlatModule.{Extends, FlatModule, Form, IsOrdered, Node, Replacement, UsesDefinition, UsesEarlier, UsesInstance, places_of}
use Rattle.kind_text.proofs.Unfolding.{extends-itself}
use Rattle.level_text.specs.Depth.{greatest, inner_depth, depth_of, replaced_depth, parameters_of, operator_depth, parameters_on, replaced_on, added_depth, use_depth, form_depth, node_depth, depth}

all-take : (P : ℕ → Type 0) (n : ℕ) (is : List ℕ) → AllByRecursion P is → AllByRecursion P (take n is)
all-take P zero is all = tt
all-take P (suc n) [] all = tt
all-take P (suc n) (i ∷ is) all = (all.0, all-take P n is all.1)

all-drop : (P : ℕ → Type 0) (n : ℕ) (is : List ℕ) → AllByRecursion P is → AllByRecursion P (drop n is)
all-drop P zero is all = all
all-drop P (suc n) [] all = tt
all-drop P (suc n) (i ∷ is) all = all-drop P n is all.1

-- two readings of depths that agree below a number
module _ (flat more : FlatModule) (extends : Extends flat more) (f g : ℕ → ℕ) (i : ℕ) (agree : (j : ℕ) → j < i → f j ≡ g j) (places : (j : ℕ) → j < i → places_of (slice_get flat.nodes j) ≡ places_of (slice_get more.nodes j)) where
  greatest-agree : (is : List ℕ) → AllByRecursion (λ j. j < i) is → greatest f is ≡ greatest g is
  greatest-agree [] all = refl
  greatest-agree (j ∷ is) all = ap (λ n. max n (greatest f is)) (agree j all.0) ∙ ap (max (g j)) (greatest-agree is all.1)

  roots-agree : (rs : List Replacement) → AllByRecursion (λ r. r.root < i) rs → greatest f (map (λ r. r.root) rs) ≡ greatest g (map (λ r. r.root) rs)
  roots-agree [] all = refl
  roots-agree (r ∷ rs) all = ap (λ n. max n (greatest f (map (λ r. r.root) rs))) (agree r.root all.0) ∙ ap (max (g r.root)) (roots-agree rs all.1)

  operators-agree : (is : List ℕ) → AllByRecursion (λ j. j < i) is → greatest (operator_depth flat f) is ≡ greatest (operator_depth more g) is
  operators-agree [] all = refl
  operators-agree (j ∷ is) all =
      ap (λ o. max (cond (is_some o) (f j) 0) (greatest (operator_depth flat f) is)) (places j all.0)
      ∙ ap (λ n. max (cond (is_some (places_of (slice_get more.nodes j))) n 0) (greatest (operator_depth flat f) is)) (agree j all.0)
      ∙ ap (max (operator_depth more g j)) (operators-agree is all.1)

  inner-agree : (d : ℕ) → UsesDefinition flat i d → inner_depth f (slice_get flat.definitions d) ≡ inner_depth g (slice_get more.definitions d)
  inner-agree d u = ap (inner_depth f) u.1 ∙ agree u.0.root u.2 ∙ sym (ap (inner_depth g) (extends.definitions d u.0 u.1))

  depth_of-agree : (d : ℕ) → UsesDefinition flat i d → depth_of f (slice_get flat.definitions d) ≡ depth_of g (slice_get more.definitions d)
  depth_of-agree d u = ap (depth_of f) u.1 ∙ ap suc (agree u.0.root u.2) ∙ sym (ap (depth_of g) (extends.definitions d u.0 u.1))

  parameters-agree : (path : List ℕ) → AllByRecursion (UsesInstance flat i) path → parameters_on flat f path ≡ parameters_on more g path
  parameters-agree [] all = refl
  parameters-agree (j ∷ path) all =
      ap (λ o. parameters_of o + parameters_on flat f path) (all.0.1 ∙ sym (extends.instances j all.0.0 all.0.1))
      ∙ ap (λ n. parameters_of (slice_get more.instances j) + n) (parameters-agree path all.1)

  replaced-agree : (path : List ℕ) → AllByRecursion (UsesInstance flat i) path → replaced_on flat f path ≡ replaced_on more g path
  replaced-agree [] all = refl
  replaced-agree (j ∷ path) all =
      ap (λ n. max n (replaced_on flat f path))
      (ap (replaced_depth f) all.0.1 ∙ roots-agree all.0.0.replacements all.0.2 ∙ sym (ap (replaced_depth g) (extends.instances j all.0.0 all.0.1)))
      ∙ ap (max (replaced_depth g (slice_get more.instances j))) (replaced-agree path all.1)

  added-agree : (path is : List ℕ) → AllByRecursion (UsesInstance flat i) path → AllByRecursion (λ j. j < i) is → added_depth flat f path is ≡ added_depth more g path is
  added-agree path is all parts =
      ap (λ n. max n (max (greatest f (take (parameters_on flat f path) is)) (greatest (operator_depth flat f) (drop (parameters_on flat f path) is)))) (replaced-agree path all)
      ∙ ap (λ n. max (replaced_on more g path) (max (greatest f (take n is)) (greatest (operator_depth flat f) (drop n is)))) (parameters-agree path all)
      ∙ ap (λ n. max (replaced_on more g path) (max n (greatest (operator_depth flat f) (drop (parameters_on more g path) is))))
      (greatest-agree (take (parameters_on more g path) is) (all-take _ _ is parts))
      ∙ ap (λ n. max (replaced_on more g path) (max (greatest g (take (parameters_on more g path) is)) n))
      (operators-agree (drop (parameters_on more g path) is) (all-drop _ _ is parts))

  use-agree : (path : List ℕ) (d : ℕ) (is : List ℕ) → AllByRecursion (λ j. j < i) is → AllByRecursion (UsesInstance flat i) path × UsesDefinition flat i d → max (greatest f is) (use_depth flat f path d is) ≡ max (greatest g is) (use_depth more g path d is)
  use-agree path d is all u =
      ap (λ n. max n (use_depth flat f path d is)) (greatest-agree is all)
      ∙ ap (λ n. max (greatest g is) (n + added_depth flat f path is)) (depth_of-agree d u.1)
      ∙ ap (λ n. max (greatest g is) (depth_of g (slice_get more.definitions d) + n)) (added-agree path is u.0 all)

  form-agree : (form : Form) (is : List ℕ) → AllByRecursion (λ j. j < i) is → UsesEarlier flat i form → form_depth flat f form is ≡ form_depth more g form is
  form-agree (Form.Leaf kind) is all u = greatest-agree is all
  form-agree (Form.Parameter place) is all u = greatest-agree is all
  form-agree (Form.Call place) is all u = greatest-agree is all
  form-agree (Form.Operation rule) is all u = greatest-agree is all
  form-agree Form.Bounded is all u = greatest-agree is all
  form-agree Form.Old is all u = refl
  form-agree Form.Let is all u = greatest-agree is all
  form-agree (Form.Use path d) is all u = use-agree path d is all u
  form-agree (Form.Name path d) is all u = use-agree path d is all u
  form-agree (Form.Symbol rule) is all u = greatest-agree is all
  form-agree (Form.Lambda d) is all u = inner-agree d u

-- a node's depth, from its form and the depths of what it is made of
pub depth-step : (flat : FlatModule) (i : ℕ) (node : Node) → IsOrdered flat → slice_get flat.nodes i ≡ Some node → depth flat i ≡ form_depth flat (depth flat) node.form node.parts
depth-step flat i node ordered e =
    let earlier = ordered i node e in
    along-step 0 (λ j f. node_depth flat f (slice_get flat.nodes j)) i
    ∙ ap (node_depth flat (before 0 (depth flat) i)) e
    ∙ form-agree flat flat (extends-itself flat) (before 0 (depth flat) i) (depth flat) i (λ j l. before-lt 0 (depth flat) i j l) (λ j l. refl)
    node.form node.parts earlier.parts earlier.uses

module _ (flat more : FlatModule) (extends : Extends flat more) (ordered : IsOrdered flat) where
  -- with more definitions a node's depth is the same; n is above it
  same-below : (n i : ℕ) → i < n → i < length flat.nodes → depth flat i ≡ depth more i
  same-below zero i under here = absurd (omega arith)
  same-below (suc n) i under here = by_node (λ j l. same-below n j (omega (arith, l, under)) (omega (arith, l, here))) (item-at flat.nodes i here)
    where
      by_node : ((j : ℕ) → j < i → depth flat j ≡ depth more j) → (node : Node) × (slice_get flat.nodes i ≡ Some node) → depth flat i ≡ depth more i
      by_node below read =
          let earlier = ordered i read.0 read.1 in
          along-step 0 (λ j f. node_depth flat f (slice_get flat.nodes j)) i
          ∙ ap (node_depth flat (before 0 (depth flat) i)) read.1
          ∙ form-agree flat more extends (before 0 (depth flat) i) (before 0 (depth more) i) i
          (λ j l. before-lt 0 (depth flat) i j l ∙ below j l ∙ sym (before-lt 0 (depth more) i j l))
          (λ j l. places-same j (item-at flat.nodes j (omega (arith, l, here))))
          read.0.form read.0.parts earlier.parts earlier.uses
          ∙ sym (ap (node_depth more (before 0 (depth more) i)) (extends.nodes i read.0 read.1))
          ∙ sym (along-step 0 (λ j f. node_depth more f (slice_get more.nodes j)) i)
        where
          places-same : (j : ℕ) → (node : Node) × (slice_get flat.nodes j ≡ Some node) → places_of (slice_get flat.nodes j) ≡ places_of (slice_get more.nodes j)
          places-same j read = ap places_of read.1 ∙ sym (ap places_of (extends.nodes j read.0 read.1))

  pub depth-kept : (i : ℕ) → i < length flat.nodes → depth flat i ≡ depth more i
  depth-kept i here = same-below (suc i) i (omega arith) here

-- a node is as deep as each definition that it uses
pub depth-use : (flat : FlatModule) (i : ℕ) (node : Node) (path : List ℕ) (d : ℕ) → IsOrdered flat → slice_get flat.nodes i ≡ Some node → node.form ≡ Form.Use path d → depth_of (depth flat) (slice_get flat.definitions d) ≤ depth flat i
depth-use flat i node path d ordered e is =
    let step = depth-step flat i node ordered e ∙ ap (λ form. form_depth flat (depth flat) form node.parts) is in
    omega (arith, step)
