-- Depths above a bound need not be told apart.
use Rattle.std.proofs.Common.{◌≡◌, ℕ, max, Bool, true, false, cond, List, [], ◌∷◌, Option, Some, None, refl, ap, ◌∙◌, map, take, drop, arith}
use Rattle.std.specs.Prelude.{is_some, slice_get}
use Rattle.std.proofs.lemmas.Bool.Decides.{nat_tests}
use Rattle.kind_text.specs.FlatModule.{Definition, FlatModule, Form, Instance, places_of}
use Rattle.level_text.specs.Depth.{added_depth, depth_of, form_depth, greatest, inner_depth, instance_depth, is_too_deep, operator_depth, parameters_on, replaced_depth, replaced_on, use_depth}
use Rattle.node_depths.specs.Capped.{capped}
use Rattle.node_depths.proofs.Greatest.{parameters-same}

module _ (flat : FlatModule) (f g : ℕ → ℕ) (h : (i : ℕ) → f i ≡ capped (g i)) where
  greatest-capped : (is : List ℕ) → greatest f is ≡ capped (greatest g is)
  greatest-capped [] = omega arith
  greatest-capped (i ∷ is) = let one = h i in let rest = greatest-capped is in omega arith

  operator-capped : (i : ℕ) → operator_depth flat f i ≡ capped (operator_depth flat g i)
  operator-capped i = choice (is_some (places_of (slice_get flat.nodes i)))
    where
      choice : (b : Bool) → cond b (f i) 0 ≡ capped (cond b (g i) 0)
      choice true = h i
      choice false = omega arith

  operators-capped : (is : List ℕ) → greatest (operator_depth flat f) is ≡ capped (greatest (operator_depth flat g) is)
  operators-capped [] = omega arith
  operators-capped (i ∷ is) = let one = operator-capped i in let rest = operators-capped is in omega arith

  replaced-capped : (o : Option Instance) → replaced_depth f o ≡ capped (replaced_depth g o)
  replaced-capped None = omega arith
  replaced-capped (Some j) = greatest-capped (map (λ r. r.root) j.replacements)

  path-capped : (path : List ℕ) → replaced_on flat f path ≡ capped (replaced_on flat g path)
  path-capped [] = omega arith
  path-capped (j ∷ path) = let one = replaced-capped (slice_get flat.instances j) in let rest = path-capped path in omega arith

  added-capped : (path parts : List ℕ) → added_depth flat f path parts ≡ capped (added_depth flat g path parts)
  added-capped path parts =
      let n = parameters-same flat f g path in
      let arguments = ap (λ k. greatest f (take k parts)) n ∙ greatest-capped (take (parameters_on flat g path) parts) in
      let operands = ap (λ k. greatest (operator_depth flat f) (drop k parts)) n ∙ operators-capped (drop (parameters_on flat g path) parts) in
      let replaced = path-capped path in omega arith

  depth-capped : (o : Option Definition) → capped (depth_of f o) ≡ capped (depth_of g o)
  depth-capped None = refl
  depth-capped (Some d) = let one = h d.root in omega arith

  instance-capped : (o : Option Instance) → capped (instance_depth f o) ≡ capped (instance_depth g o)
  instance-capped None = refl
  instance-capped (Some j) = let one = replaced-capped (Some j) in omega arith

  inner-capped : (o : Option Definition) → capped (inner_depth f o) ≡ capped (inner_depth g o)
  inner-capped None = refl
  inner-capped (Some d) = let one = h d.root in omega arith

  use-capped : (path : List ℕ) (d : ℕ) (parts : List ℕ) → capped (max (greatest f parts) (use_depth flat f path d parts)) ≡ capped (max (greatest g parts) (use_depth flat g path d parts))
  use-capped path d parts =
      let own = depth-capped (slice_get flat.definitions d) in let added = added-capped path parts in let all = greatest-capped parts in omega arith

  parts-capped : (parts : List ℕ) → capped (greatest f parts) ≡ capped (greatest g parts)
  parts-capped parts = let all = greatest-capped parts in omega arith

  -- the depth of a form from depths that are kept
  pub form-capped : (form : Form) (parts : List ℕ) → capped (form_depth flat f form parts) ≡ capped (form_depth flat g form parts)
  form-capped (Form.Leaf kind) parts = parts-capped parts
  form-capped (Form.Parameter place) parts = parts-capped parts
  form-capped (Form.Call place) parts = parts-capped parts
  form-capped (Form.Operation rule) parts = parts-capped parts
  form-capped Form.Bounded parts = parts-capped parts
  form-capped Form.Old parts = refl
  form-capped Form.Let parts = parts-capped parts
  form-capped (Form.Use path d) parts = use-capped path d parts
  form-capped (Form.Name path d) parts = use-capped path d parts
  form-capped (Form.Symbol rule) parts = parts-capped parts
  form-capped (Form.Lambda d) parts = inner-capped (slice_get flat.definitions d)

  same-test : (a b : ℕ) → capped a ≡ capped b → is_too_deep a ≡ is_too_deep b
  same-test a b e = grind (arith, nat_tests)

  pub definition-deep : (o : Option Definition) → is_too_deep (depth_of f o) ≡ is_too_deep (depth_of g o)
  definition-deep o = same-test (depth_of f o) (depth_of g o) (depth-capped o)

  pub instance-deep : (o : Option Instance) → is_too_deep (instance_depth f o) ≡ is_too_deep (instance_depth g o)
  instance-deep o = same-test (instance_depth f o) (instance_depth g o) (instance-capped o)

  pub node-deep : (i : ℕ) → is_too_deep (f i) ≡ is_too_deep (g i)
  node-deep i = same-test (f i) (g i) (let one = h i in omega arith)
