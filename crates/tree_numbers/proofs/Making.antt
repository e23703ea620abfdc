-- What a node is made of, by numbers.
use Rattle.std.proofs.Common.{◌≡◌, ℕ, ◌<◌, ◌≤◌, List, Option, Some, sym, ap, ◌∙◌, subst, map, length, arith}
use Rattle.std.specs.Prelude.{IfSome, slice_get}
use Rattle.std.specs.List.{AllByRecursion}
use Rattle.kind_text.specs.FlatModule.{FlatModule, Form, IsOrdered, Node, Replacement, UsesDefinition, UsesEarlier, UsesInstance}
use Rattle.resolved_trees.specs.Resolved.{resolved}
use Rattle.resolved_trees.proofs.Kept.{tree-step}
use Rattle.list_laws.proofs.Lists.{all-weaker}
use Rattle.tree_numbers.specs.declared.keys.Body.{Body}
use Rattle.tree_numbers.specs.declared.keys.Head.{Head}
use Rattle.tree_numbers.specs.Keys.{body_in, definition_in, head_of, number_in, path_in, pieces_of}
use Rattle.tree_numbers.specs.Numbered.{IsMadeOf, IsNumber, IsSamePath, NumberNodes}
use Rattle.tree_numbers.proofs.Numbering.{body-known, body-same, body-there, form-pieces, parts-known, parts-same, parts-there}

-- what a node uses lies before each further one
module _ (flat : FlatModule) (i n : ℕ) (before : i ≤ n) where
  instance-used : (j : ℕ) → UsesInstance flat i j → UsesInstance flat n j
  instance-used j u = (u.0, u.1, all-weaker (λ (r : Replacement). r.root < i) (λ r. r.root < n) (λ r l. omega (arith, l, before)) u.0.replacements u.2)

  definition-used : (d : ℕ) → UsesDefinition flat i d → UsesDefinition flat n d
  definition-used d u = (u.0, u.1, omega (arith, u.2, before))

  pub path-used : (form : Form) → UsesEarlier flat i form → AllByRecursion (UsesInstance flat n) (path_in form)
  path-used (Form.Use path d) u = all-weaker (UsesInstance flat i) (UsesInstance flat n) instance-used path u.0
  path-used (Form.Name path d) u = all-weaker (UsesInstance flat i) (UsesInstance flat n) instance-used path u.0
  path-used form u = tt

  named-used : (form : Form) → UsesEarlier flat i form → IfSome (definition_in form) (UsesDefinition flat n)
  named-used (Form.Use path d) u = definition-used d u.1
  named-used (Form.Name path d) u = definition-used d u.1
  named-used (Form.Lambda d) u = definition-used d u
  named-used form u = tt

  parts-used : (parts : List ℕ) → AllByRecursion (λ part. part < i) parts → AllByRecursion (λ part. part < n) parts
  parts-used parts all = all-weaker (λ part. part < i) (λ part. part < n) (λ part l. omega (arith, l, before)) parts all

pub key-made : (flat : FlatModule) (numbers : List ℕ) → NumberNodes flat numbers → IsOrdered flat → (i : ℕ) (node : Node) → i < length flat.nodes → slice_get flat.nodes i ≡ Some node
    → (head : Head) (path : List ℕ) (body : Option Body) (parts : List ℕ) → head ≡ head_of node.form → IsSamePath flat (path_in node.form) path → body ≡ body_in flat numbers (definition_in node.form)
    → parts ≡ map (number_in numbers) node.parts → IsMadeOf flat head path body node.places parts i
key-made flat numbers right ordered i node here at head path body parts is_head same is_body is_parts =
    let earlier = ordered i node at in
    let within : i ≤ length flat.nodes = omega (arith, here) in
    let named = named-used flat i (length flat.nodes) within node.form earlier.uses in
    let all = parts-used flat i (length flat.nodes) within node.parts earlier.parts in
    let along = same.same in
    let definition = body-same flat numbers right (definition_in node.form) named in
    let places = node.places in
    let of_parts = parts-same flat numbers right node.parts all in
    let made : IsMadeOf flat (head_of node.form) path (body_in flat numbers (definition_in node.form)) node.places (map (number_in numbers) node.parts) i = record {
      here = here;
      along = same.there;
      root = body-there flat numbers right (definition_in node.form) named;
      made = parts-there flat numbers right node.parts all;
      pieces = ap pieces_of (tree-step flat i node ordered at) ∙ form-pieces flat (resolved flat) node.form node.places node.parts
          ∙ (λ k. Some (head_of node.form, along k, definition k, places, of_parts k));
    } in
    let a = sym is_head in
    let b = sym is_body in
    let c = sym is_parts in
    subst (λ (t : Head × Option Body × List ℕ). IsMadeOf flat t.0 path t.1 places t.2 i) (λ k. (a k, b k, c k)) made

-- ---- by numbers, where all nodes before it have one

module _ (flat : FlatModule) (numbers : List ℕ) (ordered : IsOrdered flat) (i : ℕ) (node : Node) (before : i ≤ length numbers) (at : slice_get flat.nodes i ≡ Some node) where
  pub path-before : AllByRecursion (UsesInstance flat (length numbers)) (path_in node.form)
  path-before = path-used flat i (length numbers) before node.form (ordered i node at).uses

  pub body-numbered : (body : Option Body) → body ≡ body_in flat numbers (definition_in node.form) → IfSome body (λ x. IsNumber numbers x.root)
  body-numbered body is = subst (λ o. IfSome o (λ x. IsNumber numbers x.root)) (sym is) (body-known numbers flat (definition_in node.form) (named-used flat i (length numbers) before node.form (ordered i node at).uses))

  pub parts-numbered : (parts : List ℕ) → parts ≡ map (number_in numbers) node.parts → AllByRecursion (IsNumber numbers) parts
  parts-numbered parts is = subst (AllByRecursion (IsNumber numbers)) (sym is) (parts-known numbers node.parts (parts-used flat i (length numbers) before node.parts (ordered i node at).parts))
