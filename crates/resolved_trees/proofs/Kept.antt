-- Further definitions change no tree.
use Rattle.std.proofs.Common.{◌≡◌, ℕ, zero, suc, ◌<◌, List, [], ◌∷◌, Option, Some, refl, sym, ap, ◌∙◌, length, arith}
use Rattle.std.specs.Prelude.{slice_get}
use Rattle.std.specs.List.{AllByRecursion}
use Rattle.list_laws.proofs.Lists.{item-at}
use Rattle.order_rec.specs.Earlier.{before}
use Rattle.order_rec.proofs.Order.{along-step, before-lt}
use Rattle.kind_text.specs.FlatModule.{Extends, FlatModule, Form, IsOrdered, Node, Replacement, UsesDefinition, UsesEarlier, UsesInstance}
use Rattle.resolved_trees.specs.Resolved.{Cons, Missing, Parts, Replace, Replaced, Resolved, Body, Lambda, Name, Node as PlainNode, Through, Use, Plain, definition_at, form_at, instance_at, node_at, parts_at, path_at, replacements_at, resolved}
use Rattle.resolved_trees.specs.Resolved as trees
use Rattle.resolved_trees.proofs.Known.{tree_step}

module _ (flat more : FlatModule) (extends : Extends flat more) (f g : ℕ → Resolved) (i : ℕ) (agree : (j : ℕ) → j < i → f j ≡ g j) where
  parts-agree : (is : List ℕ) → AllByRecursion (λ j. j < i) is → parts_at flat f is ≡ parts_at more g is
  parts-agree [] all = refl
  parts-agree (j ∷ is) all = let first = agree j all.0 in let rest = parts-agree is all.1 in λ k. Cons (first k) (rest k)

  replacements-agree : (rs : List Replacement) → AllByRecursion (λ r. r.root < i) rs → replacements_at flat f rs ≡ replacements_at more g rs
  replacements-agree [] all = refl
  replacements-agree (r ∷ rs) all = let first = agree r.root all.0 in let rest = replacements-agree rs all.1 in λ k. Replace (first k) r.most (rest k)

  instance-agree : (j : ℕ) → UsesInstance flat i j → instance_at flat f (slice_get flat.instances j) ≡ instance_at more g (slice_get more.instances j)
  instance-agree j u =
      ap (instance_at flat f) u.1
      ∙ ap (λ rs. Replaced u.0.outer u.0.parameters u.0.guards rs) (replacements-agree u.0.replacements u.2)
      ∙ sym (ap (instance_at more g) (extends.instances j u.0 u.1))

  path-agree : (path : List ℕ) → AllByRecursion (UsesInstance flat i) path → path_at flat f path ≡ path_at more g path
  path-agree [] all = refl
  path-agree (j ∷ path) all = let first = instance-agree j all.0 in let rest = path-agree path all.1 in λ k. Through (first k) (rest k)

  definition-agree : (d : ℕ) → UsesDefinition flat i d → definition_at flat f (slice_get flat.definitions d) ≡ definition_at more g (slice_get more.definitions d)
  definition-agree d u = ap (definition_at flat f) u.1 ∙ ap (Body u.0.outer) (agree u.0.root u.2) ∙ sym (ap (definition_at more g) (extends.definitions d u.0 u.1))

  plain-agree : (form : Plain) (places : Option ℕ) (is : List ℕ) → AllByRecursion (λ j. j < i) is → trees.Node form places (parts_at flat f is) ≡ trees.Node form places (parts_at more g is)
  plain-agree form places is all = ap (trees.Node form places) (parts-agree is all)

  form-agree : (form : Form) (places : Option ℕ) (is : List ℕ) → AllByRecursion (λ j. j < i) is → UsesEarlier flat i form → form_at flat f form places is ≡ form_at more g form places is
  form-agree (Form.Leaf kind) places is all u = plain-agree (trees.Leaf kind) places is all
  form-agree (Form.Parameter place) places is all u = plain-agree (trees.Parameter place) places is all
  form-agree (Form.Call place) places is all u = plain-agree (trees.Call place) places is all
  form-agree (Form.Operation rule) places is all u = plain-agree (trees.Operation rule) places is all
  form-agree Form.Bounded places is all u = plain-agree trees.Bounded places is all
  form-agree Form.Old places is all u = plain-agree trees.Old places is all
  form-agree Form.Let places is all u = plain-agree trees.Let places is all
  form-agree (Form.Use path d) places is all u =
      let along = path-agree path u.0 in let definition = definition-agree d u.1 in let parts = parts-agree is all in λ k. Use (along k) (definition k) places (parts k)
  form-agree (Form.Name path d) places is all u =
      let along = path-agree path u.0 in let definition = definition-agree d u.1 in let parts = parts-agree is all in λ k. Name (along k) (definition k) places (parts k)
  form-agree (Form.Symbol rule) places is all u = plain-agree (trees.Symbol rule) places is all
  form-agree (Form.Lambda d) places is all u = let definition = definition-agree d u in let parts = parts-agree is all in λ k. Lambda (definition k) places (parts k)

pub tree-step : (flat : FlatModule) (i : ℕ) (node : Node) → IsOrdered flat → slice_get flat.nodes i ≡ Some node → resolved flat i ≡ form_at flat (resolved flat) node.form node.places node.parts
tree-step flat i node ordered e =
    let earlier = ordered i node e in
    along-step Missing (tree_step flat) i
    ∙ ap (node_at flat (before Missing (resolved flat) i)) e
    ∙ form-agree flat flat (record { nodes = λ j x at. at; definitions = λ j x at. at; instances = λ j x at. at }) (before Missing (resolved flat) i) (resolved flat) i (λ j l. before-lt Missing (resolved flat) i j l)
    node.form node.places node.parts earlier.parts earlier.uses

module _ (flat more : FlatModule) (extends : Extends flat more) (ordered : IsOrdered flat) where
  -- n is above the node
  same-below : (n i : ℕ) → i < n → i < length flat.nodes → resolved flat i ≡ resolved more i
  same-below zero i under here = absurd (omega arith)
  same-below (suc n) i under here = by_node (λ j l. same-below n j (omega (arith, l, under)) (omega (arith, l, here))) (item-at flat.nodes i here)
    where
      by_node : ((j : ℕ) → j < i → resolved flat j ≡ resolved more j) → (node : Node) × (slice_get flat.nodes i ≡ Some node) → resolved flat i ≡ resolved more i
      by_node below read =
          let earlier = ordered i read.0 read.1 in
          along-step Missing (tree_step flat) i
          ∙ ap (node_at flat (before Missing (resolved flat) i)) read.1
          ∙ form-agree flat more extends (before Missing (resolved flat) i) (before Missing (resolved more) i) i
          (λ j l. before-lt Missing (resolved flat) i j l ∙ below j l ∙ sym (before-lt Missing (resolved more) i j l))
          read.0.form read.0.places read.0.parts earlier.parts earlier.uses
          ∙ sym (ap (node_at more (before Missing (resolved more) i)) (extends.nodes i read.0 read.1))
          ∙ sym (along-step Missing (tree_step more) i)

  pub tree-kept : (i : ℕ) → i < length flat.nodes → resolved flat i ≡ resolved more i
  tree-kept i here = same-below (suc i) i (omega arith) here
