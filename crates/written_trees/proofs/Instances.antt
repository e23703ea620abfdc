-- The trees of instances, by those of their right sides.
use Rattle.std.proofs.Common.{◌≡◌, ℕ, zero, suc, Bool, true, false, List, [], ◌∷◌, ◌++◌, Option, Some, None, refl, sym, ap, ◌∙◌, map, drop}
use Rattle.std.specs.Prelude.{if◌then◌else◌, option_map, slice_get}
use Rattle.tla_symbols.specs.declared.lexeme.Lexeme.{Lexeme}
use Rattle.tla_tree.specs.Syntax.{Trees, Node as TreeNode, Nil as NoTrees, Cons as ConsTree}
use Rattle.tla_model.specs.Tables.{Named, same_named}
use Rattle.tla_model.specs.Entities.{Meaning, Text}
use Rattle.module_model.specs.Exports.{Exports}
use Rattle.kind_text.specs.FlatModule.{FlatModule, Form as NodeForm, IsOrdered, Node as FlatNode, Replacement}
use Rattle.tree_kinds.specs.Standing.{operator_places}
use Rattle.tree_kinds.specs.Expanding.{greatest_level}
use Rattle.flattened_trees.specs.Flattened as flattened
use Rattle.flattened_trees.specs.Flattened.{AreReplacing, AreStaying, HasNode, IsInstance, Right as FlatRight, asks_of}
use Rattle.flattened_trees.specs.Leads as flat_leads
use Rattle.flattened_trees.specs.NodeForms as nodes
use Rattle.flattened_trees.specs.Questions.{Question}
use Rattle.resolved_trees.specs.Resolved.{Nil, Replace, Replaced, Replacements, instance_at, replacements_at, resolved}
use Rattle.resolved_trees.proofs.Kept.{tree-step}
use Rattle.written_trees.specs.Leading.{face_in, leads_in, setting_in}
use Rattle.written_trees.specs.Written.{Right, instance_of, lead_of, named, replacing, right_for, right_of, staying}
use Rattle.written_trees.proofs.Nodes.{made, meant-told, trees}

module _ (flat : FlatModule) (ordered : IsOrdered flat) where
  -- a node that is there has its tree
  pub node-told : (i : ℕ) (node : FlatNode) → HasNode flat i node → resolved flat i ≡ made flat node
  node-told i node has = tree-step flat i node ordered has

  -- a right side, by its tree
  abbrev pub right_in : FlatRight → Right
  right_in right = record { name = right.name; tree = resolved flat right.node; at = right.at }

  abbrev pub rights_in : List FlatRight → List Right
  rights_in rights = map right_in rights

  pub for-told : (rights : List FlatRight) (name : Named) → right_for (rights_in rights) name ≡ option_map right_in (flattened.right_for rights name)
  for-told [] name = refl
  for-told (right ∷ rest) name = by (same_named name right.name) (for-told rest name)
    where
      by : (b : Bool) → right_for (rights_in rest) name ≡ option_map right_in (flattened.right_for rest name)
          → (if b then Some (right_in right) else right_for (rights_in rest) name) ≡ option_map right_in (if b then Some right else flattened.right_for rest name)
      by true more = refl
      by false more = more

  pub of-told : (name : Named) (right : Trees) (is : List ℕ) → rights_in (flattened.right_of name right is) ≡ right_of name right (trees flat is)
  of-told name NoTrees is = refl
  of-told name (ConsTree (TreeNode form at parts) others) [] = refl
  of-told name (ConsTree (TreeNode form at parts) others) (i ∷ is) = refl

  pub staying-told : (place count : ℕ) (kept made : List Replacement) → AreStaying flat place count kept → replacements_at flat (resolved flat) (kept ++ made) ≡ staying place count (replacements_at flat (resolved flat) made)
  staying-told place zero [] made are = refl
  staying-told place zero (r ∷ kept) made are = absurd are
  staying-told place (suc count) [] made are = absurd are
  staying-told place (suc count) (r ∷ kept) made (has, free, are) =
      let tree = node-told r.root (nodes.plain_node (NodeForm.Parameter place) []) has in
      let rest = staying-told (suc place) count kept made are in
      λ i. Replace (tree i) (free i) (rest i)

  module _ (leads : flat_leads.Leads) (frame : List Meaning) (constant : Bool) (rights : List FlatRight) (l : Lexeme) where
    -- what stands for parameters, by whether something is written for the first
    abbrev replaced_by : Named × Meaning → Exports → List Meaning → Option Right → Replacements
    replaced_by parameter parameters symbols found = elim found [
      | Some right ↦ Replace right.tree (Some (greatest_level constant parameter.1)) (replacing (leads_in flat leads) constant (rights_in rights) parameters symbols)
      | None ↦ Replace (named (operator_places (Some parameter.1)) (lead_of (leads_in flat leads) (slice_get symbols 0) []) Nil) (Some (greatest_level constant parameter.1))
          (replacing (leads_in flat leads) constant (rights_in rights) parameters (drop 1 symbols))
    ]

    -- what stands for the first parameter, and what for the others
    abbrev IsReplacedBy : Named × Meaning → Exports → List Meaning → Replacement → List Replacement → List Question → List Question → Option FlatRight → Type 0
    IsReplacedBy parameter parameters symbols r others asked rest found = elim found [
      | Some right ↦ (r.root ≡ right.node) × (asked ≡ asks_of flat leads frame constant rights l right.at r parameter ∷ rest) × AreReplacing flat leads frame constant rights l parameters symbols others rest
      | None ↦ HasNode flat r.root (nodes.name_node (operator_places (Some parameter.1)) (nodes.lead_of leads (slice_get symbols 0) []) [])
          × (asked ≡ asks_of flat leads frame constant rights l l.span r parameter ∷ rest) × AreReplacing flat leads frame constant rights l parameters (drop 1 symbols) others rest
    ]

    replacing-told : (parameters : Exports) (symbols : List Meaning) (others : List Replacement) (asked : List Question) → AreReplacing flat leads frame constant rights l parameters symbols others asked
        → replacements_at flat (resolved flat) others ≡ replacing (leads_in flat leads) constant (rights_in rights) parameters symbols
    replacing-told [] symbols others asked (none, asks) = ap (replacements_at flat (resolved flat)) none
    replacing-told (parameter ∷ parameters) symbols [] asked are = absurd are
    replacing-told (parameter ∷ parameters) symbols (r ∷ others) asked (rest, most, are) =
        by (flattened.right_for rights parameter.0) refl are (λ symbols rest are. replacing-told parameters symbols others rest are)
      where
        by : (found : Option FlatRight) → flattened.right_for rights parameter.0 ≡ found → IsReplacedBy parameter parameters symbols r others asked rest found
            → ((symbols : List Meaning) (more : List Question) → AreReplacing flat leads frame constant rights l parameters symbols others more
            → replacements_at flat (resolved flat) others ≡ replacing (leads_in flat leads) constant (rights_in rights) parameters symbols)
            → Replace (resolved flat r.root) r.most (replacements_at flat (resolved flat) others) ≡ replaced_by parameter parameters symbols (right_for (rights_in rights) parameter.0)
        by (Some right) e (root, asks, are) again =
            let further = again symbols rest are in
            (λ i. Replace (resolved flat (root i)) (most i) (further i))
            ∙ sym (ap (replaced_by parameter parameters symbols) (for-told rights parameter.0 ∙ ap (option_map right_in) e))
        by None e (has, asks, are) again =
            let tree = node-told r.root _ has ∙ meant-told flat (operator_places (Some parameter.1)) leads (slice_get symbols 0) [] [] in
            let further = again (drop 1 symbols) rest are in
            (λ i. Replace (tree i) (most i) (further i))
            ∙ sym (ap (replaced_by parameter parameters symbols) (for-told rights parameter.0 ∙ ap (option_map right_in) e))

  pub instance-told : (text : Text) (means : ℕ → Option Meaning) (implied : ℕ → List Meaning) (faces : List ℕ → flat_leads.FlatFace) (setting : flat_leads.Setting) (outer count : ℕ) (guards : Bool) (l : Lexeme) (rights : List FlatRight) (j : ℕ) (asked : List Question)
      → IsInstance text means implied faces flat setting outer count guards l rights j asked
      → instance_at flat (resolved flat) (slice_get flat.instances j) ≡ instance_of text means implied (λ name. face_in flat (faces name)) (setting_in flat setting) outer count guards l (rights_in rights)
  instance-told text means implied faces setting outer count guards l rights j asked (kept, made, at, stay, replace) =
      let face = flattened.face_of text means implied faces flat l in
      ap (instance_at flat (resolved flat)) at
      ∙ ap (λ z. Replaced outer count guards z)
      (staying-told 0 face.outer kept made stay
      ∙ ap (staying 0 face.outer) (replacing-told setting.leads setting.frame face.is_constant rights l face.parameters (implied l.span.start) made asked replace))
