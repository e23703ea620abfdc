-- A node is made of what has kinds where its tree is, unless it has a kind itself.
use Rattle.std.proofs.Common.{◌≡◌, inl, inr, ℕ, Bool, true, List, [], ◌∷◌, Option, Some, None, refl, sym, ap, ◌∙◌}
use Rattle.std.specs.Prelude.{◌⊎◌, ◌&&◌, is_some, not, slice_get}
use Rattle.tla_symbols.specs.declared.lexeme.Lexeme.{Lexeme}
use Rattle.tla_symbols.specs.declared.level.Kind.{Kind}
use Rattle.tla_symbols.specs.declared.level.Kind.TheVariants.{Const}
use Rattle.tla_symbols.specs.declared.level.Rule.{Rule}
use Rattle.tla_tree.specs.declared.form.Form.TheVariants as Form
use Rattle.tla_tree.specs.Syntax.{Tree, Trees, Node, Nil, Cons}
use Rattle.tla_model.specs.Entities.{Meaning, Text}
use Rattle.module_model.specs.Exports.{Known}
use Rattle.kind_text.specs.ExpandedKind.{all_kinds, kind, kinds}
use Rattle.kind_text.specs.FlatModule.{FlatModule, Form as NodeForm, IsOrdered, Node as FlatNode, places_of}
use Rattle.kind_text.specs.Expansion.{items as items_at, text as text_at}
use Rattle.kind_text.specs.Substitution.{Item, judged, texts}
use Rattle.kind_text.proofs.Unfolding.{text-step}
use Rattle.tree_kinds.specs.Standing.{Outside}
use Rattle.tree_kinds.specs.Expanding.{Around, made_of}
use Rattle.tree_kinds.specs.TreeLevels.{kind_at}
use Rattle.flat_trees.specs.Layouts.{Layout}
use Rattle.flat_trees.proofs.Reaching.{append-nil}
use Rattle.flattened_trees.specs.declared.End.TheVariants as end
use Rattle.flattened_trees.specs.Leads.{FlatFace, Lead, Setting}
use Rattle.flattened_trees.specs.NodeForms.{name_node, operator_node, path_node, place_node, plain_node, ruled_node, use_node, bare_node, constant_node, lead_of, path_places, bare_places}
use Rattle.tree_kinds.specs.TreeDepths.{path_names}
use Rattle.flattened_trees.specs.Answers.{have_kinds, items_of, kind_in, parts_have_kinds}
use Rattle.flattened_levels.proofs.NodeKinds.{Round, have-all, kinds-in, kinds-plain}
use Rattle.flattened_levels.proofs.AtNode.{AreAlike}

-- ---- what nodes are made of

-- a node is made of all of these, or is a leaf
abbrev pub IsOfAll : List ℕ → FlatNode → Type 0
IsOfAll is node = (node.parts ≡ is) ⊎ ((kind : Kind) × (node ≡ plain_node (NodeForm.Leaf kind) []))

place-parts : (place order : ℕ) (is : List ℕ) → (place_node place order is).parts ≡ is
place-parts place order [] = refl
place-parts place order (i ∷ is) = refl

use-parts : (places : Option ℕ) (path : List ℕ) (d : ℕ) (is : List ℕ) → (use_node places path d is).parts ≡ is
use-parts None path d is = refl
use-parts (Some count) path d is = refl

pub name-parts : (places : Option ℕ) (lead : Lead) (is : List ℕ) → IsOfAll is (name_node places lead is)
name-parts places lead is = by_end lead.end
  where
    by_end : (e : end.the_data) → IsOfAll is (elim e [
      | end.Nowhere ↦ constant_node
      | end.Leaf kind ↦ plain_node (NodeForm.Leaf kind) []
      | end.Place place order ↦ place_node place order is
      | end.Definition d ↦ use_node places lead.path d is
    ])
    by_end end.Nowhere = inr (Const, refl)
    by_end (end.Leaf kind) = inr (kind, refl)
    by_end (end.Place place order) = inl (place-parts place order is)
    by_end (end.Definition d) = inl (use-parts places lead.path d is)

pub path-parts : (source : List ℕ) (means : ℕ → Option Meaning) (setting : Setting) (parts : Trees) (is : List ℕ) → IsOfAll is (path_node source means setting parts is)
path-parts source means setting Nil is = inr (Const, refl)
path-parts source means setting (Cons (Node (Form.Segment l) s arguments) rest) is =
    name-parts (path_places source means (Cons (Node (Form.Segment l) s arguments) rest)) (lead_of setting.leads (means l.span.start) (path_names source rest)) is
path-parts source means setting (Cons (Node form s arguments) rest) is = inr (Const, refl)

pub operator-parts : (source : List ℕ) (means : ℕ → Option Meaning) (setting : Setting) (l : Lexeme) (rule : Option Rule) (is : List ℕ) → IsOfAll is (operator_node source means setting l rule is)
operator-parts source means setting l (Some rule) is = inl refl
operator-parts source means setting l None is = name-parts None (lead_of setting.leads (means l.span.start) []) is

pub bare-parts : (source : List ℕ) (means : ℕ → Option Meaning) (setting : Setting) (l : Lexeme) (rule : Option Rule) → IsOfAll [] (bare_node source means setting l rule)
bare-parts source means setting l (Some rule) = inl refl
bare-parts source means setting l None = name-parts (bare_places source means l l.kind) (lead_of setting.leads (means l.span.start) []) []

pub ruled-parts : (rule : Option Rule) (is : List ℕ) → is_some rule ≡ true → (ruled_node rule is).parts ≡ is
ruled-parts None is e = cc
ruled-parts (Some rule) is e = refl

module _ (flat : FlatModule) (frame : List Meaning) (i : ℕ) where
  leaf-kind : IsOrdered flat → (kind : Kind) → slice_get flat.nodes i ≡ Some (plain_node (NodeForm.Leaf kind) []) → kind_in flat frame i ≡ Some kind
  leaf-kind ordered k there =
      ap (λ o. kind (judged (places_of o) (text_at flat i (items_of frame)))) there
      ∙ ap (λ (x : Item). kind x.text) (text-step flat i (plain_node (NodeForm.Leaf k) []) (items_of frame) ordered there)

  module _ (text : Text) (known : Known) (named : List ℕ → Outside) (around : Around) (x : Tree) where
    -- what has a kind is not looked at
    alike-some : is_some (kind_at text known named around x) ≡ true → AreAlike flat text known named frame i around x
    alike-some e =
        ap (λ b. not b && parts_have_kinds flat frame (slice_get flat.nodes i)) e
        ∙ sym (ap (λ b. not b && is_some (all_kinds (kinds (made_of text known named around x)))) e)

    pub alike-by : (node : FlatNode) (is : List ℕ) → slice_get flat.nodes i ≡ Some node → have_kinds flat frame node.parts ≡ have_kinds flat frame is → kinds-in flat frame is ≡ kinds (made_of text known named around x) → AreAlike flat text known named frame i around x
    alike-by node is there same kinds-are =
        ap (λ b. not (is_some (kind_at text known named around x)) && b)
        (ap (parts_have_kinds flat frame) there ∙ same ∙ have-all flat frame is ∙ ap (λ ks. is_some (all_kinds ks)) kinds-are)

    pub alike-leaf : IsOrdered flat → (k : Kind) → slice_get flat.nodes i ≡ Some (plain_node (NodeForm.Leaf k) []) → kind_in flat frame i ≡ kind_at text known named around x → AreAlike flat text known named frame i around x
    alike-leaf ordered k there same = alike-some (ap is_some (sym same ∙ leaf-kind ordered k there))

    pub alike-all : IsOrdered flat → (node : FlatNode) (is : List ℕ) → slice_get flat.nodes i ≡ Some node → IsOfAll is node → kind_in flat frame i ≡ kind_at text known named around x → kinds-in flat frame is ≡ kinds (made_of text known named around x) → AreAlike flat text known named frame i around x
    alike-all ordered node is there (inl all) same kinds-are = alike-by node is there (ap (have_kinds flat frame) all) kinds-are
    alike-all ordered node is there (inr (k, leaf)) same kinds-are = alike-leaf ordered k (there ∙ ap Some leaf) same

module _ (flat : FlatModule) (text : Text) (known : Known) (named : List ℕ → Outside) (means : ℕ → Option Meaning) (implied : ℕ → List Meaning) (faces : List ℕ → FlatFace) (nameable : List ℕ → Bool) where
  -- what `@` repeats has the kinds of its nodes
  pub olds-kinds : (layout : Layout) (setting : Setting) (seen : Meaning → Bool) (around : Around) → Round flat text known named means implied faces nameable layout setting seen around → kinds-in flat setting.frame setting.olds ≡ kinds around.old
  olds-kinds layout setting seen around round =
      kinds-plain flat setting.frame setting.olds round.asked.olds
      ∙ ap (λ js. kinds (texts (items_at (text_at flat) js (items_of setting.frame)))) (sym round.knows.settings.olds)
      ∙ ap (λ s. kinds (texts (items_at (text_at flat) layout.olds s))) (sym (append-nil (items_of setting.frame)))
      ∙ ap kinds (round.asked.frame.old [])
