-- The kinds of nodes that are trees are the kinds of these trees.
use Rattle.std.proofs.Common.{◌≡◌, ℕ, zero, suc, Bool, true, false, List, [], ◌∷◌, ◌++◌, Option, Some, None, refl, sym, ap, ◌∙◌, subst}
use Rattle.std.specs.Prelude.{◌&&◌, is_some, replicate, slice_get, option_and_then, option_map}
use Rattle.tla_symbols.specs.declared.level.Kind.{Kind}
use Rattle.tla_symbols.specs.declared.level.Kind.TheVariants.{Const}
use Rattle.tla_tree.specs.declared.form.Form.TheVariants as Form
use Rattle.tla_tree.specs.Syntax.{Tree, Node}
use Rattle.tla_model.specs.declared.names.Binding.TheVariants as as_binding
use Rattle.tla_model.specs.Entities.{Meaning, Text, declared_in}
use Rattle.module_model.specs.Exports.{Known}
use Rattle.kind_text.specs.ExpandedKind.{Operands, all_kinds, kind, kinds}
use Rattle.kind_text.specs.FlatModule.{FlatModule, IsOrdered, places_of}
use Rattle.kind_text.specs.Expansion.{items as items_at, text as text_at}
use Rattle.kind_text.specs.Substitution.{Item, constants, judged, leaves, texts}
use Rattle.tree_kinds.specs.Standing.{Outside}
use Rattle.tree_kinds.specs.Expanding.{Around, and_operands, expand, places_at}
use Rattle.tree_kinds.specs.TreeLevels.{kind_at}
use Rattle.flat_trees.specs.Stands.{Matches, count}
use Rattle.flat_trees.specs.Names.{order_by, places_by}
use Rattle.flat_trees.specs.Layouts.{Layout}
use Rattle.flat_trees.proofs.Reaching.{append-nil}
use Rattle.flattened_trees.specs.Leads.{FlatFace, Setting}
use Rattle.flattened_trees.specs.Questions.{Question}
use Rattle.flattened_trees.specs.NodeForms.{rule_order, last_first}
use Rattle.flattened_trees.specs.Flattened.{IsFlattened}
use Rattle.flattened_trees.specs.Readable.{IsReadable}
use Rattle.flattened_trees.specs.Answers.{have_kinds, items_of, kind_in}
use Rattle.flattened_meanings.specs.Faces.{NamesModules}
use Rattle.flattened_meanings.proofs.Fresh.{Fresh}
use Rattle.flattened_meanings.proofs.Rounds.{Knows}
use Rattle.flattened_meanings.proofs.Operands.{nodes-nil}
use Rattle.flattened_meanings.proofs.Bodies.{nodes-apart}
use Rattle.flattened_meanings.proofs.Places.{node-has-places, places-again}
use Rattle.flattened_meanings.proofs.Meant.{each-kept, tree-kept}
use Rattle.flattened_levels.specs.Asked.{AreExpressions, IsAskedRound}

-- ---- what is judged

count-leaves : (n : ℕ) → count (leaves (replicate n (Some Const))) ≡ n
count-leaves zero = refl
count-leaves (suc n) = ap suc (count-leaves n)

-- what matches an item by its places is judged as that
pub judged-matches : (o : Option ℕ) (a b : Item) → places_by (order_by o) ≡ o → Matches (order_by o) a b → judged o a ≡ judged o b
judged-matches None a b e same = same
judged-matches (Some zero) a b e same = cc
judged-matches (Some (suc n)) a b e same = same (constants (suc n)) (count-leaves (suc n))

-- ---- kinds in a list

pub kinds-append : (ts us : Operands) → kinds (and_operands ts us) ≡ kinds ts ++ kinds us
kinds-append Operands.Nil us = refl
kinds-append (Operands.Cons t ts) us = ap (λ ks. kind t ∷ ks) (kinds-append ts us)

some-both : (k : Option Kind) (ks : Option (List Kind)) → is_some k && is_some ks ≡ is_some (option_and_then (λ (j : Kind). option_map (λ (js : List Kind). j ∷ js) ks) k)
some-both None ks = refl
some-both (Some k) None = refl
some-both (Some k) (Some ks) = refl

and-swapped : (a b : Bool) → (a && b) ≡ (b && (a && true))
and-swapped true true = refl
and-swapped true false = refl
and-swapped false true = refl
and-swapped false false = refl

and-again : (a b c : Bool) → (a && (b && c)) ≡ ((a && b) && c)
and-again true b c = refl
and-again false b c = refl

module _ (flat : FlatModule) (frame : List Meaning) where
  -- the kinds of nodes over a frame
  abbrev pub kinds-in : List ℕ → List (Option Kind)
  kinds-in [] = []
  kinds-in (i ∷ is) = kind_in flat frame i ∷ kinds-in is

  pub kinds-in-append : (is js : List ℕ) → kinds-in (is ++ js) ≡ kinds-in is ++ kinds-in js
  kinds-in-append [] js = refl
  kinds-in-append (i ∷ is) js = ap (λ ks. kind_in flat frame i ∷ ks) (kinds-in-append is js)

  pub have-all : (is : List ℕ) → have_kinds flat frame is ≡ is_some (all_kinds (kinds-in is))
  have-all [] = refl
  have-all (i ∷ is) = ap (λ b. is_some (kind_in flat frame i) && b) (have-all is) ∙ some-both (kind_in flat frame i) (all_kinds (kinds-in is))

  have-append : (is js : List ℕ) → have_kinds flat frame (is ++ js) ≡ (have_kinds flat frame is && have_kinds flat frame js)
  have-append [] js = refl
  have-append (i ∷ is) js = ap (λ b. is_some (kind_in flat frame i) && b) (have-append is js) ∙ and-again (is_some (kind_in flat frame i)) (have_kinds flat frame is) (have_kinds flat frame js)

  -- the order of nodes does not matter
  pub have-last : (before is : List ℕ) → have_kinds flat frame (last_first before is) ≡ have_kinds flat frame (before ++ is)
  have-last before [] = ap (have_kinds flat frame) (sym (nodes-nil before))
  have-last before (i ∷ []) = and-swapped (is_some (kind_in flat frame i)) (have_kinds flat frame before) ∙ sym (have-append before (i ∷ []))
  have-last before (i ∷ (j ∷ is)) = have-last (before ++ (i ∷ [])) (j ∷ is) ∙ ap (have_kinds flat frame) (nodes-apart before (i ∷ []) (j ∷ is))

  pub have-ordered : (form : Form.the_data) (is : List ℕ) → have_kinds flat frame (rule_order form is) ≡ have_kinds flat frame is
  have-ordered (Form.Fairness l) [] = refl
  have-ordered (Form.Fairness l) (i ∷ []) = refl
  have-ordered (Form.Fairness l) (i ∷ (j ∷ [])) = two (is_some (kind_in flat frame i)) (is_some (kind_in flat frame j))
    where
      two : (a b : Bool) → (b && (a && true)) ≡ (a && (b && true))
      two true true = refl
      two true false = refl
      two false true = refl
      two false false = refl
  have-ordered (Form.Fairness l) (i ∷ (j ∷ (k ∷ is))) = refl
  have-ordered form is = refl

  -- nodes that are no operators have the kinds of their texts
  pub kinds-plain : (is : List ℕ) → AreExpressions flat is → kinds-in is ≡ kinds (texts (items_at (text_at flat) is (items_of frame)))
  kinds-plain [] plain = refl
  kinds-plain (i ∷ is) plain =
      ap (λ o. kind (judged o (text_at flat i (items_of frame))) ∷ kinds-in is) plain.0
      ∙ ap (λ ks. kind (text_at flat i (items_of frame)).text ∷ ks) (kinds-plain is plain.1)

-- ---- trees

module _ (flat : FlatModule) (text : Text) (known : Known) (named : List ℕ → Outside) (means : ℕ → Option Meaning) (implied : ℕ → List Meaning) (faces : List ℕ → FlatFace) (nameable : List ℕ → Bool) where
  -- what is known round a tree that is asked of
  pub record Round (layout : Layout) (setting : Setting) (seen : Meaning → Bool) (around : Around) : Type 0 where
    pub knows : Knows flat text known named faces nameable layout setting seen
    pub asked : IsAskedRound flat layout setting around

  module _ (ordered : IsOrdered flat) (layout : Layout) (setting : Setting) (seen : Meaning → Bool) (around : Around) (round : Round layout setting seen around) where
    pub node-places : (x : Tree) (i : ℕ) (asked : List Question) → NamesModules text.source nameable x → IsFlattened text means implied faces flat setting x i asked → IsReadable text known named means implied faces layout.context x → Fresh text seen (declared_in as_binding.Constant x) → places_of (slice_get flat.nodes i) ≡ places_at text known named layout.context x
    node-places (Node form s parts) i asked names made can fresh =
        node-has-places flat text known named means implied faces nameable layout setting seen round.knows (items_of setting.frame) [] around round.asked.frame form s parts i asked
        (each-kept flat text known named means implied faces nameable ordered parts names.1) made can fresh

    pub node-matches : (x : Tree) (i : ℕ) (asked : List Question) → NamesModules text.source nameable x → IsFlattened text means implied faces flat setting x i asked → IsReadable text known named means implied faces layout.context x → Fresh text seen (declared_in as_binding.Constant x) → Matches (order_by (places_at text known named layout.context x)) (text_at flat i (items_of setting.frame)) (expand text known named around x)
    node-matches x i asked names made can fresh =
        subst (λ s. Matches (order_by (places_at text known named layout.context x)) (text_at flat i s) (expand text known named around x)) (append-nil (items_of setting.frame))
        (tree-kept flat text known named means implied faces nameable ordered x names layout setting seen i asked round.knows made can fresh (items_of setting.frame) [] around round.asked.frame)

    -- a node has the kind of its tree
    pub kind-same : (x : Tree) (i : ℕ) (asked : List Question) → NamesModules text.source nameable x → IsFlattened text means implied faces flat setting x i asked → IsReadable text known named means implied faces layout.context x → Fresh text seen (declared_in as_binding.Constant x) → kind_in flat setting.frame i ≡ kind_at text known named around x
    kind-same x i asked names made can fresh =
        ap (λ p. kind (judged p (text_at flat i (items_of setting.frame)))) (node-places x i asked names made can fresh)
        ∙ ap kind (judged-matches (places_at text known named layout.context x) (text_at flat i (items_of setting.frame)) (expand text known named around x) (places-again text known named layout.context x) (node-matches x i asked names made can fresh))
        ∙ ap (λ context. kind (judged (places_at text known named context x) (expand text known named around x))) (sym round.asked.frame.context)
