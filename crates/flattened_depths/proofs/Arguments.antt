-- Nodes are arguments, and the indices and right sides of updates.
use Rattle.std.proofs.Common.{◌≡◌, ℕ, suc, Bool, true, false, List, [], ◌∷◌, ◌++◌, Option, None, length, refl, sym, ap, ◌∙◌, subst, append_assoc}
use Rattle.std.specs.Prelude.{not}
use Rattle.std.proofs.Math.Nat.{max-zero}
use Rattle.tla_symbols.specs.declared.lexeme.Lexeme.{Lexeme}
use Rattle.tla_symbols.specs.declared.lexeme.Span.{Span}
use Rattle.tla_tree.specs.declared.form.Form.TheVariants as Form
use Rattle.tla_tree.specs.Syntax.{Trees, Node, Nil, Cons}
use Rattle.tla_model.specs.Tables.{Named}
use Rattle.tla_model.specs.Entities.{Meaning, Nothing, Text, defines, within}
use Rattle.tla_model.specs.Contexts.{Context}
use Rattle.tla_model.specs.Scopes.{has_set}
use Rattle.module_model.specs.Exports.{Known}
use Rattle.kind_text.specs.FlatModule.{FlatModule}
use Rattle.level_text.specs.Depth.{depth as depth_at}
use Rattle.tree_kinds.specs.Standing.{Outside}
use Rattle.tree_kinds.specs.Expanding.{Part, Outer, Helper, Whole, part_of, places_at, stands_outside}
use Rattle.tree_kinds.specs.TreeDepths.{Depths, deep_names, deep_parts}
use Rattle.flat_trees.specs.Stands.{Stand}
use Rattle.flat_depths.specs.Parts as parts_of
use Rattle.flat_depths.proofs.Joining.{no-set}
use Rattle.flattened_trees.specs.Leads.{FlatFace, Setting, repeating}
use Rattle.flattened_trees.specs.Questions.{Question}
use Rattle.flattened_trees.specs.Flattened.{AreOperands, AreUpdates, IsFlattened, all_parts, inside_parts}
use Rattle.flattened_trees.specs.Readable.{AreReadable, AreUpdatesWritten, EndsWhole, IsReadable}
use Rattle.flattened_depths.specs.Arranged.{AreArranged, BindsNothing, IsArranged}
use Rattle.flattened_depths.specs.Rounds.{LeadsBehind}
use Rattle.flattened_trees.specs.Answers.{deep_answers}
use Rattle.flattened_depths.proofs.Counting.{New, inner_names, whole-plain}
use Rattle.flattened_depths.proofs.Facts.{Everywhere, PartsMatch, TreeGood, asked-joins, beneath}
use Rattle.flattened_depths.proofs.Naming.{ArgumentsGood, SegmentsGood}
use Rattle.flattened_depths.proofs.Operands.{OperandsGood, PartMatches, first-new, helper-part, helps-out, inside-matches, inside-set, none-match, operands-good, part-good, part_names, parts-join, rest-new, stands-outside, whole-inside}
use Rattle.flattened_depths.proofs.Rounds.{Round, Usable, repeating-round}

-- ---- lists that are put together

in-front : {A : Type 0} (both values first others own after : List A) → both ≡ first ++ others → values ≡ own ++ after → own ≡ [] → both ++ values ≡ first ++ (others ++ after)
in-front both values first others own after e f none = ap (λ xs. xs ++ values) e ∙ ap (λ xs. (first ++ others) ++ xs) (f ∙ ap (λ xs. xs ++ after) none) ∙ append_assoc first others after

none-either : {A : Type 0} (both values first others own after : List A) → both ≡ first ++ others → values ≡ own ++ after → first ≡ [] → own ≡ [] → both ++ values ≡ own ++ (others ++ after)
none-either both values first others own after e f none empty = ap (λ xs. xs ++ values) (e ∙ ap (λ xs. xs ++ others) none) ∙ ap (λ xs. others ++ xs) (f ∙ ap (λ xs. xs ++ after) empty) ∙ ap (λ xs. xs ++ (others ++ after)) (sym empty)

alone : {A : Type 0} (both values first others own after : List A) → both ≡ first ++ others → values ≡ own ++ after → first ≡ [] → others ≡ [] → after ≡ [] → both ++ values ≡ own ++ []
alone both values first others own after e f none empty last = ap (λ xs. xs ++ values) (e ∙ ap (λ xs. xs ++ others) none ∙ empty) ∙ f ∙ ap (λ xs. own ++ xs) last

module _ (flat : FlatModule) (text : Text) (known : Known) (named : List ℕ → Outside) (means : ℕ → Option Meaning) (implied : ℕ → List Meaning) (faces : List ℕ → FlatFace) (inside : List ℕ → Named → Stand) where
  -- what is said of a part that is an expression
  pub arranged-whole : (unbound : Bool) (form : Form.the_data) (s : Span) (parts rest : Trees) → part_of form ≡ Whole → AreArranged (LeadsBehind flat text known named faces inside) unbound (Cons (Node form s parts) rest) → IsArranged (LeadsBehind flat text known named faces inside) (Node form s parts)
  arranged-whole unbound form s parts rest whole arranged =
      subst (λ (p : Part). elim p as (λ _. Type 0) [
        | Outer ↦ (elim (has_set form) [ true ↦ Unit {0} | false ↦ (unbound ≡ true) × BindsNothing form parts ]) × AreArranged (LeadsBehind flat text known named faces inside) true parts
        | Helper ↦ BindsNothing form parts × AreArranged (LeadsBehind flat text known named faces inside) true parts
        | Whole ↦ IsArranged (LeadsBehind flat text known named faces inside) (Node form s parts)
      ]) whole arranged.0

  -- what is said of a part that is a helper form
  pub arranged-helper : (unbound : Bool) (form : Form.the_data) (s : Span) (parts rest : Trees) → part_of form ≡ Helper → AreArranged (LeadsBehind flat text known named faces inside) unbound (Cons (Node form s parts) rest) → BindsNothing form parts × AreArranged (LeadsBehind flat text known named faces inside) true parts
  arranged-helper unbound form s parts rest helper arranged =
      subst (λ (p : Part). elim p as (λ _. Type 0) [
        | Outer ↦ (elim (has_set form) [ true ↦ Unit {0} | false ↦ (unbound ≡ true) × BindsNothing form parts ]) × AreArranged (LeadsBehind flat text known named faces inside) true parts
        | Helper ↦ BindsNothing form parts × AreArranged (LeadsBehind flat text known named faces inside) true parts
        | Whole ↦ IsArranged (LeadsBehind flat text known named faces inside) (Node form s parts)
      ]) helper arranged.0

  pub readable-helper : (outside context : Context) (form : Form.the_data) (s : Span) (parts rest : Trees) → part_of form ≡ Helper → AreReadable text known named means implied faces outside context (Cons (Node form s parts) rest) → AreReadable text known named means implied faces context context parts
  readable-helper outside context form s parts rest helper readable =
      subst (λ (p : Part). elim p as (λ _. Type 0) [
        | Outer ↦ AreReadable text known named means implied faces outside outside parts
        | Helper ↦ AreReadable text known named means implied faces context context parts
        | Whole ↦ (places_at text known named context (Node form s parts) ≡ None) × IsReadable text known named means implied faces context (Node form s parts)
      ]) helper readable.0

  pub whole-new : (seen : List Meaning) (form : Form.the_data) (s : Span) (parts rest : Trees) → part_of form ≡ Whole → New text seen (inner_names text (Cons (Node form s parts) rest)) → New text seen (within (Node form s parts))
  whole-new seen form s parts rest whole new = subst (λ p. New text seen (part_names flat text known named means implied faces inside p form s parts)) whole (first-new flat text known named means implied faces inside seen form s parts rest new)

  pub helper-new : (seen : List Meaning) (form : Form.the_data) (s : Span) (parts rest : Trees) → part_of form ≡ Helper → New text seen (inner_names text (Cons (Node form s parts) rest)) → New text seen (inner_names text parts)
  helper-new seen form s parts rest helper new = subst (λ p. New text seen (part_names flat text known named means implied faces inside p form s parts)) helper (first-new flat text known named means implied faces inside seen form s parts rest new)

  module _ (seen : List Meaning) (stands : Meaning → Stand) (setting : Setting) (depths : Depths) (round : Round text flat known seen stands setting depths) (context : Context) (here : Usable text flat known seen stands context) where
    -- ---- arguments

    pub flattened-whole : (form : Form.the_data) (s : Span) (parts : Trees) (first : List ℕ) (a : List Question) → part_of form ≡ Whole
        → (elim (part_of form) as (λ _. Type 0) [
          | Outer ↦ AreOperands text means implied faces flat all_parts setting parts first a
          | Helper ↦ AreOperands text means implied faces flat all_parts setting parts first a
          | Whole ↦ (i : ℕ) × (first ≡ i ∷ []) × IsFlattened text means implied faces flat setting (Node form s parts) i a
        ])
        → (i : ℕ) × (first ≡ i ∷ []) × IsFlattened text means implied faces flat setting (Node form s parts) i a
    flattened-whole form s parts first a whole flattened =
        subst (λ (p : Part). elim p as (λ _. Type 0) [
          | Outer ↦ AreOperands text means implied faces flat all_parts setting parts first a
          | Helper ↦ AreOperands text means implied faces flat all_parts setting parts first a
          | Whole ↦ (i : ℕ) × (first ≡ i ∷ []) × IsFlattened text means implied faces flat setting (Node form s parts) i a
        ]) whole flattened

    arguments-cons : (unbound : Bool) (form : Form.the_data) (s : Span) (parts rest : Trees) → TreeGood flat text known named means implied faces inside (Node form s parts) → New text seen (inner_names text (Cons (Node form s parts) rest)) → AreArranged (LeadsBehind flat text known named faces inside) unbound (Cons (Node form s parts) rest) → ArgumentsGood flat text known named means implied faces inside context depths setting rest → ArgumentsGood flat text known named means implied faces inside context depths setting (Cons (Node form s parts) rest)
    arguments-cons unbound form s parts rest tree new arranged later [] is asked readable flattened = absurd readable
    arguments-cons unbound form s parts rest tree new arranged later (order ∷ orders) is asked (whole, same, readable, more) (first, others, a, b, split, joined, flattened, after) =
        let one = flattened-whole form s parts first a whole flattened in
        let match = tree seen stands setting depths context one.0 a round here (whole-new seen form s parts rest whole new) (arranged-whole unbound form s parts rest whole arranged) readable one.2 in
        let all = later orders others b more after in
        let together : is ≡ one.0 ∷ others = split ∙ ap (λ xs. xs ++ others) one.1 in
        let part = inside-matches flat text known named means implied faces inside context context depths form s parts (one.0 ∷ []) a (no-set form (whole-plain form whole)) (max-zero (depth_at flat one.0) ∙ match.deep) match.names in (
          subst (λ xs. parts_of.AreArguments flat text known named (beneath context depths) (Cons (Node form s parts) rest) xs) (sym together) (whole-plain form whole, match.deep, match.places, all.0),
          ap length together ∙ ap suc all.1,
          (names-join (has_set form) (no-set form (whole-plain form whole)) match.names all.2 (ap (deep_answers flat) joined ∙ asked-joins flat a b)),
        )
      where
        names-join : (t : Bool) → t ≡ false → deep_answers flat a ≡ deep_names text known named (beneath context depths) (Node form s parts) → deep_answers flat b ≡ deep_parts text known named (beneath context depths) (beneath context depths) rest → deep_answers flat asked ≡ deep_answers flat a ++ deep_answers flat b → deep_answers flat asked ≡ elim t as (λ _. List Lexeme) [ true ↦ deep_parts text known named (beneath context depths) (beneath context depths) parts ++ deep_parts text known named (beneath context depths) (beneath context depths) rest | false ↦ deep_names text known named (beneath context depths) (Node form s parts) ++ deep_parts text known named (beneath context depths) (beneath context depths) rest ]
        names-join true e one two three = cc
        names-join false e one two three = three ∙ ap (λ xs. xs ++ deep_answers flat b) one ∙ ap (λ xs. deep_names text known named (beneath context depths) (Node form s parts) ++ xs) two

    arguments-nil : ArgumentsGood flat text known named means implied faces inside context depths setting Nil
    arguments-nil [] is asked readable (none, empty) = (
      subst (λ xs. parts_of.AreArguments flat text known named (beneath context depths) Nil xs) (sym none) tt,
      ap length none,
      ap (deep_answers flat) empty,
    )
    arguments-nil (order ∷ orders) is asked readable flattened = absurd readable

    pub arguments-good : (arguments : Trees) → Everywhere flat text known named means implied faces inside arguments → (unbound : Bool) → New text seen (inner_names text arguments) → AreArranged (LeadsBehind flat text known named faces inside) unbound arguments → ArgumentsGood flat text known named means implied faces inside context depths setting arguments
    arguments-good Nil below unbound new arranged = arguments-nil
    arguments-good (Cons (Node form s parts) rest) (tree, below, later) unbound new arranged =
        arguments-cons unbound form s parts rest tree new arranged (arguments-good rest later unbound (rest-new flat text known named means implied faces inside seen form s parts rest new) arranged.1)

    pub segments-good : (segments : Trees) → Everywhere flat text known named means implied faces inside segments → (unbound : Bool) → New text seen (inner_names text segments) → AreArranged (LeadsBehind flat text known named faces inside) unbound segments → SegmentsGood flat text known named means implied faces inside context depths setting segments
    segments-good Nil below unbound new arranged = tt
    segments-good (Cons (Node (Form.Segment l) s arguments) rest) (tree, below, later) unbound new arranged = (
      arguments-good arguments below true (helper-new seen (Form.Segment l) s arguments rest refl new) arranged.0.1,
      arranged.0.0,
      segments-good rest later unbound (rest-new flat text known named means implied faces inside seen (Form.Segment l) s arguments rest new) arranged.1,
    )
    segments-good (Cons (Node form s arguments) rest) (tree, below, later) unbound new arranged = segments-good rest later unbound (rest-new flat text known named means implied faces inside seen form s arguments rest new) arranged.1

    -- ---- updates

    module _ (olds : List ℕ) where
      -- the indices of an update, and its right side
      abbrev UpdateGood : Trees → Type 0
      UpdateGood parts =
          (indices values : List ℕ) (a b : List Question)
          → New text seen (inner_names text parts) → AreArranged (LeadsBehind flat text known named faces inside) true parts → AreReadable text known named means implied faces context context parts → EndsWhole parts
          → AreOperands text means implied faces flat stands_outside setting parts indices a
          → AreOperands text means implied faces flat inside_parts (repeating setting olds) parts values b
          → PartsMatch flat text known named means implied faces inside context context depths parts (indices ++ values) (a ++ b)

      -- of a part that is an index, and of others
      abbrev Taken : (Form.the_data → Bool) → Setting → Bool → Part → Form.the_data → Span → Trees → List ℕ → List Question → Type 0
      Taken taken now t p form s parts first a =
          elim t as (λ _. Type 0) [
            | true ↦ elim p as (λ _. Type 0) [
              | Outer ↦ AreOperands text means implied faces flat all_parts now parts first a
              | Helper ↦ AreOperands text means implied faces flat all_parts now parts first a
              | Whole ↦ (i : ℕ) × (first ≡ i ∷ []) × IsFlattened text means implied faces flat now (Node form s parts) i a
            ]
            | false ↦ (first ≡ []) × (a ≡ [])
          ]

      update-cons : (form : Form.the_data) (s : Span) (parts rest : Trees) → TreeGood flat text known named means implied faces inside (Node form s parts)
          → OperandsGood flat text known named means implied faces inside seen stands setting depths round parts
          → OperandsGood flat text known named means implied faces inside seen stands (repeating setting olds) depths (repeating-round text flat known seen stands setting depths olds round) parts
          → UpdateGood rest → UpdateGood (Cons (Node form s parts) rest)
      update-cons form s parts rest tree inner kept later indices values a b new arranged readable ends (first, others, x, y, split, joined, flattened, more) (own, after, z, w, division, union, right, last) =
          by_part (part_of form) refl ends
        where
          -- an index, in front of the others
          outer : stands_outside form ≡ true → EndsWhole rest → PartsMatch flat text known named means implied faces inside context context depths (Cons (Node form s parts) rest) (indices ++ values) (a ++ b)
          outer out last_rest =
              let took = subst (λ t. Taken stands_outside setting t (part_of form) form s parts first x) out flattened in
              let left = subst (λ t. Taken inside_parts (repeating setting olds) (not t) (part_of form) form s parts own z) out right in
              parts-join flat text known named means implied faces inside context context depths form s parts rest (indices ++ values) first (others ++ after) (a ++ b) x (y ++ w)
              (in-front indices values first others own after split division left.0) (in-front a b x y z w joined union left.1)
              (part-good flat text known named means implied faces inside seen stands setting depths round context context true form s parts first x tree inner here here (λ _. refl) (part_of form) refl (first-new flat text known named means implied faces inside seen form s parts rest new) arranged.0 readable.0 took)
              (later others after y w (rest-new flat text known named means implied faces inside seen form s parts rest new) arranged.1 readable.1 last_rest more last)

          kept-part : stands_outside form ≡ false → (first ≡ []) × (x ≡ []) × PartMatches flat text known named means implied faces inside context context depths form s parts own z
          kept-part inner_part =
              let took = subst (λ t. Taken stands_outside setting t (part_of form) form s parts first x) inner_part flattened in
              let left = subst (λ t. Taken inside_parts (repeating setting olds) (not t) (part_of form) form s parts own z) inner_part right in (
                took.0,
                took.1,
                part-good flat text known named means implied faces inside seen stands (repeating setting olds) depths (repeating-round text flat known seen stands setting depths olds round) context context true form s parts own z tree kept here here (λ _. refl) (part_of form) refl (first-new flat text known named means implied faces inside seen form s parts rest new) arranged.0 readable.0 left,
              )

          -- a helper form without parts
          helper : part_of form ≡ Helper → stands_outside form ≡ false → parts ≡ Nil → EndsWhole rest → PartsMatch flat text known named means implied faces inside context context depths (Cons (Node form s parts) rest) (indices ++ values) (a ++ b)
          helper e inner_part none last_rest =
              let part = kept-part inner_part in
              let left = subst (λ t. Taken inside_parts (repeating setting olds) (not t) (part_of form) form s parts own z) inner_part right in
              let empty = subst (λ (xs : Trees). AreOperands text means implied faces flat all_parts (repeating setting olds) xs own z) none
              (subst (λ (p : Part). elim p as (λ _. Type 0) [
                | Outer ↦ AreOperands text means implied faces flat all_parts (repeating setting olds) parts own z
                | Helper ↦ AreOperands text means implied faces flat all_parts (repeating setting olds) parts own z
                | Whole ↦ (i : ℕ) × (own ≡ i ∷ []) × IsFlattened text means implied faces flat (repeating setting olds) (Node form s parts) i z
              ]) e left) in
              parts-join flat text known named means implied faces inside context context depths form s parts rest (indices ++ values) own (others ++ after) (a ++ b) z (y ++ w)
              (none-either indices values first others own after split division part.0 empty.0) (none-either a b x y z w joined union part.1 empty.1)
              part.2
              (later others after y w (rest-new flat text known named means implied faces inside seen form s parts rest new) arranged.1 readable.1 last_rest more last)

          -- the right side, with nothing behind it
          whole : stands_outside form ≡ false → rest ≡ Nil → PartsMatch flat text known named means implied faces inside context context depths (Cons (Node form s parts) rest) (indices ++ values) (a ++ b)
          whole inner_part none =
              let part = kept-part inner_part in
              let no_more = subst (λ (xs : Trees). AreOperands text means implied faces flat stands_outside setting xs others y) none more in
              let no_last = subst (λ (xs : Trees). AreOperands text means implied faces flat inside_parts (repeating setting olds) xs after w) none last in
              parts-join flat text known named means implied faces inside context context depths form s parts rest (indices ++ values) own [] (a ++ b) z []
              (alone indices values first others own after split division part.0 no_more.0 no_last.0) (alone a b x y z w joined union part.1 no_more.1 no_last.1)
              part.2
              (subst (λ xs. PartsMatch flat text known named means implied faces inside context context depths xs [] []) (sym none) (none-match flat text known named means implied faces inside context context depths [] [] refl refl))

          by_part : (p : Part) → part_of form ≡ p → (elim p as (λ _. Type 0) [ Whole ↦ rest ≡ Nil | Outer ↦ EndsWhole rest | Helper ↦ (parts ≡ Nil) × (defines form ≡ Nothing) × EndsWhole rest ]) → PartsMatch flat text known named means implied faces inside context context depths (Cons (Node form s parts) rest) (indices ++ values) (a ++ b)
          by_part Outer e last_rest = outer (stands-outside form e) last_rest
          by_part Helper e last_rest = helper e (helps-out form e).1 last_rest.0 last_rest.2
          by_part Whole e none = whole (whole-inside form e) none

      pub update-good : (parts : Trees) → Everywhere flat text known named means implied faces inside parts → UpdateGood parts
      update-good Nil below = λ indices values a b new arranged readable ends one two. absurd ends
      update-good (Cons (Node form s parts) rest) (tree, below, later) =
          update-cons form s parts rest tree (operands-good flat text known named means implied faces inside seen stands setting depths round parts below)
          (operands-good flat text known named means implied faces inside seen stands (repeating setting olds) depths (repeating-round text flat known seen stands setting depths olds round) parts below)
          (update-good rest later)

    -- the updates of a function
    pub updates-good : (f : ℕ) (updates : Trees) → Everywhere flat text known named means implied faces inside updates → (unbound : Bool) (is : List ℕ) (asked : List Question) → New text seen (inner_names text updates) → AreArranged (LeadsBehind flat text known named faces inside) unbound updates → AreReadable text known named means implied faces context context updates → AreUpdatesWritten updates → AreUpdates text means implied faces flat setting f updates is asked → PartsMatch flat text known named means implied faces inside context context depths updates is asked
    updates-good f Nil below unbound is asked new arranged readable written flattened = none-match flat text known named means implied faces inside context context depths is asked flattened.0 flattened.1
    updates-good f (Cons (Node form s parts) rest) (tree, below, later) unbound is asked new arranged readable (helper, ends, more) (indices, values, others, a, b, c, left, right, after, split, joined) =
        let kept = arranged-helper unbound form s parts rest helper arranged in
        let apart = helps-out form helper in
        let match = update-good (f ∷ indices) parts below indices values a b (helper-new seen form s parts rest helper new) kept.1 (readable-helper context context form s parts rest helper readable) ends left right in
        parts-join flat text known named means implied faces inside context context depths form s parts rest is (indices ++ values) others asked (a ++ b) c
        (split ∙ sym (append_assoc indices values others)) (joined ∙ sym (append_assoc a b c))
        (helper-part flat text known named means implied faces inside context context depths form s parts (indices ++ values) (a ++ b) apart.0 (inside-set form apart.1) kept.0 match)
        (updates-good f rest later unbound others c (rest-new flat text known named means implied faces inside seen form s parts rest new) arranged.1 readable.1 more after)
