-- The questions of an INSTANCE are answered: of its right sides, and of all that replaces the symbols of its module.
use Rattle.std.proofs.Common.{◌≡◌, ℕ, zero, suc, Bool, true, false, cond, List, [], ◌∷◌, ◌++◌, Option, Some, None, map, refl, sym, ap, ◌∙◌, subst}
use Rattle.std.specs.Prelude.{drop, slice_get}
use Rattle.tla_symbols.specs.declared.lexeme.Lexeme.{Lexeme}
use Rattle.tla_symbols.specs.declared.lexeme.Span.{Span}
use Rattle.tla_tree.specs.declared.form.Form.TheVariants as Form
use Rattle.tla_tree.specs.Syntax.{Trees, Node, Nil, Cons}
use Rattle.tla_model.specs.Lexemes.{spelled}
use Rattle.tla_model.specs.Tables.{Named, same_named}
use Rattle.tla_model.specs.Entities.{Meaning, Text, name_of}
use Rattle.module_model.specs.Exports.{Exports, Known, entry_of}
use Rattle.module_model.specs.Instances.{left_sides}
use Rattle.kind_text.specs.ExpandedKind.{kind}
use Rattle.kind_text.specs.FlatModule.{FlatModule, IsOrdered, Replacement}
use Rattle.kind_text.specs.Expansion.{text as text_at}
use Rattle.kind_text.specs.Substitution.{judged}
use Rattle.tree_kinds.specs.Standing.{Outside, operator_places}
use Rattle.tree_kinds.specs.Expanding.{Around, Replaced, Written, expand, greatest_level, module_of, places_at, replaced_by, replaced_text, right_sides, written_for}
use Rattle.tree_kinds.specs.TreeLevels.{Leveled, TooHigh, declared_level, high_replacement, high_replacements, is_above, levels, levels_parts, levels_replaced}
use Rattle.flat_trees.specs.Stands.{Matches}
use Rattle.flat_trees.specs.Names.{order_by, places_by}
use Rattle.flat_trees.specs.Layouts.{Layout, order_of}
use Rattle.flat_trees.specs.Instances.{AreReplaced, IsReplaced}
use Rattle.flattened_trees.specs.Leads.{FlatFace, Setting}
use Rattle.flattened_trees.specs.Questions.{Question, UseAs, over}
use Rattle.flattened_trees.specs.NodeForms.{lead_of, name_node}
use Rattle.flattened_trees.specs.Flattened.{AreReplacing, AreRights, HasNode, IsInstance, Right, asks_of, face_of, right_for, right_of}
use Rattle.flattened_trees.specs.Readable.{AreImplied, AreReadableRights, IsFaceFor}
use Rattle.flattened_trees.specs.Answers.{items_of, kind_in, level_answers}
use Rattle.flattened_meanings.specs.Faces.{NameModules}
use Rattle.flattened_meanings.proofs.Leading.{places-order}
use Rattle.flattened_meanings.proofs.Fresh.{Fresh, fresh-left, fresh-right, whole-names}
use Rattle.flattened_meanings.proofs.Places.{operator-again}
use Rattle.flattened_meanings.proofs.Replacing.{replaced-all, right-node, rights-found}
use Rattle.flattened_meanings.proofs.Meant.{each-kept}
use Rattle.flattened_levels.specs.Shapes.{AreShapedRights}
use Rattle.flattened_levels.proofs.NodeKinds.{Round, judged-matches}
use Rattle.flattened_levels.proofs.AtNode.{answers-parted, found-nil}
use Rattle.flattened_levels.proofs.Operands.{EachAnswered}
use Rattle.flattened_levels.proofs.Arguments.{arguments-answered}

-- ---- what replaces a symbol

order-again : (n : ℕ) → order_by (places_by n) ≡ n
order-again zero = refl
order-again (suc n) = refl

operator-order : (parameter : Meaning) → order_by (operator_places (Some parameter)) ≡ order_of parameter
operator-order parameter = ap order_by (places-order parameter) ∙ order-again (order_of parameter)

-- both are written, at one place, or none is
abbrev AreAtOnePlace : Option Right → Option Written → Type 0
AreAtOnePlace (Some right) (Some written) = right.at ≡ written.at
AreAtOnePlace None None = Unit {0}
AreAtOnePlace right written = ⊥

one-place-more : (a : Right) (b : Written) (more : Option Right) (others : Option Written) → a.at ≡ b.at → (same : Bool) → AreAtOnePlace more others → AreAtOnePlace (cond same (Some a) more) (cond same (Some b) others)
one-place-more a b more others at true after = at
one-place-more a b more others at false after = after

module _ (flat : FlatModule) (frame : List Meaning) where
  replaced-kind : (constant : Bool) (r : Replacement) (x : Replaced) → IsReplaced flat constant (items_of frame) r x → kind_in flat frame r.root ≡ kind (replaced_text x)
  replaced-kind constant r x is =
      ap (λ o. kind (judged o (text_at flat r.root (items_of frame)))) is.places
      ∙ ap kind (judged-matches (operator_places (Some x.parameter)) (text_at flat r.root (items_of frame)) x.item (operator-again (Some x.parameter))
      (subst (λ n. Matches n (text_at flat r.root (items_of frame)) x.item) (sym (operator-order x.parameter)) is.item))

  -- a replacement that is asked of, and what is found of it
  one-high : (constant : Bool) (r : Replacement) (x : Replaced) (at : Span) → IsReplaced flat constant (items_of frame) r x → at ≡ x.at → cond (is_above (greatest_level constant x.parameter) (kind_in flat frame r.root)) (TooHigh at ∷ []) [] ≡ high_replacement constant x
  one-high constant r x at is same =
      ap (λ k. cond (is_above (greatest_level constant x.parameter) k) (TooHigh at ∷ []) []) (replaced-kind constant r x is)
      ∙ ap (λ s. cond (is_above (greatest_level constant x.parameter) (kind (replaced_text x))) (TooHigh s ∷ []) []) same

module _ (flat : FlatModule) (text : Text) (known : Known) (named : List ℕ → Outside) (means : ℕ → Option Meaning) (implied : ℕ → List Meaning) (faces : List ℕ → FlatFace) (nameable : List ℕ → Bool) (ordered : IsOrdered flat) (layout : Layout) (setting : Setting) (seen : Meaning → Bool) (around : Around) (round : Round flat text known named means implied faces nameable layout setting seen around) where
  -- ---- right sides

  pub rights-answered : (rights : Trees) (parameters : Exports) (before : List Named) (l : Lexeme) (made : List Right) (roots : List ℕ) (asked : List Question) → EachAnswered flat text known named means implied faces nameable rights → NameModules text.source nameable rights → AreRights text means implied faces flat setting l rights made roots asked → AreReadableRights text known named means implied faces layout.context parameters before rights → AreShapedRights rights → Fresh text seen (whole-names text rights) → IsFaceFor text known named means implied faces l → level_answers flat asked ≡ levels_replaced text known named around l rights
  rights-answered Nil parameters before l made roots asked each names all can shaped fresh face = ap (level_answers flat) all.2
  rights-answered (Cons (Node (Form.Replacement left) s (Cons (Node form at parts) Nil)) rest) parameters before l made roots asked each names (is, others, a, b, more, one, rest-made, parted, joined, asks) (whole, new, order, can, cans) shaped fresh face =
      let right : Trees = Cons (Node form at parts) Nil in
      let here = arguments-answered flat text known named means implied faces nameable ordered layout setting seen around round right (order_by (places_at text known named layout.context (Node form at parts)) ∷ []) is a each.1 names.0.1 one (whole, refl, can, tt) shaped.0 (fresh-left text seen (whole-names text right) (whole-names text rest) fresh) in
      let after = rights-answered rest parameters (name_of text.source left ∷ before) l more others b each.2 names.1 rest-made cans shaped.1 (fresh-right text seen (whole-names text right) (whole-names text rest) fresh) face in
      answers-parted flat asked (over setting.frame (UseAs left (declared_level (entry_of (face_of text means implied faces flat l).parameters (name_of text.source left))) ∷ [])) (a ++ b) (Leveled left (declared_level (entry_of (module_of text known named l).view.parameters (name_of text.source left))) ∷ []) (levels_parts text known named around around right ++ levels_replaced text known named around l rest) asks
      (ap (λ ps. Leveled left (declared_level (entry_of ps (name_of text.source left))) ∷ []) face.parameters)
      (answers-parted flat (a ++ b) a b _ _ refl here.found after)
  rights-answered (Cons (Node (Form.Replacement left) s (Cons x (Cons y ys))) rest) parameters before l made roots asked each names all can shaped fresh face = absurd can
  rights-answered (Cons (Node (Form.Replacement left) s Nil) rest) parameters before l made roots asked each names all can shaped fresh face = absurd can
  rights-answered (Cons (Node form s parts) rest) parameters before l made roots asked each names all can shaped fresh face = absurd can

  -- right sides are written where they are
  places-found : (rights : Trees) (parameters : Exports) (before : List Named) (l : Lexeme) (made : List Right) (roots : List ℕ) (asked : List Question) → NameModules text.source nameable rights → AreRights text means implied faces flat setting l rights made roots asked → AreReadableRights text known named means implied faces layout.context parameters before rights → Fresh text seen (whole-names text rights) → (name : Named) → AreAtOnePlace (right_for made name) (written_for (right_sides text known named around rights) name)
  places-found Nil parameters before l made roots asked names all can fresh name = subst (λ rs. AreAtOnePlace (right_for rs name) None) (sym all.0) tt
  places-found (Cons (Node (Form.Replacement left) s (Cons (Node form at parts) Nil)) rest) parameters before l made roots asked names (is, others, a, b, more, one, rest-made, parted, joined, asks) (whole, new, order, can, cans) fresh name =
      let right : Trees = Cons (Node form at parts) Nil in
      let node = right-node flat text known named means implied faces nameable ordered layout setting seen round.knows (items_of setting.frame) around round.asked.frame form at parts is a
      (each-kept flat text known named means implied faces nameable ordered right names.0.1) one whole (fresh-left text seen (whole-names text right) (whole-names text rest) fresh) in
      let own = name_of text.source left in
      let here : Right = record { name = own; node = node.0; at = at } in
      let there : Written = record { name = own; item = expand text known named around (Node form at parts); at = at } in
      let all : made ≡ here ∷ more = parted ∙ ap (λ js. right_of own right js ++ more) node.2 in
      let after = places-found rest parameters (own ∷ before) l more others b names.1 rest-made cans (fresh-right text seen (whole-names text right) (whole-names text rest) fresh) name in
      subst (λ rs. AreAtOnePlace (right_for rs name) (written_for (there ∷ right_sides text known named around rest) name)) (sym all)
      (one-place-more here there (right_for more name) (written_for (right_sides text known named around rest) name) refl (same_named name own) after)
  places-found (Cons (Node (Form.Replacement left) s (Cons x (Cons y ys))) rest) parameters before l made roots asked names all can fresh name = absurd can
  places-found (Cons (Node (Form.Replacement left) s Nil) rest) parameters before l made roots asked names all can fresh name = absurd can
  places-found (Cons (Node form s parts) rest) parameters before l made roots asked names all can fresh name = absurd can

  -- ---- replacements

  module _ (l : Lexeme) (constant : Bool) (rights : List Right) (written : List Written) (places : (name : Named) → AreAtOnePlace (right_for rights name) (written_for written name)) where
    -- what replaces parameters
    abbrev replacing : Exports → List Replaced
    replacing parameters = map (λ parameter. replaced_by around l parameter (written_for written parameter.0)) parameters

    -- what is asked of the first, by what is written for it
    abbrev FirstReplaced : Exports → List Meaning → List Replacement → List Question → Option Right → (Named × Meaning) → Replacement → List Question → Type 0
    FirstReplaced parameters symbols made rest o parameter r asked = elim o [
      | Some right ↦ (r.root ≡ right.node) × (asked ≡ asks_of flat setting.leads setting.frame constant rights l right.at r parameter ∷ rest) × AreReplacing flat setting.leads setting.frame constant rights l parameters symbols made rest
      | None ↦ HasNode flat r.root (name_node (operator_places (Some parameter.1)) (lead_of setting.leads (slice_get symbols 0) []) [])
          × (asked ≡ asks_of flat setting.leads setting.frame constant rights l l.span r parameter ∷ rest) × AreReplacing flat setting.leads setting.frame constant rights l parameters (drop 1 symbols) made rest
    ]

    replacing-answered : (parameters : Exports) (symbols : List Meaning) (made : List Replacement) (asked : List Question) → AreReplacing flat setting.leads setting.frame constant rights l parameters symbols made asked → AreReplaced flat constant (items_of setting.frame) made (replacing parameters) → level_answers flat asked ≡ high_replacements constant (replacing parameters)
    replacing-answered [] symbols made asked all are = ap (level_answers flat) all.1
    replacing-answered (parameter ∷ parameters) symbols [] asked all are = absurd all
    replacing-answered (parameter ∷ parameters) symbols (r ∷ made) asked (rest, most, all) are =
        by_found (right_for rights parameter.0) (written_for written parameter.0) (places parameter.0) all are.0
        (λ on. replacing-answered parameters symbols made rest on are.1) (λ on. replacing-answered parameters (drop 1 symbols) made rest on are.1)
      where
        by_found : (o : Option Right) (w : Option Written) → AreAtOnePlace o w → FirstReplaced parameters symbols made rest o parameter r asked → IsReplaced flat constant (items_of setting.frame) r (replaced_by around l parameter w) → (AreReplacing flat setting.leads setting.frame constant rights l parameters symbols made rest → level_answers flat rest ≡ high_replacements constant (replacing parameters)) → (AreReplacing flat setting.leads setting.frame constant rights l parameters (drop 1 symbols) made rest → level_answers flat rest ≡ high_replacements constant (replacing parameters)) → level_answers flat asked ≡ high_replacement constant (replaced_by around l parameter w) ++ high_replacements constant (replacing parameters)
        by_found (Some right) (Some b) at (root, asks, on) is same next =
            answers-parted flat asked (asks_of flat setting.leads setting.frame constant rights l right.at r parameter ∷ []) rest _ _ asks
            (found-nil _ ∙ one-high flat setting.frame constant r (replaced_by around l parameter (Some b)) right.at is at) (same on)
        by_found None None at (node, asks, on) is same next =
            answers-parted flat asked (asks_of flat setting.leads setting.frame constant rights l l.span r parameter ∷ []) rest _ _ asks
            (found-nil _ ∙ one-high flat setting.frame constant r (replaced_by around l parameter None) l.span is refl) (next on)
        by_found (Some right) None at found is same next = absurd at
        by_found None (Some b) at found is same next = absurd at

  -- ---- an instance

  pub instance-answered : (l : Lexeme) (s : Span) (rights : Trees) (outer count : ℕ) (guards : Bool) (written : List Right) (roots : List ℕ) (j : ℕ) (asked more : List Question) → nameable (spelled text.source l) ≡ true → EachAnswered flat text known named means implied faces nameable rights → NameModules text.source nameable rights → AreRights text means implied faces flat setting l rights written roots asked → IsInstance text means implied faces flat setting outer count guards l written j more → IsFaceFor text known named means implied faces l → AreImplied layout.context (left_sides text.source rights) (module_of text known named l).view.parameters (implied l.span.start) → AreReadableRights text known named means implied faces layout.context (module_of text known named l).view.parameters [] rights → AreShapedRights rights → Fresh text seen (whole-names text rights) → level_answers flat (asked ++ more) ≡ levels text known named around (Node (Form.Instance l) s rights)
  instance-answered l s rights outer count guards written roots j asked more can each names are (staying, made, there, stay, all) fits stand-in readable shaped fresh =
      let face = round.knows.modules (spelled text.source l) can in
      let parameters = (module_of text known named l).view.parameters in
      let constant = (module_of text known named l).is_constant in
      let all-by = subst (λ ps. AreReplacing flat setting.leads setting.frame (faces (spelled text.source l)).is_constant written l ps (implied l.span.start) made more) fits.parameters all in
      let all-of = subst (λ c. AreReplacing flat setting.leads setting.frame c written l parameters (implied l.span.start) made more) fits.constant all-by in
      let each-meant = each-kept flat text known named means implied faces nameable ordered rights names in
      let replaced = replaced-all flat text known named means implied faces nameable ordered layout setting seen round.knows (items_of setting.frame) around round.asked.frame l constant parameters written (right_sides text known named around rights) (left_sides text.source rights)
      (rights-found flat text known named means implied faces nameable ordered layout setting seen round.knows (items_of setting.frame) around round.asked.frame rights parameters [] l written roots asked each-meant are readable fresh)
      parameters (implied l.span.start) made more face.apart all-of stand-in in
      answers-parted flat (asked ++ more) asked more _ _ refl
      (rights-answered rights parameters [] l written roots asked each names are readable shaped fresh fits)
      (replacing-answered l constant written (right_sides text known named around rights) (places-found rights parameters [] l written roots asked names are readable fresh) parameters (implied l.span.start) made more all-of replaced)
