-- Nodes of the updates of a function: the indices, and right sides in which `@` repeats the function and these.
use Rattle.std.proofs.Common.{◌≡◌, ℕ, Bool, true, false, List, [], ◌∷◌, ◌++◌, Option, refl, sym, ap, ◌∙◌, subst}
use Rattle.std.specs.Prelude.{not}
use Rattle.tla_symbols.specs.declared.lexeme.Span.{Span}
use Rattle.tla_tree.specs.declared.form.Form.TheVariants as Form
use Rattle.tla_tree.specs.Syntax.{Trees, Node, Nil, Cons}
use Rattle.tla_model.specs.Entities.{Meaning, Text}
use Rattle.module_model.specs.Exports.{Known}
use Rattle.kind_text.specs.ExpandedKind.{Expanded, Operands}
use Rattle.kind_text.specs.FlatModule.{FlatModule}
use Rattle.kind_text.specs.Expansion.{text as text_at}
use Rattle.kind_text.specs.Substitution.{Item, judged}
use Rattle.tree_kinds.specs.Standing.{Outside}
use Rattle.tree_kinds.specs.Expanding.{Around, Outer, Helper, Whole, Part, and_operands, expand, operands, outer_operands, part_of, places_at, stands_outside, updated}
use Rattle.flat_trees.specs.Layouts.{Agrees, Layout, layout_repeating}
use Rattle.flattened_trees.specs.Leads.{FlatFace, Setting, repeating}
use Rattle.flattened_trees.specs.Questions.{Question}
use Rattle.flattened_trees.specs.Flattened.{AreOperands, AreUpdates, all_parts, inside_parts}
use Rattle.flattened_trees.specs.Readable.{AreReadable, AreUpdatesWritten, EndsWhole}
use Rattle.flattened_meanings.proofs.Fresh.{Fresh, fresh-left, fresh-right, whole-names}
use Rattle.flattened_meanings.proofs.Rounds.{Knows, repeating-known}
use Rattle.flattened_meanings.proofs.Operands.{Each, IsMadeAs, IsNewAs, IsReadAs, given, given-append, operands-given, operands-nil, whole-given}
use Rattle.flattened_meanings.proofs.Bodies.{AreOuters, EndsAs, and-apart, both-ways, helper-part, outer-here, outer-none, outer-part, outers-next, part-outer, whole-part}

module _ (flat : FlatModule) (text : Text) (known : Known) (named : List ℕ → Outside) (means : ℕ → Option Meaning) (implied : ℕ → List Meaning) (faces : List ℕ → FlatFace) (nameable : List ℕ → Bool) where
  -- a part is looked at, or it has no nodes
  abbrev pub IsTakenAs : Bool → Setting → Form.the_data → Span → Trees → List ℕ → List Question → Part → Type 0
  IsTakenAs taken setting form s parts first b p = elim taken [ true ↦ IsMadeAs flat text known named means implied faces nameable setting form s parts first b p | false ↦ (first ≡ []) × (b ≡ []) ]

  -- the indices
  pub outers-given : (parts : Trees) (outside inside : Layout) (setting : Setting) (seen : Meaning → Bool) (is : List ℕ) (asked : List Question) → Each flat text known named means implied faces nameable parts → Knows flat text known named faces nameable outside setting seen → AreOperands text means implied faces flat stands_outside setting parts is asked → AreReadable text known named means implied faces outside.context inside.context parts → Fresh text seen (whole-names text parts) → AreOuters flat text known named means implied faces nameable outside is parts
  outers-given Nil outside inside setting seen is asked each knows made can fresh frame more o agrees = ap (λ js. given flat text known named means implied faces nameable js (frame ++ more)) made.0
  outers-given (Cons (Node form s parts) rest) outside inside setting seen is asked each knows (first, others, b, c, parted, asks, one, rest-made) can fresh frame more o agrees =
      outers-next flat text known named means implied faces nameable outside first others is form s parts rest parted
      (by_outside (stands_outside form) refl one)
      (outers-given rest outside inside setting seen others c each.2 knows rest-made can.1 (fresh-right text seen _ (whole-names text rest) fresh)) frame more o agrees
    where
      by_outside : (out : Bool) → stands_outside form ≡ out → IsTakenAs out setting form s parts first b (part_of form) → (over longer : List Item) (here : Around) → Agrees flat outside over here → given flat text known named means implied faces nameable first (over ++ longer) ≡ elim (stands_outside form) [ true ↦ operands text known named here here parts | false ↦ Operands.Nil ]
      by_outside true e made over longer here agrees-here =
          let is-outer = part-outer form e in
          let made-outer = subst (IsMadeAs flat text known named means implied faces nameable setting form s parts first b) is-outer made in
          let can-outer = subst (IsReadAs flat text known named means implied faces nameable outside inside form s parts) is-outer can.0 in
          let new-outer = subst (IsNewAs flat text known named means implied faces nameable seen form s parts) is-outer (fresh-left text seen _ (whole-names text rest) fresh) in
          outer-here flat text known named means implied faces nameable outside first form parts here (over ++ longer) e
          (operands-given flat text known named means implied faces nameable parts outside outside setting seen first b each.1 knows knows made-outer can-outer new-outer over longer here here agrees-here agrees-here)
      by_outside false e none over longer here agrees-here = outer-none flat text known named means implied faces nameable outside first form parts here (over ++ longer) e none.0

  -- the operands of a part, by what it is
  abbrev part-operands : Around → Around → Form.the_data → Span → Trees → Part → Operands
  part-operands o a form s parts p = elim p [
    | Outer ↦ operands text known named o o parts
    | Helper ↦ operands text known named a a parts
    | Whole ↦ Operands.Cons (judged (places_at text known named a.context (Node form s parts)) (expand text known named a (Node form s parts))) Operands.Nil
  ]

  -- the operands of a part that stands outside, by whether it does
  abbrev outer-operands : Around → Trees → Bool → Operands
  outer-operands o parts out = elim out [ true ↦ operands text known named o o parts | false ↦ Operands.Nil ]

  module _ (o a : Around) (frame more : List Item) where
    values-given : (parts : Trees) (outside inside : Layout) (setting : Setting) (seen : Meaning → Bool) (values : List ℕ) (asked : List Question) → Each flat text known named means implied faces nameable parts → Knows flat text known named faces nameable inside setting seen → EndsWhole parts → AreOperands text means implied faces flat inside_parts setting parts values asked → AreReadable text known named means implied faces outside.context inside.context parts → Fresh text seen (whole-names text parts) → Agrees flat inside frame a → operands text known named o a parts ≡ and_operands (outer_operands text known named o parts) (given flat text known named means implied faces nameable values (frame ++ more))
    values-given Nil outside inside setting seen values asked each knows whole made can fresh agrees = absurd whole
    values-given (Cons (Node form s parts) rest) outside inside setting seen values asked each knows whole (first, others, b, c, parted, asks, one, rest-made) can fresh agrees =
        by_part (part_of form) refl (stands_outside form) refl whole one can.0 (fresh-left text seen _ (whole-names text rest) fresh)
        (λ left. values-given rest outside inside setting seen others c each.2 knows left rest-made can.1 (fresh-right text seen _ (whole-names text rest) fresh) agrees)
      where
        by_part : (p : Part) → part_of form ≡ p → (out : Bool) → stands_outside form ≡ out → EndsAs form parts rest p → IsTakenAs (not out) setting form s parts first b p → IsReadAs flat text known named means implied faces nameable outside inside form s parts p → IsNewAs flat text known named means implied faces nameable seen form s parts p → (EndsWhole rest → operands text known named o a rest ≡ and_operands (outer_operands text known named o rest) (given flat text known named means implied faces nameable others (frame ++ more))) → and_operands (part-operands o a form s parts p) (operands text known named o a rest) ≡ and_operands (and_operands (outer-operands o parts out) (outer_operands text known named o rest)) (given flat text known named means implied faces nameable values (frame ++ more))
        by_part Outer e true out left made read new again =
            let same : values ≡ others = parted ∙ ap (λ js. js ++ others) made.0 in
            ap (and_operands (operands text known named o o parts)) (again left)
            ∙ ap (λ js. and_operands (operands text known named o o parts) (and_operands (outer_operands text known named o rest) (given flat text known named means implied faces nameable js (frame ++ more)))) (sym same)
            ∙ sym (and-apart (operands text known named o o parts) (outer_operands text known named o rest) (given flat text known named means implied faces nameable values (frame ++ more)))
        by_part Outer e false out left made read new again = both-ways (stands_outside form) out (outer-part form e)
        by_part Helper e true out left made read new again = both-ways (stands_outside form) (helper-part form e).0 out
        by_part Helper e false out (empty, none, left) made read new again =
            let same : values ≡ others = parted ∙ ap (λ js. js ++ others) (no-nodes parts empty made) in
            ap (λ ps. and_operands (operands text known named a a ps) (operands text known named o a rest)) empty
            ∙ again left
            ∙ ap (λ js. and_operands (outer_operands text known named o rest) (given flat text known named means implied faces nameable js (frame ++ more))) (sym same)
          where
            no-nodes : (ps : Trees) → ps ≡ Nil → AreOperands text means implied faces flat all_parts setting ps first b → first ≡ []
            no-nodes Nil e made = made.0
            no-nodes (Cons x xs) e made = cc
        by_part Whole e true out left made read new again = both-ways (stands_outside form) (whole-part form e).0 out
        by_part Whole e false out last (i, single, made) read new again =
            let one-node : values ≡ i ∷ [] = parted ∙ ap (λ js. js ++ others) single ∙ ap (λ js. (i ∷ []) ++ js) (no-others rest last rest-made) in
            let meant-here = each.0 inside setting seen i b knows made read.1 new in
            ap (λ ps. and_operands (part-operands o a form s parts Whole) (operands text known named o a ps)) last
            ∙ operands-nil (part-operands o a form s parts Whole)
            ∙ sym (whole-given flat text known named means implied faces nameable (Node form s parts) inside i frame more a meant-here read.0 agrees)
            ∙ ap (λ js. given flat text known named means implied faces nameable js (frame ++ more)) (sym one-node)
            ∙ ap (λ ps. and_operands (outer_operands text known named o ps) (given flat text known named means implied faces nameable values (frame ++ more))) (sym last)
          where
            no-others : (ps : Trees) → ps ≡ Nil → AreOperands text means implied faces flat inside_parts setting ps others c → others ≡ []
            no-others Nil e made = made.0
            no-others (Cons x xs) e made = cc

  pub updates-given : (updates : Trees) (layout : Layout) (setting : Setting) (seen : Meaning → Bool) (f : ℕ) (is : List ℕ) (asked : List Question) → Each flat text known named means implied faces nameable updates → Knows flat text known named faces nameable layout setting seen → AreUpdates text means implied faces flat setting f updates is asked → AreUpdatesWritten updates → AreReadable text known named means implied faces layout.context layout.context updates → Fresh text seen (whole-names text updates) → (frame more : List Item) (around : Around) (function : Expanded) → Agrees flat layout frame around → ((longer : List Item) → (text_at flat f (frame ++ longer)).text ≡ function) → given flat text known named means implied faces nameable is (frame ++ more) ≡ updated text known named around function updates
  updates-given Nil layout setting seen f is asked each knows made written can fresh frame more around function agrees gives = ap (λ js. given flat text known named means implied faces nameable js (frame ++ more)) made.0
  updates-given (Cons (Node form s parts) rest) layout setting seen f is asked each knows (indices, values, others, b, c, d, outers, insides, rest-made, parted, asks) (help, whole, rest-written) can fresh frame more around function agrees gives =
      let then = layout_repeating layout (f ∷ indices) in
      let setting-then = repeating setting (f ∷ indices) in
      let knows-then = repeating-known flat text known named faces nameable layout setting seen (f ∷ indices) knows in
      let can-here = subst (IsReadAs flat text known named means implied faces nameable layout layout form s parts) help can.0 in
      let new-here = subst (IsNewAs flat text known named means implied faces nameable seen form s parts) help (fresh-left text seen _ (whole-names text rest) fresh) in
      let indices-given = outers-given parts layout layout setting seen indices b each.1 knows outers can-here new-here in
      let around-then : Around = record { context = around.context; standing = around.standing; old = Operands.Cons function (outer_operands text known named around parts) } in
      let agrees-then : Agrees flat then frame around-then = record {
        context = agrees.context;
        places = agrees.places;
        standing = agrees.standing;
        old = λ longer. ap (λ t. Operands.Cons t (given flat text known named means implied faces nameable indices (frame ++ longer))) (gives longer) ∙ ap (Operands.Cons function) (indices-given frame longer around agrees);
      } in
      let value = values-given around around-then frame more parts layout then setting-then seen values c each.1 knows-then whole insides can-here new-here agrees-then in
      let after = updates-given rest layout setting seen f others d each.2 knows rest-made rest-written can.1 (fresh-right text seen _ (whole-names text rest) fresh) frame more around function agrees gives in
      ap (λ js. given flat text known named means implied faces nameable js (frame ++ more)) parted
      ∙ given-append flat text known named means implied faces nameable indices (values ++ others) (frame ++ more)
      ∙ ap (and_operands (given flat text known named means implied faces nameable indices (frame ++ more))) (given-append flat text known named means implied faces nameable values others (frame ++ more))
      ∙ ap (λ t. and_operands t (and_operands (given flat text known named means implied faces nameable values (frame ++ more)) (given flat text known named means implied faces nameable others (frame ++ more)))) (indices-given frame more around agrees)
      ∙ sym (and-apart (outer_operands text known named around parts) (given flat text known named means implied faces nameable values (frame ++ more)) (given flat text known named means implied faces nameable others (frame ++ more)))
      ∙ ap (λ t. and_operands t (given flat text known named means implied faces nameable others (frame ++ more))) (sym value)
      ∙ ap (and_operands (operands text known named around around-then parts)) after
