-- Frames that agree with what stands round a tree, and how that is kept.
use Rattle.std.proofs.Common.{◌≡◌, inl, inr, ℕ, zero, suc, ◌+◌, ◌<◌, Bool, true, false, cond, List, [], ◌∷◌, ◌++◌, Option, Some, None, map, refl, sym, ap, ◌∙◌, subst, length, arith}
use Rattle.std.proofs.lemmas.List.{length-append, length-map}
use Rattle.tla_tree.specs.declared.form.Form.TheVariants as Form
use Rattle.tla_tree.specs.Syntax.{Tree, Trees}
use Rattle.tla_model.specs.Tables.{Named}
use Rattle.tla_model.specs.Entities.{Meaning, Text, meant}
use Rattle.tla_model.specs.Contexts.{Context}
use Rattle.tla_model.specs.Scopes.{behind, definition, reserved, scope}
use Rattle.module_model.specs.Exports.{Exports, Known}
use Rattle.kind_text.specs.ExpandedKind.{Expanded}
use Rattle.kind_text.specs.FlatModule.{FlatModule}
use Rattle.kind_text.specs.Expansion.{items as items_at, text as text_at}
use Rattle.kind_text.specs.Substitution.{Item, at, texts}
use Rattle.tree_kinds.specs.Standing.{Environment, Outside, Steps, Value, coming, name_among, same_standing, value_of, with_entries, with_items, with_value, with_values}
use Rattle.tree_kinds.specs.Expanding.{Around, before_scope, behind_definition, in_scope, with_parameters}
use Rattle.flat_trees.specs.Stands.{AreStanding, Fits, IsItem, IsStanding, Matches, Stand, Unsaid, Leaf, Place, Defined, Through, Brought, count}
use Rattle.flat_trees.specs.Layouts.{Agrees, IsDeclaredAs, Layout, StandsBefore, around_in, coming_stand, layout_before, layout_behind, layout_declaring, layout_in, layout_with, order_of, parameters_of, with_brought, with_places, with_stand, with_stands}
use Rattle.flat_trees.proofs.Reaching.{at-append, grown}

count-texts : (xs : List Item) → count (texts xs) ≡ length xs
count-texts [] = refl
count-texts (x ∷ xs) = ap suc (count-texts xs)

pub append-append : (xs ys zs : List Item) → (xs ++ ys) ++ zs ≡ xs ++ (ys ++ zs)
append-append [] ys zs = refl
append-append (x ∷ xs) ys zs = ap (λ us. x ∷ us) (append-append xs ys zs)

-- the item behind those before it
pub at-behind : (s : List Item) (x : Item) (xs : List Item) → at (s ++ (x ∷ xs)) (length s) ≡ x
at-behind [] x xs = refl
at-behind (y ∷ s) x xs = at-behind s x xs

-- what matches an item stands for it
pub item-value : (n : ℕ) (x y : Item) → Matches n x y → IsItem n x [] (value_of y)
item-value zero x y same = sym same
item-value (suc n) x y same = λ arguments many. by_arguments arguments many
  where
    by_arguments : (arguments : List Item) → length arguments ≡ suc n → value_of y arguments [] ≡ x.call (texts arguments)
    by_arguments [] many = absurd (omega (arith, many))
    by_arguments (a ∷ rest) many = sym (same (texts (a ∷ rest)) (count-texts (a ∷ rest) ∙ many))

fits-length : (orders : List ℕ) (xs ys : List Item) → Fits orders xs ys → length xs ≡ length orders
fits-length [] [] [] fits = refl
fits-length [] [] (y ∷ ys) fits = absurd fits
fits-length [] (x ∷ xs) ys fits = absurd fits
fits-length (n ∷ orders) [] ys fits = absurd fits
fits-length (n ∷ orders) (x ∷ xs) [] fits = absurd fits
fits-length (n ∷ orders) (x ∷ xs) (y ∷ ys) fits = ap suc (fits-length orders xs ys fits.1)

module _ (flat : FlatModule) where
  pub with-stand-stands : (s : List Item) (stands : Meaning → Stand) (standing : Environment) (meaning : Meaning) (stand : Stand) (value : Value) → AreStanding flat s stands standing → IsStanding flat s [] stand value → AreStanding flat s (with_stand stands meaning stand) (with_value standing meaning value)
  with-stand-stands s stands standing meaning stand value all one other = by_sameness (same_standing other meaning)
    where
      by_sameness : (b : Bool) → IsStanding flat s [] (cond b stand (stands other)) (cond b value (standing other))
      by_sameness true = one
      by_sameness false = all other

  pub with-stands-stand : (s : List Item) (meanings : List Meaning) (stands : Meaning → Stand) (standing : Environment) (stand : Stand) (value : Value) → AreStanding flat s stands standing → IsStanding flat s [] stand value → AreStanding flat s (with_stands stands meanings stand) (with_values standing meanings value)
  with-stands-stand s [] stands standing stand value all one = all
  with-stands-stand s (meaning ∷ rest) stands standing stand value all one =
      with-stands-stand s rest (with_stand stands meaning stand) (with_value standing meaning value) stand value (with-stand-stands s stands standing meaning stand value all one) one

  -- parameters at the end of a frame, from a place on
  with-places-stand : (before : List Item) (meanings : List Meaning) (xs ys : List Item) (stands : Meaning → Stand) (standing : Environment) → AreStanding flat (before ++ xs) stands standing → Fits (map order_of meanings) xs ys → AreStanding flat (before ++ xs) (with_places stands meanings (length before)) (with_items standing meanings ys)
  with-places-stand before [] xs ys stands standing all fits = all
  with-places-stand before (meaning ∷ rest) [] ys stands standing all fits = absurd fits
  with-places-stand before (meaning ∷ rest) (x ∷ xs) [] stands standing all fits = absurd fits
  with-places-stand before (meaning ∷ rest) (x ∷ xs) (y ∷ ys) stands standing all fits =
      let room : length before < length (before ++ (x ∷ xs)) = let e = length-append before (x ∷ xs) in omega (arith, e) in
      let here : IsStanding flat (before ++ (x ∷ xs)) [] (Place (length before) (order_of meaning)) (value_of y) =
      (room, subst (λ z. IsItem (order_of meaning) z [] (value_of y)) (sym (at-behind before x xs)) (item-value (order_of meaning) x y fits.0)) in
      let more = with-stand-stands (before ++ (x ∷ xs)) stands standing meaning (Place (length before) (order_of meaning)) (value_of y) all here in
      let moved : (before ++ (x ∷ [])) ++ xs ≡ before ++ (x ∷ xs) = append-append before (x ∷ []) xs in
      let next : length (before ++ (x ∷ [])) ≡ suc (length before) = let e = length-append before (x ∷ []) in omega (arith, e) in
      subst (λ place. AreStanding flat (before ++ (x ∷ xs)) (with_places (with_stand stands meaning (Place (length before) (order_of meaning))) rest place) (with_items (with_value standing meaning (value_of y)) rest ys)) next
      (subst (λ t. AreStanding flat t (with_places (with_stand stands meaning (Place (length before) (order_of meaning))) rest (length (before ++ (x ∷ [])))) (with_items (with_value standing meaning (value_of y)) rest ys)) moved
      (with-places-stand (before ++ (x ∷ [])) rest xs ys (with_stand stands meaning (Place (length before) (order_of meaning))) (with_value standing meaning (value_of y))
      (subst (λ t. AreStanding flat t (with_stand stands meaning (Place (length before) (order_of meaning))) (with_value standing meaning (value_of y))) (sym moved) more) fits.1))

  pub all-grown : (s more : List Item) (stands : Meaning → Stand) (standing : Environment) → AreStanding flat s stands standing → AreStanding flat (s ++ more) stands standing
  all-grown s more stands standing all meaning = grown flat s more [] (stands meaning) (standing meaning) (all meaning)

  -- one symbol more, at the next place
  declared-stand : (layout : Layout) (s : List Item) (x : Item) (before next : Stand) (value : Value) → length s ≡ layout.places → IsStanding flat s [] before value → IsDeclaredAs layout x value before next → IsStanding flat (s ++ (x ∷ [])) [] next value
  declared-stand layout s x before next value places holds (inl same) =
      subst (λ stand. IsStanding flat (s ++ (x ∷ [])) [] stand value) (sym same) (grown flat s (x ∷ []) [] before value holds)
  declared-stand layout s x before next value places holds (inr (order, same, item)) =
      let room : length s < length (s ++ (x ∷ [])) = let e = length-append s (x ∷ []) in omega (arith, e) in
      let here : IsStanding flat (s ++ (x ∷ [])) [] (Place (length s) order) value = (room, subst (λ z. IsItem order z [] value) (sym (at-behind s x [])) item) in
      subst (λ stand. IsStanding flat (s ++ (x ∷ [])) [] stand value) (ap (λ place. Place place order) places ∙ sym same) here

  -- symbols before a place, over the frame before it
  front-stands : (s more : List Item) (stand : Stand) (value : Value) → StandsBefore (length s) stand → IsStanding flat (s ++ more) [] stand value → IsStanding flat s [] stand value
  front-stands s more Unsaid value before holds = tt
  front-stands s more (Leaf kind) value before holds = holds
  front-stands s more (Place place order) value before holds = (before, subst (λ x. IsItem order x [] value) (at-append s more place before) holds.1)
  front-stands s more (Defined d orders) value before holds = absurd before
  front-stands s more (Through j orders inner) value before holds = absurd before
  front-stands s more (Brought j inner) value before holds = absurd before

  pub front-stand : (s more : List Item) (stands : Meaning → Stand) (standing : Environment) → ((meaning : Meaning) → StandsBefore (length s) (stands meaning)) → AreStanding flat (s ++ more) stands standing → AreStanding flat s stands standing
  front-stand s more stands standing before all meaning = front-stands s more (stands meaning) (standing meaning) (before meaning) (all meaning)

  pub declared-agrees : (layout : Layout) (frame : List Item) (around : Around) (context : Context) (next : Meaning → Stand) (x : Item) → Agrees flat layout frame around → ((meaning : Meaning) → IsDeclaredAs layout x (around.standing meaning) (layout.stands meaning) (next meaning)) → Agrees flat (layout_declaring layout context next) (frame ++ (x ∷ [])) (around_in around context)
  declared-agrees layout frame around context next x agrees each =
      record {
        context = refl;
        places = let e = length-append frame (x ∷ []) in let room = agrees.places in omega (arith, e, room);
        standing = λ meaning. declared-stand layout frame x (layout.stands meaning) (next meaning) (around.standing meaning) agrees.places (agrees.standing meaning) (each meaning);
        old = λ more. ap (λ s. texts (items_at (text_at flat) layout.olds s)) (append-append frame (x ∷ []) more) ∙ agrees.old ((x ∷ []) ++ more);
      }

  -- entries that come through an instance without a name
  pub brought-stand : (s : List Item) (stands : Meaning → Stand) (standing : Environment) (entries : Exports) (j : ℕ) (inner : Named → Stand) (from : Steps → Expanded) → AreStanding flat s stands standing → ((name : Named) → IsStanding flat s [] (Brought j (inner name)) (λ arguments path. from (record { name = name; arguments = arguments } ∷ path))) → AreStanding flat s (with_brought stands entries j inner) (with_entries standing entries from)
  brought-stand s stands standing entries j inner from all each meaning = by_name (name_among entries meaning)
    where
      by_name : (found : Option Named) → IsStanding flat s [] (coming_stand j inner (stands meaning) found) (coming from (standing meaning) found)
      by_name None = all meaning
      by_name (Some name) = each name

  module _ (text : Text) (known : Known) (named : List ℕ → Outside) (layout : Layout) (frame : List Item) (around : Around) (agrees : Agrees flat layout frame around) where
    pub scope-agrees : (form : Form.the_data) (parts : Trees) → Agrees flat (layout_in text layout form parts) frame (in_scope text known named around form parts)
    scope-agrees form parts = record { context = ap (λ context. scope text context form parts) agrees.context; places = agrees.places; standing = agrees.standing; old = agrees.old }

    pub before-agrees : (form : Form.the_data) (parts : Trees) → Agrees flat (layout_before text layout form parts) frame (before_scope text known named around form parts)
    before-agrees form parts = record { context = ap (λ context. reserved text context form parts) agrees.context; places = agrees.places; standing = agrees.standing; old = agrees.old }

    pub behind-agrees : (x : Tree) (stand : Stand) (value : Value) → IsStanding flat frame [] stand value → Agrees flat (layout_behind text layout x stand) frame (behind_definition text known named around x value)
    behind-agrees x stand value one =
        record {
          context = ap (λ context. behind text context x) agrees.context;
          places = agrees.places;
          standing = with-stands-stand frame (map (meant text) (definition x)) layout.stands around.standing stand value agrees.standing one;
          old = agrees.old;
        }

    pub with-agrees : (form : Form.the_data) (parts : Trees) (made arguments : List Item) → Fits (map order_of (parameters_of text form parts)) made arguments → Agrees flat (layout_with text layout form parts) (frame ++ made) (with_parameters text known named around form parts arguments)
    with-agrees form parts made arguments fits =
        record {
          context = ap (λ context. scope text context form parts) agrees.context;
          places = length-append frame made ∙ ap (λ n. n + length made) agrees.places ∙ ap (λ n. layout.places + n) (fits-length _ made arguments fits ∙ length-map (parameters_of text form parts) order_of);
          standing =
              subst (λ place. AreStanding flat (frame ++ made) (with_places layout.stands (parameters_of text form parts) place) (with_items around.standing (parameters_of text form parts) arguments)) agrees.places
              (with-places-stand frame (parameters_of text form parts) made arguments layout.stands around.standing (all-grown frame made layout.stands around.standing agrees.standing) fits);
          old = λ more. ap (λ s. texts (items_at (text_at flat) layout.olds s)) (append-append frame made more) ∙ agrees.old (made ++ more);
        }
