-- What replaces the symbols of a module: right sides that are written, and symbols that stand in.
use Rattle.std.proofs.Common.{◌≡◌, inl, inr, ℕ, zero, suc, Bool, true, false, cond, List, [], ◌∷◌, ◌++◌, Option, Some, None, map, refl, sym, ap, ◌∙◌, subst}
use Rattle.std.specs.Prelude.{◌⊎◌, ◌||◌, drop, slice_get}
use Rattle.std.specs.List.{AllByRecursion}
use Rattle.tla_symbols.specs.declared.lexeme.Lexeme.{Lexeme}
use Rattle.tla_symbols.specs.declared.lexeme.Span.{Span}
use Rattle.tla_tree.specs.declared.form.Form.TheVariants as Form
use Rattle.tla_tree.specs.Syntax.{Tree, Trees, Node, Nil, Cons}
use Rattle.tla_model.specs.declared.names.Binding.TheVariants as as_binding
use Rattle.tla_model.specs.Tables.{Named, is_among, same_named}
use Rattle.tla_model.specs.Entities.{Meaning, Text, declared_in, name_of}
use Rattle.tla_model.specs.Contexts.{meaning_of}
use Rattle.module_model.specs.Exports.{Exports, Known, behind_meaning, entry_of}
use Rattle.module_model.specs.Instances.{left_sides}
use Rattle.kind_text.specs.FlatModule.{FlatModule, IsOrdered, Node as FlatNode, Replacement, places_of}
use Rattle.kind_text.specs.Expansion.{items as items_at, text as text_at}
use Rattle.kind_text.specs.Substitution.{Item}
use Rattle.kind_text.proofs.Unfolding.{text-step}
use Rattle.tree_kinds.specs.Standing.{Outside, item_of, operator_places, single}
use Rattle.tree_kinds.specs.Expanding.{Around, Outer, Helper, Whole, Part, Written, at_names, expand, greatest_level, part_of, places_at, replaced_by, right_sides, written_for}
use Rattle.flat_trees.specs.Stands.{Matches}
use Rattle.flat_trees.specs.Names.{IsNamed, IsPath, order_by, places_by, IsMeaning as IsMadeBy}
use Rattle.flat_trees.specs.Layouts.{Agrees, Layout, order_of}
use Rattle.flat_trees.specs.Instances.{AreReplaced, IsReplaced}
use Rattle.flat_trees.proofs.BuiltNodes.{at-path}
use Rattle.flat_trees.proofs.Meanings.{named-equal}
use Rattle.flat_trees.proofs.Reaching.{append-nil}
use Rattle.flattened_trees.specs.Leads.{FlatFace, Setting}
use Rattle.flattened_trees.specs.Questions.{Question}
use Rattle.flattened_trees.specs.NodeForms.{lead_of, name_node}
use Rattle.flattened_trees.specs.Flattened.{AreOperands, AreReplacing, AreRights, HasNode, IsFlattened, Right, all_parts, asks_of, right_for, right_of}
use Rattle.flattened_trees.specs.Readable.{AreImplied, AreReadableRights, CanStandFor, IsReadable, parameter_order}
use Rattle.flattened_trees.specs.Agreeing.{lead_by}
use Rattle.flattened_meanings.proofs.Leading.{orders-length, path-has-places, path-node, places-order}
use Rattle.flattened_meanings.proofs.Fresh.{Fresh, fresh-left, fresh-right, whole-names}
use Rattle.flattened_meanings.proofs.Rounds.{Knows}
use Rattle.flattened_meanings.proofs.Operands.{Each, IsMadeAs, IsNewAs}
use Rattle.flattened_meanings.proofs.Places.{node-has-places, places-again}

module _ (flat : FlatModule) (text : Text) (known : Known) (named : List ℕ → Outside) (means : ℕ → Option Meaning) (implied : ℕ → List Meaning) (faces : List ℕ → FlatFace) (nameable : List ℕ → Bool) (ordered : IsOrdered flat) (layout : Layout) (setting : Setting) (seen : Meaning → Bool) (knows : Knows flat text known named faces nameable layout setting seen) (frame : List Item) (around : Around) (agrees : Agrees flat layout frame around) where
  -- a right side that is written for a name is what its node is, with the places of the symbol
  abbrev IsRight : Exports → Named → Right → Written → Type 0
  IsRight parameters name right written =
      (o : Option ℕ) × (places_by (order_by o) ≡ o) × (places_of (slice_get flat.nodes right.node) ≡ o) × (parameter_order (entry_of parameters name) ≡ Some (order_by o))
      × Matches (order_by o) (text_at flat right.node frame) written.item

  -- a right side is written for a name, or none is
  abbrev IsFound : Exports → Named → Option Right → Option Written → Bool → Type 0
  IsFound parameters name right written among =
      ((a : Right) × (b : Written) × (right ≡ Some a) × (written ≡ Some b) × (among ≡ true) × IsRight parameters name a b) ⊎ ((right ≡ None) × (written ≡ None) × (among ≡ false))

  -- one right side, by whether it is for this name
  found-here : (parameters : Exports) (name : Named) (a : Right) (b : Written) (left : Named) (more : Option Right) (others : Option Written) (among : Bool) → IsRight parameters left a b → (same_named name left ≡ true → name ≡ left) → (same : Bool) → same_named name left ≡ same → IsFound parameters name more others among → IsFound parameters name (cond same (Some a) more) (cond same (Some b) others) (same || among)
  found-here parameters name a b left more others among right equal true e rest =
      inl (a, b, refl, refl, refl, subst (λ n. IsRight parameters n a b) (sym (equal e)) right)
  found-here parameters name a b left more others among right equal false e rest = rest

  -- the node of a right side
  pub right-node : (form : Form.the_data) (at : Span) (parts : Trees) (is : List ℕ) (asked : List Question) → Each flat text known named means implied faces nameable (Cons (Node form at parts) Nil) → AreOperands text means implied faces flat all_parts setting (Cons (Node form at parts) Nil) is asked → part_of form ≡ Whole → Fresh text seen (whole-names text (Cons (Node form at parts) Nil)) → (i : ℕ) × (a : List Question) × (is ≡ i ∷ []) × IsFlattened text means implied faces flat setting (Node form at parts) i a × Fresh text seen (declared_in as_binding.Constant (Node form at parts))
  right-node form at parts is asked each (first, others, b, c, parted, asks, one, rest-made) whole fresh =
      by_part (part_of form) whole one (fresh-left text seen _ [] fresh)
    where
      by_part : (p : Part) → p ≡ Whole → IsMadeAs flat text known named means implied faces nameable setting form at parts first b p → IsNewAs flat text known named means implied faces nameable seen form at parts p → (i : ℕ) × (a : List Question) × (is ≡ i ∷ []) × IsFlattened text means implied faces flat setting (Node form at parts) i a × Fresh text seen (declared_in as_binding.Constant (Node form at parts))
      by_part Outer e made new = cc
      by_part Helper e made new = cc
      by_part Whole e (i, single, made) new = (i, b, parted ∙ ap (λ js. js ++ others) single ∙ ap (λ js. (i ∷ []) ++ js) rest-made.0, made, new)

  right-is : (parameters : Exports) (name : Named) (form : Form.the_data) (at : Span) (parts : Trees) (i : ℕ) (asked : List Question) → Each flat text known named means implied faces nameable (Cons (Node form at parts) Nil) → IsFlattened text means implied faces flat setting (Node form at parts) i asked → IsReadable text known named means implied faces layout.context (Node form at parts) → Fresh text seen (declared_in as_binding.Constant (Node form at parts)) → parameter_order (entry_of parameters name) ≡ Some (order_by (places_at text known named layout.context (Node form at parts))) → IsRight parameters name (record { name = name; node = i; at = at }) (record { name = name; item = expand text known named around (Node form at parts); at = at })
  right-is parameters name form at parts i asked each made can fresh order =
      let x : Tree = Node form at parts in
      let o = places_at text known named layout.context x in
      let meant-here = each.0 layout setting seen i asked knows made can fresh in (
        o,
        places-again text known named layout.context x,
        node-has-places flat text known named means implied faces nameable layout setting seen knows frame [] around agrees form at parts i asked each.1 made can fresh,
        order,
        subst (λ s. Matches (order_by o) (text_at flat i s) (expand text known named around x)) (append-nil frame) (meant-here frame [] around agrees),
      )

  pub rights-found : (rights : Trees) (parameters : Exports) (before : List Named) (l : Lexeme) (made : List Right) (roots : List ℕ) (asked : List Question) → Each flat text known named means implied faces nameable rights → AreRights text means implied faces flat setting l rights made roots asked → AreReadableRights text known named means implied faces layout.context parameters before rights → Fresh text seen (whole-names text rights) → (name : Named) → IsFound parameters name (right_for made name) (written_for (right_sides text known named around rights) name) (is_among (left_sides text.source rights) name)
  rights-found Nil parameters before l made roots asked each all can fresh name = inr (ap (λ rs. right_for rs name) all.0, refl, refl)
  rights-found (Cons (Node (Form.Replacement left) s (Cons (Node form at parts) Nil)) rest) parameters before l made roots asked each (is, others, a, b, more, one, rest-made, parted, joined, asks) (whole, new, order, can, cans) fresh name =
      let node = right-node form at parts is a each.1 one whole (fresh-left text seen (whole-names text (Cons (Node form at parts) Nil)) (whole-names text rest) fresh) in
      let own = name_of text.source left in
      let here : Right = record { name = own; node = node.0; at = at } in
      let there : Written = record { name = own; item = expand text known named around (Node form at parts); at = at } in
      let all : made ≡ here ∷ more = parted ∙ ap (λ js. right_of own (Cons (Node form at parts) Nil) js ++ more) node.2 in
      let after = rights-found rest parameters (own ∷ before) l more others b each.2 rest-made cans (fresh-right text seen (whole-names text (Cons (Node form at parts) Nil)) (whole-names text rest) fresh) name in
      subst (λ rs. IsFound parameters name (right_for rs name) (written_for (there ∷ right_sides text known named around rest) name) (is_among (own ∷ left_sides text.source rest) name)) (sym all)
      (found-here parameters name here there own (right_for more name) (written_for (right_sides text known named around rest) name) (is_among (left_sides text.source rest) name)
      (right-is parameters own form at parts node.0 node.1 each.1 node.3 can node.4 order) (named-equal name own) (same_named name own) refl after)
  rights-found (Cons (Node (Form.Replacement left) s (Cons x (Cons y ys))) rest) parameters before l made roots asked each all can fresh name = absurd can
  rights-found (Cons (Node (Form.Replacement left) s Nil) rest) parameters before l made roots asked each all can fresh name = absurd can
  rights-found (Cons (Node form s parts) rest) parameters before l made roots asked each all can fresh name = absurd can

  -- ---- symbols that stand in

  -- the same places, by what a name takes
  implied-places : (parameter meaning : Meaning) → CanStandFor parameter meaning → operator_places (Some parameter) ≡ operator_places (Some meaning)
  implied-places parameter meaning can = places-order parameter ∙ ap places_by (sym can.1 ∙ orders-length meaning) ∙ sym (places-order meaning)

  operator-order : (parameter : Meaning) → order_by (operator_places (Some parameter)) ≡ order_of parameter
  operator-order parameter = ap order_by (places-order parameter) ∙ by_order (order_of parameter)
    where
      by_order : (n : ℕ) → order_by (places_by n) ≡ n
      by_order zero = refl
      by_order (suc n) = refl

  module _ (l : Lexeme) (name : Named) (parameter meaning : Meaning) (symbols : List Meaning) (first : slice_get symbols 0 ≡ Some meaning) (there : meaning_of layout.context name ≡ Some meaning) (can : CanStandFor parameter meaning) where
    -- the node that is made for the symbol
    abbrev symbol-at : FlatNode
    symbol-at = name_node (operator_places (Some parameter)) (lead_of setting.leads (slice_get symbols 0) []) []

    symbol-lead : lead_of setting.leads (slice_get symbols 0) [] ≡ lead_by (layout.stands meaning) []
    symbol-lead = ap (λ o. lead_of setting.leads o []) first ∙ knows.settings.leads meaning []

    symbol-places : symbol-at.places ≡ operator_places (Some parameter)
    symbol-places =
        ap (λ lead. (name_node (operator_places (Some parameter)) lead []).places) symbol-lead
        ∙ path-has-places text known named around (text_at flat) frame [] (layout.stands meaning) (operator_places (Some parameter)) (behind_meaning known (Some meaning)) meaning l l.span Nil Nil (knows.orders name meaning there) (refl, can.0) (implied-places parameter meaning can)

    symbol-path : IsPath layout.stands around.context (operator_places (Some parameter)) (single name []) symbol-at.form (items_at (text_at flat) symbol-at.parts frame)
    symbol-path =
        subst (λ context. IsMadeBy layout.stands context (operator_places (Some parameter)) (meaning_of context name) [] [] symbol-at.form (items_at (text_at flat) symbol-at.parts frame)) (sym agrees.context)
        (subst (λ o. IsMadeBy layout.stands layout.context (operator_places (Some parameter)) o [] [] symbol-at.form (items_at (text_at flat) symbol-at.parts frame)) (sym there)
        (subst (λ lead. IsNamed (operator_places (Some parameter)) (layout.stands meaning) [] [] (name_node (operator_places (Some parameter)) lead []).form (items_at (text_at flat) (name_node (operator_places (Some parameter)) lead []).parts frame)) (sym symbol-lead)
        (path-node text known named around (text_at flat) frame [] (layout.stands meaning) (operator_places (Some parameter)) (behind_meaning known (Some meaning)) meaning l l.span Nil Nil (knows.orders name meaning there) (refl, can.0) (implied-places parameter meaning can))))

    symbol-item : (i : ℕ) → HasNode flat i symbol-at → Matches (order_of parameter) (text_at flat i frame) (item_of (operator_places (Some parameter)) (λ more. at_names around (single name more)))
    symbol-item i node =
        subst (λ n. Matches n (text_at flat i frame) (item_of (operator_places (Some parameter)) (λ more. at_names around (single name more)))) (operator-order parameter)
        (subst (λ y. Matches (order_by (operator_places (Some parameter))) y (item_of (operator_places (Some parameter)) (λ more. at_names around (single name more)))) (sym (text-step flat i symbol-at frame ordered node))
        (at-path flat symbol-at.form symbol-at.parts frame layout.stands around agrees.standing (operator_places (Some parameter)) (single name []) symbol-path))

  -- ---- all symbols

  module _ (l : Lexeme) (constant : Bool) (whole : Exports) (rights : List Right) (written : List Written) (left : List Named) (found : (name : Named) → IsFound whole name (right_for rights name) (written_for written name) (is_among left name)) where
    -- what stands for a symbol, by what is written for it
    abbrev RestReplaced : Exports → List Meaning → List Replacement → List Question → Option Right → (Named × Meaning) → Replacement → List Question → Type 0
    RestReplaced parameters symbols made rest o parameter r asked = elim o [
      | Some right ↦ (r.root ≡ right.node) × (asked ≡ asks_of flat setting.leads setting.frame constant rights l right.at r parameter ∷ rest) × AreReplacing flat setting.leads setting.frame constant rights l parameters symbols made rest
      | None ↦ HasNode flat r.root (name_node (operator_places (Some parameter.1)) (lead_of setting.leads (slice_get symbols 0) []) [])
          × (asked ≡ asks_of flat setting.leads setting.frame constant rights l l.span r parameter ∷ rest) × AreReplacing flat setting.leads setting.frame constant rights l parameters (drop 1 symbols) made rest
    ]

    -- what stands in for a symbol, unless something is written for it
    abbrev RestImplied : Exports → List Meaning → Bool → (Named × Meaning) → Type 0
    RestImplied parameters symbols among parameter = elim among [
      | true ↦ AreImplied layout.context left parameters symbols
      | false ↦ (meaning : Meaning) × (slice_get symbols 0 ≡ Some meaning) × (meaning_of layout.context parameter.0 ≡ Some meaning)
          × CanStandFor parameter.1 meaning × AreImplied layout.context left parameters (drop 1 symbols)
    ]

    replaced-right : (parameter : Named × Meaning) (r : Replacement) (right : Right) (b : Written) → r.most ≡ Some (greatest_level constant parameter.1) → entry_of whole parameter.0 ≡ Some parameter.1 → r.root ≡ right.node → IsRight whole parameter.0 right b → IsReplaced flat constant frame r (replaced_by around l parameter (Some b))
    replaced-right parameter r right b most entry root (o, again, places, order, item) =
        let same : order_of parameter.1 ≡ order_by o = let e : Some (order_of parameter.1) ≡ Some (order_by o) = sym (ap parameter_order entry) ∙ order in cc in
        record {
          most = most;
          places = ap (λ i. places_of (slice_get flat.nodes i)) root ∙ places ∙ sym again ∙ ap places_by (sym same) ∙ sym (places-order parameter.1);
          item = subst (λ i. Matches (order_of parameter.1) (text_at flat i frame) b.item) (sym root) (subst (λ n. Matches n (text_at flat right.node frame) b.item) (sym same) item);
        }

    pub replaced-all : (parameters : Exports) (symbols : List Meaning) (made : List Replacement) (asked : List Question) → AllByRecursion (λ parameter. entry_of whole parameter.0 ≡ Some parameter.1) parameters → AreReplacing flat setting.leads setting.frame constant rights l parameters symbols made asked → AreImplied layout.context left parameters symbols → AreReplaced flat constant frame made (map (λ parameter. replaced_by around l parameter (written_for written parameter.0)) parameters)
    replaced-all [] symbols made asked entries all can = subst (λ ds. AreReplaced flat constant frame ds []) (sym all.0) tt
    replaced-all (parameter ∷ parameters) symbols [] asked entries all can = absurd all
    replaced-all (parameter ∷ parameters) symbols (r ∷ made) asked entries (rest, most, all) can =
        by_found (found parameter.0) (right_for rights parameter.0) refl all (is_among left parameter.0) refl can
        (λ on implied-on. replaced-all parameters symbols made rest entries.1 on implied-on)
        (λ on implied-on. replaced-all parameters (drop 1 symbols) made rest entries.1 on implied-on)
      where
        by_found : IsFound whole parameter.0 (right_for rights parameter.0) (written_for written parameter.0) (is_among left parameter.0) → (o : Option Right) → right_for rights parameter.0 ≡ o → RestReplaced parameters symbols made rest o parameter r asked → (among : Bool) → is_among left parameter.0 ≡ among → RestImplied parameters symbols among parameter → (AreReplacing flat setting.leads setting.frame constant rights l parameters symbols made rest → AreImplied layout.context left parameters symbols → AreReplaced flat constant frame made (map (λ p. replaced_by around l p (written_for written p.0)) parameters)) → (AreReplacing flat setting.leads setting.frame constant rights l parameters (drop 1 symbols) made rest → AreImplied layout.context left parameters (drop 1 symbols) → AreReplaced flat constant frame made (map (λ p. replaced_by around l p (written_for written p.0)) parameters)) → AreReplaced flat constant frame (r ∷ made) (replaced_by around l parameter (written_for written parameter.0) ∷ map (λ p. replaced_by around l p (written_for written p.0)) parameters)
        by_found (inl (a, b, is-right, is-written, is-among, right)) (Some other) e (root, asks, on) true f on-implied same next =
            let equal : a ≡ other = let s : Some a ≡ Some other = sym is-right ∙ e in cc in (
              subst (λ w. IsReplaced flat constant frame r (replaced_by around l parameter w)) (sym is-written)
                  (replaced-right parameter r other b most entries.0 root (subst (λ x. IsRight whole parameter.0 x b) equal right)),
              same on on-implied,
            )
        by_found (inl (a, b, is-right, is-written, is-among, right)) (Some other) e on false f on-implied same next = absurd (let never : true ≡ false = sym is-among ∙ f in cc)
        by_found (inl (a, b, is-right, is-written, is-among, right)) None e on among f on-implied same next = absurd (let never : Some a ≡ None = sym is-right ∙ e in cc)
        by_found (inr (is-right, is-written, is-among)) (Some other) e on among f on-implied same next = absurd (let never : Some other ≡ None = sym e ∙ is-right in cc)
        by_found (inr (is-right, is-written, is-among)) None e on true f on-implied same next = absurd (let never : true ≡ false = sym f ∙ is-among in cc)
        by_found (inr (is-right, is-written, is-among)) None e (node, asks, on) false f (meaning, first, there, can-stand, on-implied) same next = (
          subst (λ w. IsReplaced flat constant frame r (replaced_by around l parameter w)) (sym is-written)
              (record {
                most = most;
                places = ap places_of node ∙ symbol-places l parameter.0 parameter.1 meaning symbols first there can-stand;
                item = symbol-item l parameter.0 parameter.1 meaning symbols first there can-stand r.root node;
              }),
          next on on-implied,
        )
