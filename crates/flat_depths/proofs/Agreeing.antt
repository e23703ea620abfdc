-- When names stay as deep as what they mean.
use Rattle.std.proofs.Common.{◌≡◌, ℕ, suc, max, Bool, true, false, cond, List, [], ◌∷◌, Option, Some, None, map, refl, sym, ap, ◌∙◌, subst, inl, inr, arith}
use Rattle.std.specs.Prelude.{slice_get}
use Rattle.std.specs.List.{AllByRecursion}
use Rattle.std.proofs.Math.Nat.{max-zero, zero-max}
use Rattle.tla_tree.specs.declared.form.Form.TheVariants as Form
use Rattle.tla_tree.specs.Syntax.{Tree, Trees}
use Rattle.tla_model.specs.Tables.{Named}
use Rattle.tla_model.specs.Entities.{Meaning, Text, meant}
use Rattle.tla_model.specs.Contexts.{Context}
use Rattle.tla_model.specs.Scopes.{behind, definition, reserved, scope}
use Rattle.module_model.specs.Exports.{Exports, Known}
use Rattle.kind_text.specs.FlatModule.{FlatModule}
use Rattle.level_text.specs.Depth.{depth as depth_at, replaced_depth}
use Rattle.tree_kinds.specs.Standing.{Outside, Reached, name_among, same_standing}
use Rattle.tree_kinds.specs.TreeDepths.{Beneath, Depths, before_scope, behind_depth, coming_depth, deeper, in_scope, with_depth, with_entry_depths}
use Rattle.flat_trees.specs.Stands.{Stand, Unsaid, Leaf, Place, Defined, Through, Brought}
use Rattle.flat_trees.specs.Layouts.{Layout, coming_stand, layout_before, layout_behind, layout_declaring, layout_in, layout_repeating, layout_with, order_of, parameters_of, with_brought, with_places, with_stand, with_stands}
use Rattle.flat_depths.specs.Depths.{AgreesInDepth, HasDepths, HaveDepths, IsDeclaredPlain, IsDeepModule, IsPlain, beneath_in}

pub max-assoc : (a b c : ℕ) → max (max a b) c ≡ max a (max b c)
max-assoc a b c = omega arith

module _ (flat : FlatModule) where
  -- behind one replacement more
  pub deeper-has : (n : ℕ) (stand : Stand) (m : ℕ) (depths : List Named → Reached) → HasDepths flat m stand depths → HasDepths flat (max n m) stand (λ path. deeper n (depths path))
  deeper-has n Unsaid m depths has = tt
  deeper-has n (Leaf kind) m depths has = ap (deeper n) has
  deeper-has n (Place place order) m depths has = ap (deeper n) has
  deeper-has n (Defined d orders) m depths has = ap (deeper n) has
  deeper-has n (Through j orders inner) m depths has = (
    ap (deeper n) has.0,
    λ name.
        subst (λ k. HasDepths flat k (inner name) (λ path. deeper n (depths (name ∷ path)))) (sym (max-assoc n m (replaced_depth (depth_at flat) (slice_get flat.instances j))))
        (deeper-has n (inner name) (max m (replaced_depth (depth_at flat) (slice_get flat.instances j))) (λ path. depths (name ∷ path)) (has.1 name)),
  )
  deeper-has n (Brought j inner) m depths has =
      subst (λ k. HasDepths flat k inner (λ path. deeper n (depths path))) (sym (max-assoc n m (replaced_depth (depth_at flat) (slice_get flat.instances j))))
      (deeper-has n inner (max m (replaced_depth (depth_at flat) (slice_get flat.instances j))) depths has)

  -- behind the replacements of an instance
  pub behind-has : (j n : ℕ) (stand : Stand) (depths : List Named → Reached) → replaced_depth (depth_at flat) (slice_get flat.instances j) ≡ n → HasDepths flat 0 stand depths → HasDepths flat (max 0 (replaced_depth (depth_at flat) (slice_get flat.instances j))) stand (λ path. deeper n (depths path))
  behind-has j n stand depths e has =
      subst (λ k. HasDepths flat k stand (λ path. deeper n (depths path))) (max-zero n ∙ sym e ∙ sym (zero-max (replaced_depth (depth_at flat) (slice_get flat.instances j)))) (deeper-has n stand 0 depths has)

  -- ---- names, one by one

  module _ (stand : Stand) (reached : List Named → Reached) (one : HasDepths flat 0 stand reached) (other : Meaning) where
    same-deep : (meanings : List Meaning) (stands : Meaning → Stand) → HasDepths flat 0 (stands other) reached → HasDepths flat 0 (with_stands stands meanings stand other) reached
    same-deep [] stands has = has
    same-deep (meaning ∷ rest) stands has = same-deep rest (with_stand stands meaning stand) (by_sameness (same_standing other meaning))
      where
        by_sameness : (b : Bool) → HasDepths flat 0 (cond b stand (stands other)) reached
        by_sameness true = one
        by_sameness false = has

    pub with-stands-deep : (meanings : List Meaning) (stands : Meaning → Stand) (depths : Depths) → HasDepths flat 0 (stands other) (depths other) → HasDepths flat 0 (with_stands stands meanings stand other) (with_depth depths meanings reached other)
    with-stands-deep [] stands depths has = has
    with-stands-deep (meaning ∷ rest) stands depths has =
        by_sameness (same_standing other meaning) refl
        (λ e. with-stands-deep rest (with_stand stands meaning stand) depths (subst (λ b. HasDepths flat 0 (cond b stand (stands other)) (depths other)) (sym e) has))
      where
        by_sameness : (b : Bool) → same_standing other meaning ≡ b → (same_standing other meaning ≡ false → HasDepths flat 0 (with_stands (with_stand stands meaning stand) rest stand other) (with_depth depths rest reached other)) → HasDepths flat 0 (with_stands (with_stand stands meaning stand) rest stand other) (λ path. cond b (reached path) (with_depth depths rest reached other path))
        by_sameness true e next = same-deep rest (with_stand stands meaning stand) (subst (λ b. HasDepths flat 0 (cond b stand (stands other)) reached) (sym e) one)
        by_sameness false e next = next e

  -- a parameter or a symbol has no depth
  place-deep : (stands : Meaning → Stand) (depths : Depths) (meaning : Meaning) (place : ℕ) → HaveDepths flat stands depths → IsPlain depths meaning → HaveDepths flat (with_stand stands meaning (Place place (order_of meaning))) depths
  place-deep stands depths meaning place have plain other = by_sameness (same_standing other meaning) refl
    where
      by_sameness : (b : Bool) → same_standing other meaning ≡ b → HasDepths flat 0 (cond b (Place place (order_of meaning)) (stands other)) (depths other)
      by_sameness true e = plain other e
      by_sameness false e = have other

  pub places-deep : (meanings : List Meaning) (stands : Meaning → Stand) (depths : Depths) (place : ℕ) → HaveDepths flat stands depths → AllByRecursion (IsPlain depths) meanings → HaveDepths flat (with_places stands meanings place) depths
  places-deep [] stands depths place have plain = have
  places-deep (meaning ∷ rest) stands depths place have plain =
      places-deep rest (with_stand stands meaning (Place place (order_of meaning))) depths (suc place) (place-deep stands depths meaning place have plain.0) plain.1

  -- entries that come through an instance without a name
  pub brought-deep : (j n : ℕ) (outside : Outside) (inner : Named → Stand) (entries : Exports) (stands : Meaning → Stand) (depths : Depths) → replaced_depth (depth_at flat) (slice_get flat.instances j) ≡ n → IsDeepModule flat inner outside → HaveDepths flat stands depths → HaveDepths flat (with_brought stands entries j inner) (with_entry_depths depths entries (λ path. deeper n (outside.depths path)))
  brought-deep j n outside inner entries stands depths e deep have meaning = by_name (name_among entries meaning)
    where
      by_name : (found : Option Named) → HasDepths flat 0 (coming_stand j inner (stands meaning) found) (λ path. coming_depth (λ p. deeper n (outside.depths p)) (depths meaning path) found path)
      by_name None = have meaning
      by_name (Some name) = behind-has j n (inner name) (λ path. outside.depths (name ∷ path)) e (deep name)

  -- no replacement has a depth
  pub extended-deep : (j : ℕ) (outside : Outside) (inner : Named → Stand) (entries : Exports) (stands : Meaning → Stand) (depths : Depths) → replaced_depth (depth_at flat) (slice_get flat.instances j) ≡ 0 → IsDeepModule flat inner outside → HaveDepths flat stands depths → HaveDepths flat (with_brought stands entries j inner) (with_entry_depths depths entries outside.depths)
  extended-deep j outside inner entries stands depths e deep have meaning = by_name (name_among entries meaning)
    where
      by_name : (found : Option Named) → HasDepths flat 0 (coming_stand j inner (stands meaning) found) (λ path. coming_depth outside.depths (depths meaning path) found path)
      by_name None = have meaning
      by_name (Some name) =
          subst (λ k. HasDepths flat k (inner name) (λ path. outside.depths (name ∷ path))) (sym (ap (max 0) e)) (deep name)

  -- ---- what is known round a node

  pub declared-agrees : (layout : Layout) (around : Beneath) (context : Context) (next : Meaning → Stand) → AgreesInDepth flat layout around → ((meaning : Meaning) → IsDeclaredPlain layout (around.depths meaning) (layout.stands meaning) (next meaning)) → AgreesInDepth flat (layout_declaring layout context next) (beneath_in around context)
  declared-agrees layout around context next agrees each = record { context = refl; depths = λ meaning. by_case meaning (each meaning) }
    where
      by_case : (meaning : Meaning) → IsDeclaredPlain layout (around.depths meaning) (layout.stands meaning) (next meaning) → HasDepths flat 0 (next meaning) (around.depths meaning)
      by_case meaning (inl same) = subst (λ stand. HasDepths flat 0 stand (around.depths meaning)) (sym same) (agrees.depths meaning)
      by_case meaning (inr (order, same, plain)) = subst (λ stand. HasDepths flat 0 stand (around.depths meaning)) (sym same) plain

  pub repeating-agrees : (layout : Layout) (around : Beneath) (olds : List ℕ) → AgreesInDepth flat layout around → AgreesInDepth flat (layout_repeating layout olds) around
  repeating-agrees layout around olds agrees = record { context = agrees.context; depths = agrees.depths }

  module _ (text : Text) (known : Known) (named : List ℕ → Outside) (layout : Layout) (around : Beneath) (agrees : AgreesInDepth flat layout around) where
    pub scope-agrees : (form : Form.the_data) (parts : Trees) → AgreesInDepth flat (layout_in text layout form parts) (in_scope text known named around form parts)
    scope-agrees form parts = record { context = ap (λ context. scope text context form parts) agrees.context; depths = agrees.depths }

    pub before-agrees : (form : Form.the_data) (parts : Trees) → AgreesInDepth flat (layout_before text layout form parts) (before_scope text known named around form parts)
    before-agrees form parts = record { context = ap (λ context. reserved text context form parts) agrees.context; depths = agrees.depths }

    pub with-agrees : (form : Form.the_data) (parts : Trees) → AllByRecursion (IsPlain around.depths) (parameters_of text form parts) → AgreesInDepth flat (layout_with text layout form parts) (in_scope text known named around form parts)
    with-agrees form parts plain =
        record {
          context = ap (λ context. scope text context form parts) agrees.context;
          depths = places-deep (parameters_of text form parts) layout.stands around.depths layout.places agrees.depths plain;
        }

    pub behind-agrees : (x : Tree) (stand : Stand) (reached : List Named → Reached) → HasDepths flat 0 stand reached → AgreesInDepth flat (layout_behind text layout x stand) (behind_depth text known named around x reached)
    behind-agrees x stand reached one =
        record {
          context = ap (λ context. behind text context x) agrees.context;
          depths = λ meaning. with-stands-deep stand reached one meaning (map (meant text) (definition x)) layout.stands around.depths (agrees.depths meaning);
        }
