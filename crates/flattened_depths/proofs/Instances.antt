-- The name of a module definition in a LET leads through an instance whose replacements are as deep as they are written.
use Rattle.std.proofs.Common.{◌≡◌, ℕ, zero, suc, ◌+◌, ◌≤◌, max, Bool, true, false, cond, List, [], ◌∷◌, ◌++◌, Option, Some, None, drop, length, map, refl, sym, ap, ◌∙◌, subst, inl, inr, append-nil, arith}
use Rattle.std.specs.Prelude.{◌||◌, slice_get}
use Rattle.std.specs.List.{AllByRecursion}
use Rattle.std.proofs.lemmas.List.{length-map}
use Rattle.std.proofs.Math.Nat.{max-zero, zero-max}
use Rattle.tla_symbols.specs.declared.lexeme.Lexeme.{Lexeme}
use Rattle.tla_symbols.specs.declared.lexeme.Span.{Span}
use Rattle.tla_tree.specs.declared.form.Form.TheVariants as Form
use Rattle.tla_tree.specs.Syntax.{Trees, Node, Nil, Cons}
use Rattle.tla_model.specs.declared.names.Binding.TheVariants as as_binding
use Rattle.tla_model.specs.Lexemes.{spelled}
use Rattle.tla_model.specs.Tables.{Named, is_among, same_named}
use Rattle.tla_model.specs.Entities.{Meaning, Text, all_placed, bound_as, declaration, defined, is_group, meant, name_of, orders, within}
use Rattle.tla_model.specs.Contexts.{Context, meaning_of}
use Rattle.tla_model.specs.Scopes.{all_grouped, binders, names_in, reserved, scope}
use Rattle.module_model.specs.Exports.{Behind, Exports, Known, at_path, behind_instance as behind_module, behind_meaning, entry_of, onward}
use Rattle.module_model.specs.Instances.{instance_among, left_sides}
use Rattle.kind_text.specs.FlatModule.{FlatModule, Form as NodeForm, Instance, IsOrdered, Replacement}
use Rattle.level_text.specs.Depth.{depth as depth_at, greatest, instance_depth}
use Rattle.level_text.specs.Depth as flat_depth
use Rattle.level_text.proofs.Depths.{depth-step}
use Rattle.tree_kinds.specs.Standing.{Outside, operator_places}
use Rattle.tree_kinds.specs.Expanding.{Helper, Whole, module_of, part_of}
use Rattle.tree_kinds.specs.TreeDepths as written
use Rattle.tree_kinds.specs.TreeDepths.{Depths, deep_names, deep_parts, defined_depth, depth, name_depth, parts_depth, reached_by, use_depth}
use Rattle.tree_kinds.specs.TreeLevels.{declared_level}
use Rattle.flat_trees.specs.Instances.{instance_in}
use Rattle.flat_trees.specs.Layouts.{parameters_of}
use Rattle.flat_trees.specs.Names.{places_by}
use Rattle.flat_trees.specs.Stands.{Stand, Through}
use Rattle.flat_depths.specs.Parts.{AreEachAsDeep, AreRightSides, right_depth}
use Rattle.flat_depths.proofs.Definitions.{instance-deep, staying-plain}
use Rattle.flat_depths.proofs.Replacing.{each-together}
use Rattle.flattened_trees.specs.Leads.{FlatFace, Lead, Setting, behind_instance, with_parameters, through as through_one}
use Rattle.flattened_trees.specs.NodeForms.{lead_of, name_node, plain_node}
use Rattle.flattened_trees.specs.Questions.{Question, UseAs, over}
use Rattle.flattened_trees.specs.Flattened.{AreOperands, AreReplacing, AreRights, AreStaying, HasNode, IsThrough, Right, all_parts, asks_of, face_of, right_for, right_of}
use Rattle.flattened_trees.specs.Readable.{AreImplied, AreReadableRights, CanStandFor, IsKnownBehind, IsReadable, IsReadableThrough, parameter_order}
use Rattle.flattened_trees.specs.Agreeing.{TakesAs, TakesBehind, lead_by}
use Rattle.flattened_depths.specs.Arranged.{AreArranged, BindsNothing, IsArrangedInstance}
use Rattle.flattened_trees.specs.Answers.{deep_answers}
use Rattle.flattened_depths.specs.Rounds.{LeadsAs, LeadsBehind, stands_in}
use Rattle.flattened_depths.proofs.Arguments.{arranged-whole, flattened-whole, helper-new, whole-new}
use Rattle.flattened_depths.proofs.Counting.{New, and_seen, inner_names, new-fewer, times, times-joins, whole-plain}
use Rattle.flattened_depths.proofs.Definitions.{DefinedGood, inner-new, own-name, own-new}
use Rattle.flattened_depths.proofs.Facts.{Everywhere, PartsMatch, TreeGood, asked-joins, beneath, helper-depth, helper-matches}
use Rattle.flattened_depths.proofs.Operands.{helper-part, helps-out, inside-set, none-match, parts-join, part_names, rest-new, whole-part}
use Rattle.flattened_depths.proofs.Rounds.{Among, Round, Usable, placed-round, placed-usable, placed_stands}
use Rattle.flattened_depths.proofs.Uses.{lone-fits, meaning-places, orders-length}

both-tests : (b : Bool) → b ≡ true → b ≡ false → ⊥
both-tests b e f = cc

module _ (flat : FlatModule) (text : Text) (known : Known) (named : List ℕ → Outside) (means : ℕ → Option Meaning) (implied : ℕ → List Meaning) (faces : List ℕ → FlatFace) (inside : List ℕ → Named → Stand) (ordered : IsOrdered flat) where
  -- ---- replacements

  pub staying-deep : (place count : ℕ) (staying : List Replacement) → AreStaying flat place count staying → AllByRecursion (λ r. depth_at flat r.root ≡ 0) staying
  staying-deep place zero [] all = tt
  staying-deep place zero (r ∷ staying) all = absurd all
  staying-deep place (suc count) [] all = absurd all
  staying-deep place (suc count) (r ∷ staying) (there, most, rest) =
      (staying-plain flat r (plain_node (NodeForm.Parameter place) []) place ordered there refl refl, staying-deep (suc place) count staying rest)

  module _ (seen : List Meaning) (stands : Meaning → Stand) (setting : Setting) (depths : Depths) (round : Round text flat known seen stands setting depths) (context : Context) (here : Usable text flat known seen stands context) where
    -- right sides are as deep as they are written, each for its name
    pub record RightsGood (parameters : Exports) (before : List Named) (rights : Trees) (sides : List Right) (roots : List ℕ) (asked : List Question) : Type 0 where
      pub match : PartsMatch flat text known named means implied faces inside context context depths rights roots asked
      pub written_for : (name : Named) (right : Right) → right_for sides name ≡ Some right → (depth_at flat right.node ≡ right_depth text known named (beneath context depths) rights name) × (is_among (left_sides text.source rights) name ≡ true)
      pub left_out : (name : Named) → right_for sides name ≡ None → (right_depth text known named (beneath context depths) rights name ≡ name_depth (beneath context depths) name) × (is_among (left_sides text.source rights) name ≡ false)
      pub placed : AreRightSides text (map (λ parameter. parameter.0) parameters) before rights

    entry-among : (entries : Exports) (name : Named) (order : ℕ) → parameter_order (entry_of entries name) ≡ Some order → is_among (map (λ (p : Named × Meaning). p.0) entries) name ≡ true
    entry-among [] name order e = cc
    entry-among (entry ∷ rest) name order e = by_same (same_named name entry.0) e (entry-among rest name order)
      where
        by_same : (b : Bool) → parameter_order (cond b (Some entry.1) (entry_of rest name)) ≡ Some order → (parameter_order (entry_of rest name) ≡ Some order → is_among (map (λ (p : Named × Meaning). p.0) rest) name ≡ true) → (b || is_among (map (λ (p : Named × Meaning). p.0) rest) name) ≡ true
        by_same true e next = refl
        by_same false e next = next e

    rights-nil : (parameters : Exports) (before : List Named) (sides : List Right) (roots : List ℕ) (asked : List Question) → sides ≡ [] → roots ≡ [] → asked ≡ [] → RightsGood parameters before Nil sides roots asked
    rights-nil parameters before sides roots asked e f g =
        record {
          match = none-match flat text known named means implied faces inside context context depths roots asked f g;
          written_for = λ name right found. absurd (never right (subst (λ xs. right_for xs name ≡ Some right) e found));
          left_out = λ name none. (refl, refl);
          placed = tt;
        }
      where
        never : (right : Right) → None ≡ Some right → ⊥
        never right e = cc

    rights-cons : (l : Lexeme) (parameters : Exports) (before : List Named) (left : Lexeme) (s : Span) (form : Form.the_data) (at : Span) (ys rest : Trees) (sides more : List Right) (roots is others : List ℕ) (asked a b : List Question) (i : ℕ)
        → BindsNothing (Form.Replacement left) (Cons (Node form at ys) Nil) → part_of form ≡ Whole
        → is_among before (name_of text.source left) ≡ false → is_among (map (λ (p : Named × Meaning). p.0) parameters) (name_of text.source left) ≡ true
        → is ≡ i ∷ [] → sides ≡ right_of (name_of text.source left) (Cons (Node form at ys) Nil) is ++ more → roots ≡ is ++ others
        → asked ≡ over setting.frame (UseAs left (declared_level (entry_of (face_of text means implied faces flat l).parameters (name_of text.source left))) ∷ []) ++ (a ++ b)
        → PartsMatch flat text known named means implied faces inside context context depths (Cons (Node form at ys) Nil) is a
        → RightsGood parameters (name_of text.source left ∷ before) rest more others b
        → RightsGood parameters before (Cons (Node (Form.Replacement left) s (Cons (Node form at ys) Nil)) rest) sides roots asked
    rights-cons l parameters before left s form at ys rest sides more roots is others asked a b i none whole fresh there one same together joined match later =
        record {
          match = parts-join flat text known named means implied faces inside context context depths (Form.Replacement left) s (Cons (Node form at ys) Nil) rest roots is others asked (over setting.frame (UseAs left (declared_level (entry_of (face_of text means implied faces flat l).parameters (name_of text.source left))) ∷ []) ++ a) b together
              (joined)
              (helper-part flat text known named means implied faces inside context context depths (Form.Replacement left) s (Cons (Node form at ys) Nil) is (over setting.frame (UseAs left (declared_level (entry_of (face_of text means implied faces flat l).parameters (name_of text.source left))) ∷ []) ++ a) refl refl none (record { deep = match.deep; names = match.names }))
              later.match;
          written_for = λ name right found. by_written name right (same_named name (name_of text.source left)) (subst (λ xs. right_for xs name ≡ Some right) first found) (later.written_for name right);
          left_out = λ name found. by_left name (same_named name (name_of text.source left)) (subst (λ xs. right_for xs name ≡ None) first found) (later.left_out name);
          placed = (there, fresh, whole-plain form whole, later.placed);
        }
      where
        first : sides ≡ record { name = name_of text.source left; node = i; at = at } ∷ more
        first = same ∙ ap (λ xs. right_of (name_of text.source left) (Cons (Node form at ys) Nil) xs ++ more) one

        by_written : (name : Named) (right : Right) (t : Bool) → cond t (Some (record { name = name_of text.source left; node = i; at = at })) (right_for more name) ≡ Some right
            → (right_for more name ≡ Some right → (depth_at flat right.node ≡ right_depth text known named (beneath context depths) rest name) × (is_among (left_sides text.source rest) name ≡ true))
            → (depth_at flat right.node ≡ cond t (parts_depth text known named (beneath context depths) (beneath context depths) (Cons (Node form at ys) Nil)) (right_depth text known named (beneath context depths) rest name)) × ((t || is_among (left_sides text.source rest) name) ≡ true)
        by_written name right true e next = (ap (depth_at flat) (its-node right e) ∙ sym (max-zero (depth_at flat i)) ∙ ap (greatest (depth_at flat)) (sym one) ∙ match.deep, refl)
          where
            its-node : (right : Right) → Some (record { name = name_of text.source left; node = i; at = at }) ≡ Some right → right.node ≡ i
            its-node right e = cc
        by_written name right false e next = next e

        by_left : (name : Named) (t : Bool) → cond t (Some (record { name = name_of text.source left; node = i; at = at })) (right_for more name) ≡ None
            → (right_for more name ≡ None → (right_depth text known named (beneath context depths) rest name ≡ name_depth (beneath context depths) name) × (is_among (left_sides text.source rest) name ≡ false))
            → (cond t (parts_depth text known named (beneath context depths) (beneath context depths) (Cons (Node form at ys) Nil)) (right_depth text known named (beneath context depths) rest name) ≡ name_depth (beneath context depths) name) × ((t || is_among (left_sides text.source rest) name) ≡ false)
        by_left name true e next = cc e
        by_left name false e next = next e

    -- one right side
    right-good : (form : Form.the_data) (at : Span) (ys : Trees) (is : List ℕ) (a : List Question) → TreeGood flat text known named means implied faces inside (Node form at ys) → part_of form ≡ Whole → New text seen (inner_names text (Cons (Node form at ys) Nil)) → AreArranged (LeadsBehind flat text known named faces inside) true (Cons (Node form at ys) Nil) → IsReadable text known named means implied faces context (Node form at ys) → AreOperands text means implied faces flat all_parts setting (Cons (Node form at ys) Nil) is a → (i : ℕ) × (is ≡ i ∷ []) × PartsMatch flat text known named means implied faces inside context context depths (Cons (Node form at ys) Nil) is a
    right-good form at ys is a tree whole new arranged readable (first, others, x, y, split, joined, flattened, more) =
        let one = flattened-whole flat text known named means implied faces inside seen stands setting depths round context here form at ys first x whole flattened in (
          one.0,
          split ∙ ap (λ xs. xs ++ others) one.1 ∙ ap (λ xs. one.0 ∷ xs) more.0,
          parts-join flat text known named means implied faces inside context context depths form at ys Nil is first others a x y split joined
              (whole-part flat text known named means implied faces inside seen stands setting depths round context context form at ys one.0 first x tree whole one.1 here (whole-new flat text known named means implied faces inside seen form at ys Nil whole new) (arranged-whole flat text known named means implied faces inside true form at ys Nil whole arranged) readable one.2)
              (none-match flat text known named means implied faces inside context context depths others y more.0 more.1),
        )

    pub rights-good : (l : Lexeme) (parameters : Exports) (rights : Trees) → Everywhere flat text known named means implied faces inside rights → (before : List Named) (sides : List Right) (roots : List ℕ) (asked : List Question) → New text seen (inner_names text rights) → AreArranged (LeadsBehind flat text known named faces inside) true rights → AreReadableRights text known named means implied faces context parameters before rights → AreRights text means implied faces flat setting l rights sides roots asked → RightsGood parameters before rights sides roots asked
    rights-good l parameters Nil below before sides roots asked new arranged readable (e, f, g) = rights-nil parameters before sides roots asked e f g
    rights-good l parameters (Cons (Node (Form.Replacement left) s (Cons (Node form at ys) Nil)) rest) (outer, (tree, inner, nothing), later) before sides roots asked new arranged (whole, fresh, order, readable, more) (is, others, a, b, after, operands, flattened, same, together, joined) =
        let one = right-good form at ys is a tree whole (helper-new flat text known named means implied faces inside seen (Form.Replacement left) s (Cons (Node form at ys) Nil) rest refl new) arranged.0.1 readable operands in
        rights-cons l parameters before left s form at ys rest sides after roots is others asked a b one.0 arranged.0.0 whole fresh
        (entry-among parameters (name_of text.source left) _ order) one.1 same together joined one.2
        (rights-good l parameters rest later (name_of text.source left ∷ before) after others b (rest-new flat text known named means implied faces inside seen (Form.Replacement left) s (Cons (Node form at ys) Nil) rest new) arranged.1 more flattened)
    rights-good l parameters (Cons x rest) below before sides roots asked new arranged readable flattened = absurd readable

    -- each replacement is as deep as what replaces its symbol
    pub replacing-good : (l : Lexeme) (rights : Trees) (sides : List Right) (roots : List ℕ) (before : List Named) (all : Exports) (asked_sides : List Question) → RightsGood all before rights sides roots asked_sides → (constant : Bool) (parameters : Exports) (symbols : List Meaning) (made : List Replacement) (b : List Question) → AreReplacing flat setting.leads setting.frame constant sides l parameters symbols made b → AreImplied context (left_sides text.source rights) parameters symbols → AreEachAsDeep flat text known named (beneath context depths) rights parameters made × (deep_answers flat b ≡ [])
    replacing-good l rights sides roots before all asked_sides good constant [] symbols made b (none, empty) implied_by = (subst (λ xs. AreEachAsDeep flat text known named (beneath context depths) rights [] xs) (sym none) tt, ap (deep_answers flat) empty)
    replacing-good l rights sides roots before all asked_sides good constant (parameter ∷ parameters) symbols [] b replacing implied_by = absurd replacing
    replacing-good l rights sides roots before all asked_sides good constant (parameter ∷ parameters) symbols (r ∷ made) b (rest, most, each) implied_by =
        by_right (right_for sides parameter.0) refl each (is_among (left_sides text.source rights) parameter.0) refl implied_by
        (λ others more by. replacing-good l rights sides roots before all asked_sides good constant parameters others made rest more by)
      where
        by_right : (found : Option Right) → right_for sides parameter.0 ≡ found
            → (elim found as (λ _. Type 0) [
              | Some right ↦ (r.root ≡ right.node) × (b ≡ asks_of flat setting.leads setting.frame constant sides l right.at r parameter ∷ rest) × AreReplacing flat setting.leads setting.frame constant sides l parameters symbols made rest
              | None ↦ HasNode flat r.root (name_node (operator_places (Some parameter.1)) (lead_of setting.leads (slice_get symbols 0) []) [])
                  × (b ≡ asks_of flat setting.leads setting.frame constant sides l l.span r parameter ∷ rest) × AreReplacing flat setting.leads setting.frame constant sides l parameters (drop 1 symbols) made rest
            ])
            → (t : Bool) → is_among (left_sides text.source rights) parameter.0 ≡ t
            → (elim t as (λ _. Type 0) [
              | true ↦ AreImplied context (left_sides text.source rights) parameters symbols
              | false ↦ (meaning : Meaning) × (slice_get symbols 0 ≡ Some meaning) × (meaning_of context parameter.0 ≡ Some meaning)
                  × CanStandFor parameter.1 meaning × AreImplied context (left_sides text.source rights) parameters (drop 1 symbols)
            ])
            → ((others : List Meaning) → AreReplacing flat setting.leads setting.frame constant sides l parameters others made rest → AreImplied context (left_sides text.source rights) parameters others → AreEachAsDeep flat text known named (beneath context depths) rights parameters made × (deep_answers flat rest ≡ []))
            → AreEachAsDeep flat text known named (beneath context depths) rights (parameter ∷ parameters) (r ∷ made) × (deep_answers flat b ≡ [])
        by_right (Some right) e (root, joined, more) true among implied_now next =
            let later = next symbols more implied_now in
            ((ap (depth_at flat) root ∙ (good.written_for parameter.0 right e).0, later.0), ap (deep_answers flat) joined ∙ later.1)
        by_right (Some right) e each false among implied_now next = absurd (both-tests (is_among (left_sides text.source rights) parameter.0) (good.written_for parameter.0 right e).1 among)
        by_right None e each true among implied_now next = absurd (both-tests (is_among (left_sides text.source rights) parameter.0) among (good.left_out parameter.0 e).1)
        by_right None e (there, joined, more) false among (meaning, symbol, known_as, stands_for, implied_rest) next =
            let later = next (drop 1 symbols) more implied_rest in
            let takes = here.orders parameter.0 meaning known_as in
            let fits = lone-fits flat (stands meaning) (behind_meaning known (Some meaning)) meaning (depths meaning) (operator_places (Some parameter.1)) [] (round.deep meaning) (round.parameters meaning) takes stands_for.0.0 (inl refl)
            (meaning-places parameter.1 ∙ ap places_by (sym stands_for.1 ∙ orders-length meaning)) refl in
            let leading : lead_of setting.leads (slice_get symbols 0) [] ≡ lead_by (stands meaning) [] = ap (λ o. lead_of setting.leads o []) symbol ∙ round.leads meaning [] in (
              (
                depth-step flat r.root (name_node (operator_places (Some parameter.1)) (lead_of setting.leads (slice_get symbols 0) []) []) ordered there
                    ∙ ap (λ lead. flat_depth.form_depth flat (depth_at flat) (name_node (operator_places (Some parameter.1)) lead []).form (name_node (operator_places (Some parameter.1)) lead []).parts) leading
                    ∙ fits.deep ∙ max-zero (use_depth (depths meaning []) 0)
                    ∙ ap (λ o. use_depth (reached_by depths o []) 0) (sym known_as)
                    ∙ sym (good.left_out parameter.0 e).0,
                later.0,
              ),
              ap (deep_answers flat) joined ∙ later.1,
            )

  -- ---- the INSTANCE of a module definition

  -- the one INSTANCE among parts, with what is said of it
  record Found (own : Lexeme) (parts : Trees) : Type 0 where
    l : Lexeme
    at : Span
    rights : Trees
    first : instance_in parts ≡ Some (l, rights)
    among : instance_among parts ≡ Some l
    none : BindsNothing (Form.Instance l) rights
    arranged : AreArranged (LeadsBehind flat text known named faces inside) true rights
    leads_behind : LeadsBehind flat text known named faces inside own l
    below : Everywhere flat text known named means implied faces inside rights
    fewer : (m : Meaning) → times text m (inner_names text rights) ≤ times text m (inner_names text parts)
    readable : (context : Context) → IsReadableThrough text known named means implied faces context parts → IsReadableThrough text known named means implied faces context (Cons (Node (Form.Instance l) at rights) Nil)
    flattened : (outside setting : Setting) (name : Lexeme) (count : ℕ) (lead : List Named → Lead) (roots : List ℕ) (asked : List Question) → IsThrough text means implied faces flat outside setting name count parts lead roots asked → IsThrough text means implied faces flat outside setting name count (Cons (Node (Form.Instance l) at rights) Nil) lead roots asked
    deep : (outside context : Context) (depths : Depths) → parts_depth text known named (beneath outside depths) (beneath context depths) parts ≡ depth text known named (beneath context depths) (Node (Form.Instance l) at rights)
    names : (outside context : Context) (depths : Depths) → deep_parts text known named (beneath outside depths) (beneath context depths) parts ≡ deep_names text known named (beneath context depths) (Node (Form.Instance l) at rights)
    grouped : all_grouped parts ≡ []

  found-here : (own l : Lexeme) (at : Span) (rights : Trees) → BindsNothing (Form.Instance l) rights → AreArranged (LeadsBehind flat text known named faces inside) true rights → LeadsBehind flat text known named faces inside own l → Everywhere flat text known named means implied faces inside rights → Found own (Cons (Node (Form.Instance l) at rights) Nil)
  found-here own l at rights none arranged leading below =
      record {
        l = l;
        at = at;
        rights = rights;
        first = refl;
        among = refl;
        none = none;
        arranged = arranged;
        leads_behind = leading;
        below = below;
        fewer = λ m. let e : times text m (inner_names text rights ++ []) ≡ times text m (inner_names text rights) + 0 = times-joins text m (inner_names text rights) [] in omega (arith, e);
        readable = λ context r. r;
        flattened = λ outside setting name count lead roots asked f. f;
        deep = λ outside context depths. max-zero (depth text known named (beneath context depths) (Node (Form.Instance l) at rights));
        names = λ outside context depths. append-nil (deep_names text known named (beneath context depths) (Node (Form.Instance l) at rights));
        grouped = refl;
      }

  -- a parameter in front of it
  found-later : (own : Lexeme) (form : Form.the_data) (s : Span) (parts rest : Trees) → part_of form ≡ Helper → parts ≡ Nil → BindsNothing form parts
      → ((context : Context) → IsReadableThrough text known named means implied faces context (Cons (Node form s parts) rest) → IsReadableThrough text known named means implied faces context rest)
      → ((outside setting : Setting) (name : Lexeme) (count : ℕ) (lead : List Named → Lead) (roots : List ℕ) (asked : List Question) → IsThrough text means implied faces flat outside setting name count (Cons (Node form s parts) rest) lead roots asked → IsThrough text means implied faces flat outside setting name count rest lead roots asked)
      → instance_in (Cons (Node form s parts) rest) ≡ instance_in rest → instance_among (Cons (Node form s parts) rest) ≡ instance_among rest
      → Found own rest → Found own (Cons (Node form s parts) rest)
  found-later own form s parts rest helper empty unbound reads leads skips skips_name found =
      record {
        l = found.l;
        at = found.at;
        rights = found.rights;
        first = skips ∙ found.first;
        among = skips_name ∙ found.among;
        none = found.none;
        arranged = found.arranged;
        leads_behind = found.leads_behind;
        below = found.below;
        fewer = λ m.
            let e : times text m (inner_names text (Cons (Node form s parts) rest)) ≡ times text m (part_names flat text known named means implied faces inside (part_of form) form s parts) + times text m (inner_names text rest) = times-joins text m (part_names flat text known named means implied faces inside (part_of form) form s parts) (inner_names text rest) in
            let l = found.fewer m in omega (arith, e, l);
        readable = λ context r. found.readable context (reads context r);
        flattened = λ outside setting name count lead roots asked f. found.flattened outside setting name count lead roots asked (leads outside setting name count lead roots asked f);
        deep = λ outside context depths. part-deep outside context depths ∙ found.deep outside context depths;
        names = λ outside context depths. part-names outside context depths ∙ found.names outside context depths;
        grouped = ap (λ xs. names_in (is_group form) xs ++ all_grouped rest) empty ∙ no-names (is_group form) ∙ found.grouped;
      }
    where
      no-names : (b : Bool) → names_in b Nil ++ all_grouped rest ≡ all_grouped rest
      no-names true = refl
      no-names false = refl

      -- it has no parts, and so no depth
      plain : (context : Context) (depths : Depths) → (0 ≡ depth text known named (beneath context depths) (Node form s parts)) × ([] ≡ deep_names text known named (beneath context depths) (Node form s parts))
      plain context depths =
          helper-matches flat text known named means implied faces inside context depths form s parts [] [] (helps-out form helper).0 unbound
          (subst (λ xs. PartsMatch flat text known named means implied faces inside context context depths xs [] []) (sym empty) (none-match flat text known named means implied faces inside context context depths [] [] refl refl))

      part-deep : (outside context : Context) (depths : Depths) → parts_depth text known named (beneath outside depths) (beneath context depths) (Cons (Node form s parts) rest) ≡ parts_depth text known named (beneath outside depths) (beneath context depths) rest
      part-deep outside context depths =
          ap (λ b. max (elim b as (λ _. ℕ) [ true ↦ parts_depth text known named (beneath outside depths) (beneath outside depths) parts | false ↦ depth text known named (beneath context depths) (Node form s parts) ]) (parts_depth text known named (beneath outside depths) (beneath context depths) rest)) (inside-set form (helps-out form helper).1)
          ∙ ap (λ n. max n (parts_depth text known named (beneath outside depths) (beneath context depths) rest)) (sym (plain context depths).0)
          ∙ zero-max (parts_depth text known named (beneath outside depths) (beneath context depths) rest)

      part-names : (outside context : Context) (depths : Depths) → deep_parts text known named (beneath outside depths) (beneath context depths) (Cons (Node form s parts) rest) ≡ deep_parts text known named (beneath outside depths) (beneath context depths) rest
      part-names outside context depths =
          ap (λ b. elim b as (λ _. List Lexeme) [ true ↦ deep_parts text known named (beneath outside depths) (beneath outside depths) parts ++ deep_parts text known named (beneath outside depths) (beneath context depths) rest | false ↦ deep_names text known named (beneath context depths) (Node form s parts) ++ deep_parts text known named (beneath outside depths) (beneath context depths) rest ]) (inside-set form (helps-out form helper).1)
          ∙ ap (λ xs. xs ++ deep_parts text known named (beneath outside depths) (beneath context depths) rest) (sym (plain context depths).1)

  find : (own : Lexeme) (parts : Trees) → IsArrangedInstance (LeadsBehind flat text known named faces inside) own parts → Everywhere flat text known named means implied faces inside parts → Found own parts
  find own Nil arranged below = absurd arranged
  find own (Cons (Node (Form.Instance l) at rights) rest) (last, none, arranged, leading) (tree, below, later) =
      subst (λ xs. Found own (Cons (Node (Form.Instance l) at rights) xs)) (sym last) (found-here own l at rights none arranged leading below)
  find own (Cons (Node form s parts) rest) (helper, empty, unbound, arranged) (tree, below, later) =
      found-later own form s parts rest helper empty unbound (λ context r. r) (λ outside setting name count lead roots asked f. f) refl refl (find own rest arranged later)

  -- ---- module definitions

  module _ (seen : List Meaning) (stands : Meaning → Stand) (setting : Setting) (depths : Depths) (context : Context) (round : Round text flat known seen stands setting depths) (here : Usable text flat known seen stands context) (own : Lexeme) (s : Span) (parts : Trees) (below : Everywhere flat text known named means implied faces inside parts) (new : New text seen (within (Node (Form.ModuleDefinition own) s parts))) where
    pub module-good : IsArrangedInstance (LeadsBehind flat text known named faces inside) own parts
        → IsKnownBehind text known named means implied faces own (instance_among parts)
        → IsReadableThrough text known named means implied faces (scope text context (Form.ModuleDefinition own) parts) parts
        → (lead : List Named → Lead) (roots : List ℕ) (asked : List Question)
        → IsThrough text means implied faces flat setting (with_parameters text setting (Form.ModuleDefinition own) parts) own (length (parameters_of text (Form.ModuleDefinition own) parts)) parts lead roots asked
        → DefinedGood flat text known named means implied faces inside ordered context depths (Form.ModuleDefinition own) s parts lead roots asked
    module-good arranged held readable lead roots asked through =
        let found = find own parts arranged below in
        by_found found (found.readable (scope text context (Form.ModuleDefinition own) parts) readable)
        (found.flattened setting (with_parameters text setting (Form.ModuleDefinition own) parts) own (length (parameters_of text (Form.ModuleDefinition own) parts)) lead roots asked through)
      where
        by_found : (found : Found own parts)
            → IsReadableThrough text known named means implied faces (scope text context (Form.ModuleDefinition own) parts) (Cons (Node (Form.Instance found.l) found.at found.rights) Nil)
            → IsThrough text means implied faces flat setting (with_parameters text setting (Form.ModuleDefinition own) parts) own (length (parameters_of text (Form.ModuleDefinition own) parts)) (Cons (Node (Form.Instance found.l) found.at found.rights) Nil) lead roots asked
            → DefinedGood flat text known named means implied faces inside ordered context depths (Form.ModuleDefinition own) s parts lead roots asked
        by_found found (face, symbols, rights) (sides, j, a, b, flattened, (staying, made, there, stay, replacing), leading, joined) =
            let fresh = own-new flat text known named means implied faces inside ordered seen (Form.ModuleDefinition own) s parts new in
            let inner = inner-new flat text known named means implied faces inside ordered seen (Form.ModuleDefinition own) s parts new in
            let seen_now = and_seen text (defined (Form.ModuleDefinition own) parts ++ binders (Form.ModuleDefinition own) parts) seen in
            let stands_now = placed_stands text flat known seen stands setting depths (Form.ModuleDefinition own) parts round fresh in
            let setting_now = with_parameters text setting (Form.ModuleDefinition own) parts in
            let round_now = placed-round text flat known seen stands setting depths (Form.ModuleDefinition own) parts round fresh in
            let here_now = placed-usable text flat known seen stands setting depths (Form.ModuleDefinition own) parts round fresh context refl (λ m never. never) here in
            let context_now = scope text context (Form.ModuleDefinition own) parts in
            let good = rights-good seen_now stands_now setting_now depths round_now context_now here_now found.l (module_of text known named found.l).view.parameters found.rights found.below [] sides roots a
            (new-fewer text (inner_names text parts) (inner_names text found.rights) seen_now found.fewer inner) found.arranged rights flattened in
            let each = replacing-good seen_now stands_now setting_now depths round_now context_now here_now found.l found.rights sides roots [] (module_of text known named found.l).view.parameters a good (face_of text means implied faces flat found.l).is_constant (module_of text known named found.l).view.parameters (implied found.l.span.start) made b
            (subst (λ parameters. AreReplacing flat setting_now.leads setting_now.frame (face_of text means implied faces flat found.l).is_constant sides found.l parameters (implied found.l.span.start) made b) face.parameters replacing) symbols in
            let instance : Instance = record { outer = length setting.frame; parameters = length (parameters_of text (Form.ModuleDefinition own) parts); guards = true; replacements = staying ++ made } in
            let reached = instance-deep flat text known named (beneath context depths) own s parts j instance (orders parts) staying made found.l found.rights (inside (spelled text.source found.l)) there refl (staying-deep 0 (face_of text means implied faces flat found.l).outer staying stay) found.first
            (each-together flat text known named (beneath context_now depths) found.rights (module_of text known named found.l).view.parameters made good.placed each.0) found.leads_behind.deep in
            let instance_part = helper-matches flat text known named means implied faces inside context_now depths (Form.Instance found.l) found.at found.rights roots a refl found.none good.match in
            record {
              stand = Through j (orders parts) (inside (spelled text.source found.l));
              number = j;
              same = ap (λ o. Through j (orders parts) (stands_in text inside o)) (sym found.among);
              leads = module-leads j found.l (inside (spelled text.source found.l)) found.leads_behind.leads leading;
              reached = reached;
              parameters = (ap flat_depth.parameters_of there ∙ parameter-count found.grouped, found.leads_behind.parameters);
              takes = module-takes j found.l (inside (spelled text.source found.l)) found.leads_behind (subst (λ (o : Option Lexeme). IsKnownBehind text known named means implied faces own o) found.among held);
              deep = instance_part.0 ∙ sym (found.deep (reserved text context (Form.ModuleDefinition own) parts) context_now depths) ∙ sym (helper-depth flat text known named means implied faces inside (beneath context depths) (Form.ModuleDefinition own) s parts refl);
              names = ap (deep_answers flat) joined
                  ∙ ap (λ xs. xs ++ deep_answers flat (a ++ b)) (own-name flat text known named means implied faces inside ordered context depths (Form.ModuleDefinition own) s parts own (instance_depth (depth_at flat) (slice_get flat.instances j)) refl (ap (λ r. r.depth) reached.0))
                  ∙ ap (λ xs. written.deep_name text known named (beneath context depths) (Node (Form.ModuleDefinition own) s parts) ++ xs)
                  (asked-joins flat a b ∙ ap (λ xs. deep_answers flat a ++ xs) each.1 ∙ append-nil (deep_answers flat a) ∙ instance_part.1 ∙ sym (found.names (reserved text context (Form.ModuleDefinition own) parts) context_now depths));
            }
          where
            module-leads : (j : ℕ) (l : Lexeme) (inner : Named → Stand) → ((name : Named) (names : List Named) → (faces (spelled text.source l)).leads (name ∷ names) ≡ lead_by (inner name) names) → lead ≡ behind_instance j (face_of text means implied faces flat l) → (names : List Named) → lead names ≡ lead_by (Through j (orders parts) inner) names
            module-leads j l inner same e [] = ap (λ (f : List Named → Lead). f []) e
            module-leads j l inner same e (name ∷ names) = ap (λ (f : List Named → Lead). f (name ∷ names)) e ∙ ap (through_one j) (same name names)

            parameter-count : all_grouped parts ≡ [] → length (parameters_of text (Form.ModuleDefinition own) parts) ≡ length (orders parts)
            parameter-count none =
                length-map (binders (Form.ModuleDefinition own) parts) (meant text)
                ∙ ap (λ xs. length (bound_as as_binding.Parameter (all_placed parts ++ xs))) none
                ∙ ap (λ xs. length (bound_as as_binding.Parameter xs)) (append-nil (all_placed parts))
                ∙ length-map (all_placed parts) _ ∙ sym (length-map (all_placed parts) _)

            module-takes : (j : ℕ) (l : Lexeme) (inner : Named → Stand) → LeadsAs flat text known named faces l inner (behind_module (module_of text known named l).view) → known (declaration text own) ≡ Some (behind_module (module_of text known named l).view) → (m : Meaning) → Among text m (defined (Form.ModuleDefinition own) parts) → TakesAs (Through j (orders parts) inner) (behind_meaning known (Some m)) m
            module-takes j l inner leading is m (inl same) =
                subst (λ x. TakesAs (Through j (orders parts) inner) (behind_meaning known (Some x)) x) same
                (refl, subst (λ (o : Option Behind). (name : Named) (next : Meaning) → entry_of (at_path o []) name ≡ Some next → TakesBehind (inner name) (onward (at_path o) name) next) (sym is) leading.takes)
            module-takes j l inner leading is m (inr none) = absurd none
