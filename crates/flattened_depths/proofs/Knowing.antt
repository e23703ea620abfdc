-- What is known round a tree, and what of it is kept in scopes, with parameters, behind definitions and in a flat module that has more.
use Rattle.std.proofs.Common.{◌≡◌, ℕ, ◌+◌, Bool, true, false, cond, List, [], ◌∷◌, ◌++◌, Option, Some, None, length, map, refl, sym, ap, ◌∙◌, subst, length-append, append-nil, inl, inr, arith}
use Rattle.std.specs.Prelude.{codes, slice_get}
use Rattle.std.specs.Str.{bytes_eq}
use Rattle.tla_symbols.specs.declared.lexeme.Lexeme.{Lexeme}
use Rattle.tla_symbols.specs.declared.lexeme.Span.{Span}
use Rattle.tla_tree.specs.declared.form.Form.TheVariants as Form
use Rattle.tla_tree.specs.Syntax.{Tree, Trees, Node, Nil, Cons}
use Rattle.tla_model.specs.declared.names.Binding.TheVariants as as_binding
use Rattle.tla_model.specs.declared.entity.Entity.TheVariants as entity
use Rattle.tla_model.specs.declared.names.Binder.{Binder}
use Rattle.tla_model.specs.declared.names.Meaning.TheVariants.{BuiltIn, Declared}
use Rattle.tla_model.specs.Tables.{Named, Word, Symbol}
use Rattle.tla_model.specs.Contexts.{bind, built_in, meaning_of, usable}
use Rattle.tla_model.specs.Entities.{Meaning, Text, binding_of, defined, meant, within}
use Rattle.tla_model.specs.Scopes.{behind as behind_context, binders, scope}
use Rattle.module_model.specs.Exports.{Known, behind_meaning}
use Rattle.kind_text.specs.FlatModule.{Extends, FlatModule, IsOrdered, Replacement, places_of}
use Rattle.level_text.specs.Depth.{parameters_of as taken}
use Rattle.tree_kinds.specs.Standing.{Outside}
use Rattle.tree_kinds.specs.Expanding.{module_of, places_at}
use Rattle.tree_kinds.specs.TreeDepths.{Beneath, behind_depth, deep_names, defined_depth, depth, in_scope, no_depths}
use Rattle.flat_trees.specs.Growing.{IsLayoutWithin, IsWithin}
use Rattle.flat_trees.specs.Layouts.{Layout, layout_behind, layout_in, layout_repeating, layout_with, parameters_of, with_places}
use Rattle.flat_trees.specs.Stands.{Stand, Unsaid, Leaf, Place, Defined, Through, Brought}
use Rattle.flat_depths.specs.Depths.{HasDepths, IsAsDeep, beneath_in}
use Rattle.flat_depths.specs.Parts.{AreEachAsDeep, AreReplacedAsDeep}
use Rattle.flat_depths.proofs.Growing.{agrees-kept}
use Rattle.flat_depths.proofs.Replacing.{each-together}
use Rattle.flattened_trees.specs.Leads.{FlatFace, Lead, Setting, behind, repeating, with_parameters}
use Rattle.flattened_trees.specs.Questions.{Question}
use Rattle.flattened_trees.specs.Flattened.{AreReplacing, AreRights, IsDefined, IsFlattened, IsInstance, Right, face_of}
use Rattle.flattened_trees.specs.Readable.{IsReadable, IsReadableDefinition, IsReadableThrough}
use Rattle.flattened_trees.specs.Agreeing.{AreNew, IsFresh, TakesAs, is_seen, lead_by, unsaid_stand}
use Rattle.flattened_depths.specs.Arranged.{AreArranged, BindsNothing, IsArranged, IsArrangedDefinition}
use Rattle.flattened_trees.specs.Answers.{deep_answers}
use Rattle.flattened_depths.specs.Rounds.{IsDefinedAs, IsKnownRound, LeadsBehind, PutsInAsDeep, TakesParameters, first_beneath, first_layout, first_setting, layout_at}
use Rattle.flattened_depths.proofs.Chains.{definition-good}
use Rattle.flattened_depths.proofs.Counting.{and_seen, inner_names, new-from, new-fewer, times-joins, within-counts}
use Rattle.flattened_depths.proofs.Definitions.{DefinedGood}
use Rattle.flattened_depths.proofs.Facts.{TreeMatches, asked-joins, beneath as beneath_at, helper-matches}
use Rattle.flattened_depths.proofs.Instances.{RightsGood, replacing-good, rights-good, staying-deep}
use Rattle.flattened_depths.proofs.Rounds.{OwnName, Round, Usable, behind-round, behind-usable, bound-means, more-round, placed-round, placed-usable, scope-usable}
use Rattle.flattened_depths.proofs.Trees.{all-good, everywhere}

-- before all names only some are built in
built-alone : (name : Named) (meaning : Meaning) → meaning_of built_in name ≡ Some meaning → meaning ≡ BuiltIn
built-alone (Word bytes) meaning e = by_tests (bytes_eq bytes (codes "TRUE")) (bytes_eq bytes (codes "FALSE")) (bytes_eq bytes (codes "BOOLEAN")) (bytes_eq bytes (codes "STRING")) e
  where
    by_tests : (a b c d : Bool) → usable (cond a (Some (Some BuiltIn)) (cond b (Some (Some BuiltIn)) (cond c (Some (Some BuiltIn)) (cond d (Some (Some BuiltIn)) None)))) ≡ Some meaning → meaning ≡ BuiltIn
    by_tests true b c d e = cc
    by_tests false true c d e = cc
    by_tests false false true d e = cc
    by_tests false false false true e = cc
    by_tests false false false false e = cc
built-alone (Symbol op) meaning e = cc

module _ (flat : FlatModule) (known : Known) where
  -- what is known before all names
  pub known-first : IsKnownRound flat known (BuiltIn ∷ []) first_layout first_setting first_beneath
  known-first =
      record {
        leads = record { leads = λ meaning names. refl; places = refl; olds = refl };
        orders = λ name meaning e. subst (λ m. TakesAs (unsaid_stand m) (behind_meaning known (Some m)) m) (sym (built-alone name meaning e)) (tt, refl);
        usable = λ name meaning e. ap (is_seen (BuiltIn ∷ [])) (built-alone name meaning e);
        unsaid = λ meaning e. refl;
        agrees = record { context = refl; depths = none };
        plain = λ meaning e. refl;
        parameters = few;
      }
    where
      none : (meaning : Meaning) → HasDepths flat 0 (unsaid_stand meaning) (no_depths meaning)
      none BuiltIn = refl
      none (Declared (entity.Bound state) callee) = refl
      none (Declared e callee) = tt

      few : (meaning : Meaning) → TakesParameters flat (unsaid_stand meaning)
      few BuiltIn = tt
      few (Declared (entity.Bound state) callee) = tt
      few (Declared e callee) = tt

  -- with one name more
  pub known-bound : (text : Text) (seen : List Meaning) (layout : Layout) (setting : Setting) (around : Beneath) (binder : Binder) → IsKnownRound flat known seen layout setting around → is_seen seen (meant text binder) ≡ true → TakesAs (layout.stands (meant text binder)) (behind_meaning known (Some (meant text binder))) (meant text binder) → IsKnownRound flat known seen (layout_at layout (bind text layout.context binder)) setting (beneath_in around (bind text layout.context binder))
  known-bound text seen layout setting around binder knows there takes =
      record {
        leads = record { leads = knows.leads.leads; places = knows.leads.places; olds = knows.leads.olds };
        orders = λ name meaning e. (case name meaning e).0;
        usable = λ name meaning e. (case name meaning e).1;
        unsaid = knows.unsaid;
        agrees = record { context = refl; depths = knows.agrees.depths };
        plain = knows.plain;
        parameters = knows.parameters;
      }
    where
      case : (name : Named) (meaning : Meaning) → meaning_of (bind text layout.context binder) name ≡ Some meaning → TakesAs (layout.stands meaning) (behind_meaning known (Some meaning)) meaning × (is_seen seen meaning ≡ true)
      case name meaning e = elim (bound-means text (binder ∷ []) layout.context name meaning e) [
        | inl before ↦ (knows.orders name meaning before, knows.usable name meaning before)
        | inr among ↦ elim among [
          | inl same ↦ (subst (λ m. TakesAs (layout.stands m) (behind_meaning known (Some m)) m) same takes, subst (λ m. is_seen seen m ≡ true) same there)
          | inr never ↦ absurd never
        ]
      ]

  -- more names may have been seen
  pub known-more : (seen more : List Meaning) (layout : Layout) (setting : Setting) (around : Beneath) → ((meaning : Meaning) → is_seen seen meaning ≡ true → is_seen more meaning ≡ true) → IsKnownRound flat known seen layout setting around → IsKnownRound flat known more layout setting around
  known-more seen more layout setting around all knows =
      record {
        leads = knows.leads;
        orders = knows.orders;
        usable = λ name m e. all m (knows.usable name m e);
        unsaid = λ m e. knows.unsaid m (unseen m e);
        agrees = knows.agrees;
        plain = λ m e. knows.plain m (unseen m e);
        parameters = knows.parameters;
      }
    where
      unseen : (m : Meaning) → is_seen more m ≡ false → is_seen seen m ≡ false
      unseen m e = by_seen (is_seen seen m) refl
        where
          by_seen : (b : Bool) → is_seen seen m ≡ b → b ≡ false
          by_seen false f = refl
          by_seen true f = let g = all m f in cc

  pub known-repeating : (seen : List Meaning) (layout : Layout) (setting : Setting) (around : Beneath) (olds : List ℕ) → IsKnownRound flat known seen layout setting around → IsKnownRound flat known seen (layout_repeating layout olds) (repeating setting olds) around
  known-repeating seen layout setting around olds knows =
      record {
        leads = record { leads = knows.leads.leads; places = knows.leads.places; olds = refl };
        orders = knows.orders;
        usable = knows.usable;
        unsaid = knows.unsaid;
        agrees = record { context = knows.agrees.context; depths = knows.agrees.depths };
        plain = knows.plain;
        parameters = knows.parameters;
      }

  -- in a flat module that has more
  pub takes-kept : (more : FlatModule) (extends : Extends flat more) (stand : Stand) → IsWithin flat stand → TakesParameters flat stand → TakesParameters more stand
  takes-kept more extends Unsaid there takes = tt
  takes-kept more extends (Leaf kind) there takes = tt
  takes-kept more extends (Place place order) there takes = tt
  takes-kept more extends (Defined d orders) there takes = tt
  takes-kept more extends (Through j orders inner) ((x, at, before), each) takes = (
    ap taken (extends.instances j x at) ∙ sym (ap taken at) ∙ takes.0,
    λ name. takes-kept more extends (inner name) (each name) (takes.1 name),
  )
  takes-kept more extends (Brought j inner) ((x, at, before), there) takes = (ap taken (extends.instances j x at) ∙ sym (ap taken at) ∙ takes.0, takes-kept more extends inner there takes.1)

  pub known-grown : (more : FlatModule) (seen : List Meaning) (layout : Layout) (setting : Setting) (around : Beneath) → Extends flat more → IsOrdered flat → IsLayoutWithin flat layout → IsKnownRound flat known seen layout setting around → IsKnownRound more known seen layout setting around
  known-grown more seen layout setting around extends ordered within knows =
      record {
        leads = knows.leads;
        orders = knows.orders;
        usable = knows.usable;
        unsaid = knows.unsaid;
        agrees = agrees-kept flat more extends ordered layout around within knows.agrees;
        plain = knows.plain;
        parameters = λ m. takes-kept more extends (layout.stands m) (within.stands m) (knows.parameters m);
      }

module _ (flat : FlatModule) (text : Text) (known : Known) where
  round-of : (seen : List Meaning) (layout : Layout) (setting : Setting) (around : Beneath) → IsKnownRound flat known seen layout setting around → Round text flat known seen layout.stands setting around.depths
  round-of seen layout setting around knows = record { leads = knows.leads.leads; unsaid = knows.unsaid; plain = knows.plain; deep = knows.agrees.depths; parameters = knows.parameters }

  usable-of : (seen : List Meaning) (layout : Layout) (setting : Setting) (around : Beneath) → IsKnownRound flat known seen layout setting around → Usable text flat known seen layout.stands layout.context
  usable-of seen layout setting around knows = record { orders = knows.orders; usable = knows.usable }

  known-by : (seen : List Meaning) (layout : Layout) (setting : Setting) (around : Beneath) → layout.places ≡ length setting.frame → layout.olds ≡ setting.olds → around.context ≡ layout.context → Round text flat known seen layout.stands setting around.depths → Usable text flat known seen layout.stands layout.context → IsKnownRound flat known seen layout setting around
  known-by seen layout setting around places olds context round here =
      record {
        leads = record { leads = round.leads; places = places; olds = olds };
        orders = here.orders;
        usable = here.usable;
        unsaid = round.unsaid;
        agrees = record { context = context; depths = round.deep };
        plain = round.plain;
        parameters = round.parameters;
      }

  -- ---- what is kept

  -- in the scope of a form that binds names
  pub known-scope : (named : List ℕ → Outside) (seen : List Meaning) (layout : Layout) (setting : Setting) (around : Beneath) (state : Bool) (form : Form.the_data) (parts : Trees) → IsKnownRound flat known seen layout setting around → binding_of form ≡ as_binding.Bound state → AreNew seen (map (meant text) (defined form parts ++ binders form parts)) → IsKnownRound flat known (map (meant text) (defined form parts ++ binders form parts) ++ seen) (layout_in text layout form parts) setting (in_scope text known named around form parts)
  known-scope named seen layout setting around state form parts knows bound fresh =
      let round = round-of seen layout setting around knows in
      let new = new-from text (defined form parts ++ binders form parts) seen fresh in
      known-by (and_seen text (defined form parts ++ binders form parts) seen) (layout_in text layout form parts) setting (in_scope text known named around form parts) knows.leads.places knows.leads.olds
      (ap (λ context. scope text context form parts) knows.agrees.context)
      (more-round text flat known (defined form parts ++ binders form parts) seen layout.stands setting around.depths round)
      (scope-usable text flat known seen layout.stands setting around.depths layout.context state form parts bound round (usable-of seen layout setting around knows) new)

  no-own : (form : Form.the_data) → binding_of form ≡ as_binding.Parameter → (m : Meaning) → OwnName text flat known form m → ⊥
  no-own (Form.FunctionDefinition l) e m same = cc e
  no-own form e m same = same

  -- with the parameters of a form
  pub known-parameters : (named : List ℕ → Outside) (seen : List Meaning) (layout : Layout) (setting : Setting) (around : Beneath) (form : Form.the_data) (parts : Trees) → IsKnownRound flat known seen layout setting around → binding_of form ≡ as_binding.Parameter → AreNew seen (map (meant text) (defined form parts ++ binders form parts)) → IsKnownRound flat known (map (meant text) (defined form parts ++ binders form parts) ++ seen) (layout_with text layout form parts) (with_parameters text setting form parts) (in_scope text known named around form parts)
  known-parameters named seen layout setting around form parts knows placed fresh =
      let round = round-of seen layout setting around knows in
      let new = new-from text (defined form parts ++ binders form parts) seen fresh in
      subst (λ (place : ℕ). IsKnownRound flat known (map (meant text) (defined form parts ++ binders form parts) ++ seen) (record { context = scope text layout.context form parts; stands = with_places layout.stands (parameters_of text form parts) place; places = layout.places + length (parameters_of text form parts); olds = layout.olds }) (with_parameters text setting form parts) (in_scope text known named around form parts)) (sym knows.leads.places)
      (known-by (and_seen text (defined form parts ++ binders form parts) seen) (record { context = scope text layout.context form parts; stands = with_places layout.stands (parameters_of text form parts) (length setting.frame); places = layout.places + length (parameters_of text form parts); olds = layout.olds }) (with_parameters text setting form parts) (in_scope text known named around form parts)
      (ap (λ n. n + length (parameters_of text form parts)) knows.leads.places ∙ sym (length-append setting.frame (parameters_of text form parts))) knows.leads.olds
      (ap (λ context. scope text context form parts) knows.agrees.context)
      (placed-round text flat known seen layout.stands setting around.depths form parts round new)
      (placed-usable text flat known seen layout.stands setting around.depths form parts round new layout.context placed (no-own form placed) (usable-of seen layout setting around knows)))

module _ (flat : FlatModule) (text : Text) (known : Known) (named : List ℕ → Outside) (means : ℕ → Option Meaning) (implied : ℕ → List Meaning) (faces : List ℕ → FlatFace) (inside : List ℕ → Named → Stand) (ordered : IsOrdered flat) (seen : List Meaning) (layout : Layout) (setting : Setting) (around : Beneath) (knows : IsKnownRound flat known seen layout setting around) where
  -- ---- trees

  tree-matches : (x : Tree) (i : ℕ) (asked : List Question) → IsFresh text seen x → IsArranged (LeadsBehind flat text known named faces inside) x → IsReadable text known named means implied faces layout.context x → IsFlattened text means implied faces flat setting x i asked → TreeMatches flat text known named means implied faces inside layout.context around.depths x i asked
  tree-matches x i asked fresh arranged readable flattened =
      all-good flat text known named means implied faces inside ordered x seen layout.stands setting around.depths layout.context i asked (round-of flat text known seen layout setting around knows) (usable-of flat text known seen layout setting around knows)
      (new-from text (within x) seen fresh) arranged readable flattened

  pub tree-deep : (x : Tree) (i : ℕ) (asked : List Question) → IsFresh text seen x → IsArranged (LeadsBehind flat text known named faces inside) x → IsReadable text known named means implied faces layout.context x → IsFlattened text means implied faces flat setting x i asked → IsAsDeep flat text known named around i x
  tree-deep x i asked fresh arranged readable flattened =
      (tree-matches x i asked fresh arranged readable flattened).deep ∙ ap (λ context. depth text known named (beneath_at context around.depths) x) (sym knows.agrees.context)

  pub tree-places : (x : Tree) (i : ℕ) (asked : List Question) → IsFresh text seen x → IsArranged (LeadsBehind flat text known named faces inside) x → IsReadable text known named means implied faces layout.context x → IsFlattened text means implied faces flat setting x i asked → places_of (slice_get flat.nodes i) ≡ places_at text known named layout.context x
  tree-places x i asked fresh arranged readable flattened = (tree-matches x i asked fresh arranged readable flattened).places

  pub tree-asked : (x : Tree) (i : ℕ) (asked : List Question) → IsFresh text seen x → IsArranged (LeadsBehind flat text known named faces inside) x → IsReadable text known named means implied faces layout.context x → IsFlattened text means implied faces flat setting x i asked → deep_answers flat asked ≡ deep_names text known named around x
  tree-asked x i asked fresh arranged readable flattened =
      (tree-matches x i asked fresh arranged readable flattened).names ∙ ap (λ context. deep_names text known named (beneath_at context around.depths) x) (sym knows.agrees.context)

  -- ---- definitions

  definition-matches : (form : Form.the_data) (s : Span) (parts : Trees) (lead : List Named → Lead) (roots : List ℕ) (asked : List Question) → IsFresh text seen (Node form s parts) → IsArrangedDefinition (LeadsBehind flat text known named faces inside) (Node form s parts) → IsReadableDefinition text known named means implied faces layout.context (Node form s parts) → IsDefined text means implied faces flat setting (Node form s parts) lead roots asked → DefinedGood flat text known named means implied faces inside ordered layout.context around.depths form s parts lead roots asked
  definition-matches form s parts lead roots asked fresh arranged readable flattened =
      definition-good flat text known named means implied faces inside ordered seen layout.stands setting around.depths layout.context (round-of flat text known seen layout setting around knows) (usable-of flat text known seen layout setting around knows)
      form s parts lead roots asked (everywhere flat text known named means implied faces inside ordered parts) (new-from text (within (Node form s parts)) seen fresh) arranged readable flattened

  pub definition-asked : (x : Tree) (lead : List Named → Lead) (roots : List ℕ) (asked : List Question) → IsFresh text seen x → IsArrangedDefinition (LeadsBehind flat text known named faces inside) x → IsReadableDefinition text known named means implied faces layout.context x → IsDefined text means implied faces flat setting x lead roots asked → deep_answers flat asked ≡ deep_names text known named around x
  definition-asked (Node form s parts) lead roots asked fresh arranged readable flattened =
      (definition-matches form s parts lead roots asked fresh arranged readable flattened).names ∙ ap (λ context. deep_names text known named (beneath_at context around.depths) (Node form s parts)) (sym knows.agrees.context)

  pub definition-known : (x : Tree) (lead : List Named → Lead) (roots : List ℕ) (asked : List Question) → IsFresh text seen x → IsArrangedDefinition (LeadsBehind flat text known named faces inside) x → IsReadableDefinition text known named means implied faces layout.context x → IsDefined text means implied faces flat setting x lead roots asked → (number : ℕ) × IsDefinedAs flat text known named faces inside seen layout setting around x lead roots number
  definition-known (Node form s parts) lead roots asked fresh arranged readable flattened =
      let good = definition-matches form s parts lead roots asked fresh arranged readable flattened in
      let round = round-of flat text known seen layout setting around knows in
      let reached = subst (λ context. HasDepths flat 0 good.stand (defined_depth text known named (beneath_at context around.depths) (Node form s parts))) (sym knows.agrees.context) good.reached in
      let new = new-fewer text (within (Node form s parts)) (defined form parts) seen (λ m. let e = within-counts text m form s parts in let j = times-joins text m (defined form parts) (binders form parts) in omega (arith, e, j)) (new-from text (within (Node form s parts)) seen fresh) in
      let stand_behind = behind-round text flat known seen layout.stands setting around.depths form s parts good.stand lead (defined_depth text known named around (Node form s parts)) round new good.leads reached good.parameters in
      let use_behind = behind-usable text flat known seen layout.stands setting around.depths form s parts good.stand lead (defined_depth text known named around (Node form s parts)) round new layout.context good.takes (usable-of flat text known seen layout setting around knows) in
      let behind_it = known-by flat text known (and_seen text (defined form parts) seen) (layout_behind text layout (Node form s parts) good.stand) (behind text setting (Node form s parts) lead) (behind_depth text known named around (Node form s parts) (defined_depth text known named around (Node form s parts)))
      knows.leads.places knows.leads.olds (ap (λ context. behind_context text context (Node form s parts)) knows.agrees.context) stand_behind use_behind in (
        good.number,
        record {
          leads = λ names. good.leads names ∙ ap (λ stand. lead_by stand names) good.same;
          reached = subst (λ stand. HasDepths flat 0 stand (defined_depth text known named around (Node form s parts))) good.same reached;
          behind = subst (λ stand. IsKnownRound flat known (and_seen text (defined form parts) seen) (layout_behind text layout (Node form s parts) stand) (behind text setting (Node form s parts) lead) (behind_depth text known named around (Node form s parts) (defined_depth text known named around (Node form s parts)))) good.same behind_it;
          deep = good.deep ∙ ap (λ context. depth text known named (beneath_at context around.depths) (Node form s parts)) (sym knows.agrees.context);
        },
      )

  -- ---- an INSTANCE

  module _ (l : Lexeme) (s : Span) (rights : Trees) (fresh : IsFresh text seen (Node (Form.Instance l) s rights)) (none : BindsNothing (Form.Instance l) rights) (arranged : AreArranged (LeadsBehind flat text known named faces inside) true rights) (readable : IsReadableThrough text known named means implied faces layout.context (Cons (Node (Form.Instance l) s rights) Nil)) where
    rights-known : (sides : List Right) (roots : List ℕ) (a : List Question) → AreRights text means implied faces flat setting l rights sides roots a → RightsGood flat text known named means implied faces inside ordered seen layout.stands setting around.depths (round-of flat text known seen layout setting around knows) layout.context (usable-of flat text known seen layout setting around knows) (module_of text known named l).view.parameters [] rights sides roots a
    rights-known sides roots a flattened =
        rights-good flat text known named means implied faces inside ordered seen layout.stands setting around.depths (round-of flat text known seen layout setting around knows) layout.context (usable-of flat text known seen layout setting around knows) l (module_of text known named l).view.parameters rights (everywhere flat text known named means implied faces inside ordered rights) [] sides roots a
        (new-fewer text (within (Node (Form.Instance l) s rights)) (inner_names text rights) seen (λ m. let e = within-counts text m (Form.Instance l) s rights in omega (arith, e)) (new-from text (within (Node (Form.Instance l) s rights)) seen fresh)) arranged readable.2 flattened

    each-known : (sides : List Right) (roots : List ℕ) (a b : List Question) (made : List Replacement) → AreRights text means implied faces flat setting l rights sides roots a → AreReplacing flat setting.leads setting.frame (face_of text means implied faces flat l).is_constant sides l (face_of text means implied faces flat l).parameters (implied l.span.start) made b → AreEachAsDeep flat text known named (beneath_at layout.context around.depths) rights (module_of text known named l).view.parameters made × (deep_answers flat b ≡ [])
    each-known sides roots a b made flattened replacing =
        replacing-good flat text known named means implied faces inside ordered seen layout.stands setting around.depths (round-of flat text known seen layout setting around knows) layout.context (usable-of flat text known seen layout setting around knows) l rights sides roots [] (module_of text known named l).view.parameters a (rights-known sides roots a flattened) (face_of text means implied faces flat l).is_constant (module_of text known named l).view.parameters (implied l.span.start) made b
        (subst (λ parameters. AreReplacing flat setting.leads setting.frame (face_of text means implied faces flat l).is_constant sides l parameters (implied l.span.start) made b) readable.0.parameters replacing) readable.1

    pub instance-known : (outer count : ℕ) (guards : Bool) (sides : List Right) (roots : List ℕ) (j : ℕ) (a b : List Question) → AreRights text means implied faces flat setting l rights sides roots a → IsInstance text means implied faces flat setting outer count guards l sides j b → PutsInAsDeep flat text known named around l rights j
    instance-known outer count guards sides roots j a b flattened (staying, made, there, stay, replacing) =
        record {
          instance = record { outer = outer; parameters = count; guards = guards; replacements = staying ++ made };
          staying = staying;
          made = made;
          there = there;
          replacements = refl;
          plain = staying-deep flat text known named means implied faces inside ordered 0 (face_of text means implied faces flat l).outer staying stay;
          deep = subst (λ context. AreReplacedAsDeep flat text known named (beneath_at context around.depths) made l rights) (sym knows.agrees.context)
              (each-together flat text known named (beneath_at layout.context around.depths) rights (module_of text known named l).view.parameters made (rights-known sides roots a flattened).placed (each-known sides roots a b made flattened replacing).0);
        }

    pub instance-asked : (outer count : ℕ) (guards : Bool) (sides : List Right) (roots : List ℕ) (j : ℕ) (a b : List Question) → AreRights text means implied faces flat setting l rights sides roots a → IsInstance text means implied faces flat setting outer count guards l sides j b → deep_answers flat (a ++ b) ≡ deep_names text known named around (Node (Form.Instance l) s rights)
    instance-asked outer count guards sides roots j a b flattened (staying, made, there, stay, replacing) =
        asked-joins flat a b ∙ ap (λ xs. deep_answers flat a ++ xs) (each-known sides roots a b made flattened replacing).1 ∙ append-nil (deep_answers flat a)
        ∙ (helper-matches flat text known named means implied faces inside layout.context around.depths (Form.Instance l) s rights roots a refl none (rights-known sides roots a flattened).match).1
        ∙ ap (λ context. deep_names text known named (beneath_at context around.depths) (Node (Form.Instance l) s rights)) (sym knows.agrees.context)
