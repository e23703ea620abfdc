-- How deep the names are behind modules that are extended.
use Rattle.std.proofs.Common.{◌≡◌, ℕ, false, List, [], ◌∷◌, ◌++◌, Option, Some, None, map, refl, sym, ap, ◌∙◌, subst}
use Rattle.std.specs.Prelude.{max, slice_get}
use Rattle.std.specs.List.{AllByRecursion}
use Rattle.std.proofs.Math.Nat.{zero-max}
use Rattle.tla_symbols.specs.declared.lexeme.Lexeme.{Lexeme}
use Rattle.tla_model.specs.Contexts.{Context, meaning_of}
use Rattle.tla_model.specs.Entities.{Meaning, Text}
use Rattle.tla_model.specs.Lexemes.{spelled}
use Rattle.tla_model.specs.Tables.{Named}
use Rattle.module_scope.specs.Environments.{Scope}
use Rattle.module_model.specs.Exports.{Exports, Known, behind_meaning, exported}
use Rattle.kind_text.specs.FlatModule.{FlatModule, IsOrdered, Replacement}
use Rattle.level_text.specs.Depth.{depth as depth_at, greatest, parameters_of, replaced_depth}
use Rattle.tree_kinds.specs.Standing.{Outside, name_among, operator_places}
use Rattle.tree_kinds.specs.TreeDepths.{Depths, coming_depth, with_entry_depths}
use Rattle.module_kinds.specs.ModuleKinds.{extended_depths, named_in}
use Rattle.flat_trees.specs.Stands.{Stand, Unsaid}
use Rattle.flat_trees.specs.Layouts.{coming_stand, with_brought}
use Rattle.flat_kinds.specs.Readings.{BringNone, Extension, extended_entries, extended_stands}
use Rattle.flat_depths.specs.Depths.{HaveDepths}
use Rattle.flat_depths.proofs.Agreeing.{extended-deep}
use Rattle.flat_depths.proofs.Definitions.{staying-plain}
use Rattle.flattened_trees.specs.Agreeing.{TakesAs, TakesBehind, is_seen}
use Rattle.flattened_trees.specs.Leads.{FlatFace, Leads, Setting}
use Rattle.flattened_trees.specs.NodeForms.{name_node}
use Rattle.flattened_depths.specs.Rounds.{TakesParameters}
use Rattle.flattened_depths.proofs.Instances.{staying-deep}
use Rattle.flattened_units.specs.Units.{AreExtended, AreShared, IsExtension, face_in, meanings_of, with_brought as with_brought_leads}
use Rattle.module_meanings.specs.Faces.{IsExtendedBy, IsPlaced}
use Rattle.module_meanings.specs.Following.{LeadsBy}
use Rattle.module_meanings.specs.Premises.{AllCome, extended_meanings}
use Rattle.module_meanings.proofs.Contexts.{unseen-parts}
use Rattle.module_meanings.proofs.Extending.{unseen-passing}
use Rattle.module_meanings.proofs.Leads.{brought-lead}
use Rattle.module_meanings.proofs.Units.{comes-takes}
use Rattle.module_answers.proofs.Nested.{AllLead}

-- what no module brings that is extended stands as before
pub none-brought : (text : Text) (outsides : List ℕ → Outside) (words : List ℕ) (modules : Scope Outside) (ls : List Lexeme) (es : List Extension) (stands : Meaning → Stand) (m : Meaning) → BringNone text outsides words modules ls m → extended_stands text outsides words modules stands ls es m ≡ stands m
none-brought text outsides words modules [] es stands m none = refl
none-brought text outsides words modules (l ∷ rest) [] stands m none = refl
none-brought text outsides words modules (l ∷ rest) (e ∷ more) stands m none =
    none-brought text outsides words modules rest more (with_brought stands (extended_entries text outsides words modules l) e.number e.inner) m none.1 ∙ ap (coming_stand e.number e.inner (stands m)) none.0

module _ (flat : FlatModule) (ordered : IsOrdered flat) where
  -- replacements that have no depth, together
  all-plain : (rs : List Replacement) → AllByRecursion (λ (r : Replacement). depth_at flat r.root ≡ 0) rs → greatest (depth_at flat) (map (λ (r : Replacement). r.root) rs) ≡ 0
  all-plain [] all = refl
  all-plain (r ∷ rest) all =
      ap (λ n. max n (greatest (depth_at flat) (map (λ (q : Replacement). q.root) rest))) all.0 ∙ zero-max (greatest (depth_at flat) (map (λ (q : Replacement). q.root) rest)) ∙ all-plain rest all.1

  both-plain : (a b : List Replacement) → AllByRecursion (λ (r : Replacement). depth_at flat r.root ≡ 0) a → AllByRecursion (λ (r : Replacement). depth_at flat r.root ≡ 0) b → AllByRecursion (λ (r : Replacement). depth_at flat r.root ≡ 0) (a ++ b)
  both-plain [] b all others = others
  both-plain (r ∷ rest) b all others = (all.0, both-plain rest b all.1 others)

  -- symbols that are the symbols here
  shared-plain : (leads symbols : Leads) (parameters : Exports) (made : List Replacement) → AreShared flat leads parameters made → AllByRecursion (λ (m : Meaning). IsPlaced symbols m × (leads m [] ≡ symbols m [])) (map (λ (p : Named × Meaning). p.1) parameters) → AllByRecursion (λ (r : Replacement). depth_at flat r.root ≡ 0) made
  shared-plain leads symbols [] [] shared placed = tt
  shared-plain leads symbols [] (r ∷ made) shared placed = absurd shared
  shared-plain leads symbols (p ∷ ps) [] shared placed = absurd shared
  shared-plain leads symbols (p ∷ ps) (r ∷ made) (node, most, shared) ((placed, same), others) = (
    staying-plain flat r (name_node (operator_places (Some p.1)) (leads p.1 []) []) placed.0 ordered node
        (ap (λ lead. (name_node (operator_places (Some p.1)) lead []).form) (same ∙ placed.1))
        (ap (λ lead. (name_node (operator_places (Some p.1)) lead []).parts) (same ∙ placed.1)),
    shared-plain leads symbols ps made shared others,
  )

module _ (flat : FlatModule) (ordered : IsOrdered flat) (text : Text) (means : ℕ → Option Meaning) (implied : ℕ → List Meaning) (files : List ℕ → FlatFace) (outsides : List ℕ → Outside) (words : List ℕ) (known : Known) (context : Context) (modules : Scope Outside) (faces : Scope FlatFace) (setting : Setting) (symbols : Leads) where
  abbrev face-of : Lexeme → FlatFace
  face-of l = face_in flat text means implied files outsides words faces (spelled text.source l)

  abbrev outside-of : Lexeme → Outside
  outside-of l = named_in text outsides words modules (spelled text.source l)

  abbrev IsEachGiven : Lexeme → Type 0
  IsEachGiven l = IsExtendedBy flat setting.leads symbols (face-of l) (outside-of l) × AllCome known context (outside-of l).view (extended_entries text outsides words modules l)

  -- the instance of an extended module adds no depth
  extension-plain : (l : Lexeme) (j : ℕ) → IsExtendedBy flat setting.leads symbols (face-of l) (outside-of l) → IsExtension flat setting (face-of l) j → replaced_depth (depth_at flat) (slice_get flat.instances j) ≡ 0
  extension-plain l j by (staying, made, there, stay, shared) =
      ap (replaced_depth (depth_at flat)) there
      ∙ all-plain flat ordered (staying ++ made)
      (both-plain flat ordered staying made
      (staying-deep flat text known (named_in text outsides words modules) means implied (face_in flat text means implied files outsides words faces) (λ name n. Unsaid) ordered 0 (face-of l).outer staying stay)
      (shared-plain flat ordered setting.leads symbols (outside-of l).view.parameters made (subst (λ ps. AreShared flat setting.leads ps made) by.parameters shared) by.placed))

  -- stands to which names lead behind modules that are extended, as deep as what stands there
  pub record ExtendedDeep (stands : Meaning → Stand) (depths : Depths) (ls : List Lexeme) (next : Leads) : Type 0 where
    pub final : Meaning → Stand
    pub leads : LeadsBy final next
    pub deep : HaveDepths flat final (extended_depths text outsides words modules depths ls)
    pub parameters : (m : Meaning) → TakesParameters flat (final m)
    pub takes :
        (used : Named) (m : Meaning) → meaning_of context used ≡ Some m
        → (BringNone text outsides words modules ls m → TakesAs (stands m) (behind_meaning known (Some m)) m)
        → TakesAs (final m) (behind_meaning known (Some m)) m
    pub unsaid : (m : Meaning) → is_seen (extended_meanings text outsides words modules ls) m ≡ false → final m ≡ stands m
    pub plain : (m : Meaning) → is_seen (extended_meanings text outsides words modules ls) m ≡ false → extended_depths text outsides words modules depths ls m [] ≡ depths m []

  pub all-extended-deep : (ls : List Lexeme) (stands : Meaning → Stand) (depths : Depths) (leads next : Leads) → LeadsBy stands leads → HaveDepths flat stands depths → ((m : Meaning) → TakesParameters flat (stands m)) → AllByRecursion IsEachGiven ls → AllLead flat text means implied files outsides words known modules faces ls → AreExtended flat text means implied files outsides words modules faces setting leads ls next → ExtendedDeep stands depths ls next
  all-extended-deep [] stands depths leads next all have few each deep is =
      record {
        final = stands;
        leads = subst (λ (l : Leads). LeadsBy stands l) (sym is) all;
        deep = have;
        parameters = few;
        takes = λ used m e takes. takes tt;
        unsaid = λ m none. refl;
        plain = λ m none. refl;
      }
  all-extended-deep (l ∷ rest) stands depths leads next all have few each deep (j, is, more) =
      let face = face-of l in
      let outside = outside-of l in
      let entries = extended_entries text outsides words modules l in
      let inner = deep.0.0 in
      let names = deep.0.1 in
      let others =
      all-extended-deep rest (with_brought stands entries j inner) (with_entry_depths depths entries outside.depths) (with_brought_leads leads entries j face) next
      (brought-lead stands leads entries j face inner all names.leads)
      (extended-deep flat j outside inner entries stands depths (extension-plain l j each.0.0 is) names.deep have)
      (λ m. by_entry j inner (ap parameters_of is.2) names.parameters m (name_among entries m)) each.1 deep.1 more in
      record {
        final = others.final;
        leads = others.leads;
        deep = others.deep;
        parameters = others.parameters;
        takes = λ used m e takes. others.takes used m e (λ none. by_name j inner m (λ n found. comes-takes known outside.view n m inner (each.0.1 used m n e found) names.takes) (λ first. takes (first, none)) (name_among entries m) refl);
        unsaid = λ m none. let parts = unseen-parts (meanings_of (exported outside.view)) (extended_meanings text outsides words modules rest) m none in
            others.unsaid m parts.1 ∙ ap (coming_stand j inner (stands m)) (unseen-passing (exported outside.view) m parts.0);
        plain = λ m none. let parts = unseen-parts (meanings_of (exported outside.view)) (extended_meanings text outsides words modules rest) m none in
            others.plain m parts.1 ∙ ap (λ found. coming_depth outside.depths (depths m []) found []) (unseen-passing (exported outside.view) m parts.0);
      }
    where
      by_entry : (j : ℕ) (inner : Named → Stand) → parameters_of (slice_get flat.instances j) ≡ 0 → ((name : Named) → TakesParameters flat (inner name)) → (m : Meaning) (found : Option Named) → TakesParameters flat (coming_stand j inner (stands m) found)
      by_entry j inner e taken m None = few m
      by_entry j inner e taken m (Some name) = (e, taken name)

      by_name : (j : ℕ) (inner : Named → Stand) (m : Meaning) → ((n : Named) → name_among (extended_entries text outsides words modules l) m ≡ Some n → TakesBehind (inner n) (behind_meaning known (Some m)) m) → (name_among (extended_entries text outsides words modules l) m ≡ None → TakesAs (stands m) (behind_meaning known (Some m)) m) → (o : Option Named) → name_among (extended_entries text outsides words modules l) m ≡ o → TakesAs (coming_stand j inner (stands m) o) (behind_meaning known (Some m)) m
      by_name j inner m comes old (Some n) found = comes n found
      by_name j inner m comes old None found = old found
