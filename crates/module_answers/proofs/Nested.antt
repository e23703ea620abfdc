-- Nested modules that can be named lead where their names stand, as deep as outside of them.
use Rattle.std.proofs.Common.{◌≡◌, ℕ, Bool, true, false, cond, List, [], ◌∷◌, ◌++◌, Option, Some, None, is_some, refl, subst}
use Rattle.std.specs.List.{AllByRecursion}
use Rattle.std.specs.Str.{bytes_eq}
use Rattle.tla_symbols.specs.declared.lexeme.Lexeme.{Lexeme}
use Rattle.unit_grammar.specs.Units.{UnitTree}
use Rattle.tla_model.specs.Entities.{Meaning, Text}
use Rattle.tla_model.specs.Lexemes.{spelled}
use Rattle.tla_model.specs.Tables.{Named, added}
use Rattle.module_scope.specs.Environments.{Environment, Scope, begun, ended, meaning as module_meaning}
use Rattle.module_model.specs.Exports.{Known, behind_instance, entry_of, onward}
use Rattle.kind_text.specs.FlatModule.{FlatModule}
use Rattle.tree_kinds.specs.Standing.{Outside}
use Rattle.module_kinds.specs.ModuleKinds.{KindState, known_at, module_under, named, named_in, nowhere as no_module}
use Rattle.flat_trees.specs.Stands.{Stand, Unsaid}
use Rattle.flat_depths.specs.Depths.{IsDeepModule}
use Rattle.flattened_trees.specs.Agreeing.{TakesBehind, lead_by}
use Rattle.flattened_trees.specs.Leads.{FlatFace}
use Rattle.flattened_depths.specs.Rounds.{LeadsAs, LeadsBehind, TakesParameters}
use Rattle.flattened_units.specs.Units.{Reader, face_in, face_under, no_face}
use Rattle.module_answers.specs.Deep.{IsDeepBehind, IsDeepBehindBy, IsDeepFile, IsDeepFileBy}

module _ (flat : FlatModule) where
  -- the names of a module lead where these stand, as deep as outside of it, and take what it has behind an instance
  pub record IsDeepFace (face : FlatFace) (outside : Outside) : Type 0 where
    pub inner : Named → Stand
    pub leads : (name : Named) (names : List Named) → face.leads (name ∷ names) ≡ lead_by (inner name) names
    pub deep : IsDeepModule flat inner outside
    pub parameters : (name : Named) → TakesParameters flat (inner name)
    pub takes : (name : Named) (next : Meaning) → entry_of (behind_instance outside.view []) name ≡ Some next → TakesBehind (inner name) (onward (behind_instance outside.view) name) next

  -- a nested module that can be named is so, and so is the name of one round a place
  abbrev IsDeepNested : Option Outside → Option FlatFace → Type 0
  IsDeepNested None None = Unit {0}
  IsDeepNested (Some outside) (Some face) = IsDeepFace face outside
  IsDeepNested _ _ = ⊥

  -- the same of each that can be named
  abbrev pub AreDeepNested : Environment Outside → Environment FlatFace → Type 0
  AreDeepNested [] [] = Unit {0}
  AreDeepNested (m ∷ modules) (f ∷ faces) = (m.0 ≡ f.0) × IsDeepNested m.1 f.1 × AreDeepNested modules faces
  AreDeepNested _ _ = ⊥

  -- and of those that can be named behind each nested module round a place
  abbrev pub AreRoundDeep : List (List ℕ × Environment Outside) → List (List ℕ × Environment FlatFace) → Type 0
  AreRoundDeep [] [] = Unit {0}
  AreRoundDeep (m ∷ modules) (f ∷ faces) = (m.0 ≡ f.0) × AreDeepNested m.1 f.1 × AreRoundDeep modules faces
  AreRoundDeep _ _ = ⊥

  -- what is known of modules that can be named at a place
  abbrev pub AllNestedDeep : Scope Outside → Scope FlatFace → Type 0
  AllNestedDeep modules faces = AreDeepNested modules.here faces.here × AreRoundDeep modules.round faces.round

  -- ---- modules by their names

  -- a name means the same to both
  abbrev AreBothDeep : Option (Option Outside) → Option (Option FlatFace) → Type 0
  AreBothDeep None None = Unit {0}
  AreBothDeep (Some outside) (Some face) = IsDeepNested outside face
  AreBothDeep _ _ = ⊥

  both-deep : (modules : Environment Outside) (faces : Environment FlatFace) (name : List ℕ) → AreDeepNested modules faces → AreBothDeep (module_meaning modules name) (module_meaning faces name)
  both-deep [] [] name all = tt
  both-deep (m ∷ modules) (f ∷ faces) name all =
      subst (λ key. AreBothDeep (cond (bytes_eq name m.0) (Some m.1) (module_meaning modules name)) (cond (bytes_eq name key) (Some f.1) (module_meaning faces name))) all.0
      (by_name (bytes_eq name m.0) (both-deep modules faces name all.2))
    where
      by_name : (b : Bool) → AreBothDeep (module_meaning modules name) (module_meaning faces name) → AreBothDeep (cond b (Some m.1) (module_meaning modules name)) (cond b (Some f.1) (module_meaning faces name))
      by_name true others = all.1
      by_name false others = others
  both-deep [] (f ∷ faces) name all = absurd all
  both-deep (m ∷ modules) [] name all = absurd all

  behind-all : (modules : Environment Outside) (faces : Environment FlatFace) (name : List ℕ) (outside : Option Outside) (face : Option FlatFace) → AreDeepNested modules faces → IsDeepNested outside face → AreDeepNested (modules ++ (name, outside) ∷ []) (faces ++ (name, face) ∷ [])
  behind-all [] [] name outside face all one = (refl, one, tt)
  behind-all (m ∷ modules) (f ∷ faces) name outside face all one = (all.0, all.1, behind-all modules faces name outside face all.2 one)
  behind-all [] (f ∷ faces) name outside face all one = absurd all
  behind-all (m ∷ modules) [] name outside face all one = absurd all

  both-some : (a : Option (Option Outside)) (b : Option (Option FlatFace)) → AreBothDeep a b → is_some a ≡ is_some b
  both-some None None both = refl
  both-some (Some outside) (Some face) both = refl
  both-some None (Some face) both = absurd both
  both-some (Some outside) None both = absurd both

  -- one more, unless its name is there
  added-deep : (modules : Environment Outside) (faces : Environment FlatFace) (name : List ℕ) (outside : Option Outside) (face : Option FlatFace) → AreDeepNested modules faces → IsDeepNested outside face → AreDeepNested (added bytes_eq modules name outside) (added bytes_eq faces name face)
  added-deep modules faces name outside face all one =
      subst (λ b. AreDeepNested (added bytes_eq modules name outside) (cond b faces (faces ++ (name, face) ∷ []))) (both-some (module_meaning modules name) (module_meaning faces name) (both-deep modules faces name all))
      (by_there (is_some (module_meaning modules name)))
    where
      by_there : (b : Bool) → AreDeepNested (cond b modules (modules ++ (name, outside) ∷ [])) (cond b faces (faces ++ (name, face) ∷ []))
      by_there true = all
      by_there false = behind-all modules faces name outside face all one

  -- inside a nested module
  pub begun-deep : (modules : Scope Outside) (faces : Scope FlatFace) (name : List ℕ) → AllNestedDeep modules faces → AllNestedDeep (begun modules name) (begun faces name)
  begun-deep modules faces name (here, behind) = (added-deep modules.here faces.here name None None here tt, (refl, here, behind))

  -- behind one that ends
  pub ended-deep : (modules : Scope Outside) (faces : Scope FlatFace) (outside : Outside) (face : FlatFace) → AllNestedDeep modules faces → IsDeepFace face outside → AllNestedDeep (ended outside modules.here modules.round) (ended face faces.here faces.round)
  ended-deep modules faces outside face (here, behind) is = by_round modules.round faces.round behind
    where
      by_round : (ms : List (List ℕ × Environment Outside)) (fs : List (List ℕ × Environment FlatFace)) → AreRoundDeep ms fs → AllNestedDeep (ended outside modules.here ms) (ended face faces.here fs)
      by_round [] [] all = (here, tt)
      by_round (m ∷ ms) (f ∷ fs) all = (
        subst (λ key. AreDeepNested (added bytes_eq m.1 m.0 (Some outside)) (added bytes_eq f.1 key (Some face))) all.0 (added-deep m.1 f.1 m.0 (Some outside) (Some face) all.1 is),
        all.2,
      )
      by_round [] (f ∷ fs) all = absurd all
      by_round (m ∷ ms) [] all = absurd all

  -- ---- the module of a name

  no-face-deep : IsDeepFace no_face no_module
  no-face-deep =
      record {
        inner = λ name. Unsaid;
        leads = λ name names. refl;
        deep = λ name. tt;
        parameters = λ name. tt;
        takes = λ name next is. cc is;
      }

  module _ (files : List ℕ → FlatFace) (outsides : List ℕ → Outside) (modules : Environment Outside) (faces : Environment FlatFace) (all : AreDeepNested modules faces) where
    -- a name that means no file is that of a module that is so
    nested-deep : (name : List ℕ) (nested : Option FlatFace) → module_meaning faces name ≡ Some nested → IsDeepFace (face_under files (module_meaning faces name) name) (module_under outsides (module_meaning modules name) name)
    nested-deep name nested is = by_both (module_meaning modules name) (module_meaning faces name) (both-deep modules faces name all) is
      where
        by_both : (o : Option (Option Outside)) (f : Option (Option FlatFace)) → AreBothDeep o f → f ≡ Some nested → IsDeepFace (face_under files f name) (module_under outsides o name)
        by_both None None both e = cc e
        by_both (Some None) (Some None) both e = no-face-deep
        by_both (Some (Some outside)) (Some (Some face)) both e = both
        by_both (Some None) (Some (Some face)) both e = absurd both
        by_both (Some (Some outside)) (Some None) both e = absurd both
        by_both None (Some face) both e = absurd both
        by_both (Some outside) None both e = absurd both

    -- what the names of a module stand for, by what its name means: those of a file as is said of it
    stands-by : (List ℕ → Named → Stand) → (name : List ℕ) (o : Option (Option FlatFace)) → module_meaning faces name ≡ o → Named → Stand
    stands-by inside name None is = inside name
    stands-by inside name (Some nested) is = (nested-deep name nested is).inner

    -- the same by its name
    pub stands-in : (List ℕ → Named → Stand) → List ℕ → Named → Stand
    stands-in inside name = stands-by inside name (module_meaning faces name) refl

module _ (flat : FlatModule) (text : Text) (means : ℕ → Option Meaning) (implied : ℕ → List Meaning) (files : List ℕ → FlatFace) (outsides : List ℕ → Outside) (words : List ℕ) where
  -- a module that is named, by what is asked of files, is as deep as outside of it
  pub module-leads : (known : Known) (modules : Scope Outside) (faces : Scope FlatFace) (l : Lexeme) → AreDeepNested flat modules.here faces.here → IsDeepFile flat text means implied files outsides words known (named_in text outsides words modules) faces l → (inner : Named → Stand) × LeadsAs flat text known (named_in text outsides words modules) (face_in flat text means implied files outsides words faces) l inner (behind_instance (named_in text outsides words modules (spelled text.source l)).view)
  module-leads known modules faces l all asked = by_name (module_meaning faces.here (spelled text.source l)) refl asked
    where
      by_name : (o : Option (Option FlatFace)) → module_meaning faces.here (spelled text.source l) ≡ o → IsDeepFileBy flat text means implied files outsides words known (named_in text outsides words modules) faces l o → (inner : Named → Stand) × LeadsAs flat text known (named_in text outsides words modules) (face_in flat text means implied files outsides words faces) l inner (behind_instance (named_in text outsides words modules (spelled text.source l)).view)
      by_name None e file = file
      by_name (Some nested) e file =
          let is = nested-deep flat files outsides modules.here faces.here all (spelled text.source l) nested e in
          (is.inner, record { leads = is.leads; deep = is.deep; parameters = is.parameters; takes = is.takes })

  -- modules that are extended lead where their names stand, as deep as outside of them
  abbrev pub AllLead : Known → Scope Outside → Scope FlatFace → List Lexeme → Type 0
  AllLead known modules faces ls =
      AllByRecursion
      (λ l.
      (inner : Named → Stand)
      × LeadsAs flat text known (named_in text outsides words modules) (face_in flat text means implied files outsides words faces) l inner
      (behind_instance (named_in text outsides words modules (spelled text.source l)).view)) ls

  -- where nested ones that can be named are so, and files as is asked of them
  pub modules-lead : (known : Known) (modules : Scope Outside) (faces : Scope FlatFace) (ls : List Lexeme) → AreDeepNested flat modules.here faces.here → AllByRecursion (IsDeepFile flat text means implied files outsides words known (named_in text outsides words modules) faces) ls → AllLead known modules faces ls
  modules-lead known modules faces [] all asked = tt
  modules-lead known modules faces (l ∷ rest) all asked = (module-leads known modules faces l all asked.0, modules-lead known modules faces rest all asked.1)

  module _ (state : KindState) (reader : Reader) (all : AreDeepNested flat state.modules.here reader.faces.here) where
    -- what the names of modules stand for at a unit
    abbrev pub stands-at : (List ℕ → Named → Stand) → List ℕ → Named → Stand
    stands-at inside = stands-in flat files outsides state.modules.here reader.faces.here all inside

    -- the module of a module definition is as deep as outside of it
    pub behind-leads : (unit : UnitTree) (inside : List ℕ → Named → Stand) (own l : Lexeme) → IsDeepBehind flat text means implied files outsides words state reader unit inside own l → LeadsBehind flat text (known_at text outsides words state unit) (named text outsides words state) (face_in flat text means implied files outsides words reader.faces) (stands-at inside) own l
    unfolding stands-by stands-in
    behind-leads unit inside own l asked = by_name (module_meaning reader.faces.here (spelled text.source l)) refl asked
      where
        by_name : (o : Option (Option FlatFace)) (e : module_meaning reader.faces.here (spelled text.source l) ≡ o) → IsDeepBehindBy flat text means implied files outsides words state reader unit inside own l o → LeadsAs flat text (known_at text outsides words state unit) (named text outsides words state) (face_in flat text means implied files outsides words reader.faces) l (stands-by flat files outsides state.modules.here reader.faces.here all inside (spelled text.source l) o e) (behind_instance (named text outsides words state (spelled text.source l)).view)
        by_name None e file = file
        by_name (Some nested) e held =
            let is = nested-deep flat files outsides state.modules.here reader.faces.here all (spelled text.source l) nested e in
            record { leads = is.leads; deep = is.deep; parameters = is.parameters; takes = is.takes }
