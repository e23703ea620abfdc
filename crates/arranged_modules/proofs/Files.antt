-- Files that a tree names lead where their names stand, as deep as outside of them.
use Rattle.std.proofs.Common.{◌≡◌, ℕ, List, [], ◌∷◌, Option, Some, None, refl, sym, subst}
use Rattle.std.specs.List.{AllByRecursion}
use Rattle.tla_symbols.specs.declared.lexeme.Lexeme.{Lexeme}
use Rattle.unit_grammar.specs.Units.{UnitTree}
use Rattle.tla_model.specs.Entities.{Meaning, Text}
use Rattle.tla_model.specs.Lexemes.{spelled}
use Rattle.tla_model.specs.Tables.{Named}
use Rattle.module_scope.specs.Environments.{Scope, meaning as module_meaning}
use Rattle.module_model.specs.Exports.{Known, behind_instance}
use Rattle.kind_text.specs.FlatModule.{FlatModule}
use Rattle.tree_kinds.specs.Standing.{Outside}
use Rattle.module_kinds.specs.ModuleKinds.{KindState, module_under, named_in}
use Rattle.flat_trees.specs.Stands.{Stand}
use Rattle.flattened_trees.specs.Leads.{FlatFace}
use Rattle.flattened_depths.specs.Rounds.{LeadsAs}
use Rattle.flattened_units.specs.Units.{Reader, face_in, face_under}
use Rattle.given_modules.specs.Passed.{IsDeepBehind, IsDeepBehindBy, IsDeepFile, IsDeepFileBy}
use Rattle.given_modules.specs.Passed.{FacesReadAs}
use Rattle.given_modules.proofs.Passed.{IsFoundAs, found-as}
use Rattle.arranged_modules.specs.Files.{IsDeepFace}

module _ (flat : FlatModule) (text : Text) (means : ℕ → Option Meaning) (implied : ℕ → List Meaning) (files : List ℕ → FlatFace) (outsides : List ℕ → Outside) (words : List ℕ) (inside : List ℕ → Named → Stand) (each : (name : List ℕ) → IsDeepFace flat (inside name) (files name) (outsides name)) where
  -- a name that means no nested module is that of a file
  face-deep : (modules : Scope Outside) (faces : Scope FlatFace) (name : List ℕ) → FacesReadAs faces modules → module_meaning faces.here name ≡ None
      → IsDeepFace flat (inside name) (face_in flat text means implied files outsides words faces name) (named_in text outsides words modules name)
  face-deep modules faces name is none = by (module_meaning modules.here name) refl (subst (λ (o : Option (Option FlatFace)). IsFoundAs o (module_meaning modules.here name)) none (found-as faces.here modules.here name is.here))
    where
      by : (p : Option (Option Outside)) → module_meaning modules.here name ≡ p → IsFoundAs None p → IsDeepFace flat (inside name) (face_in flat text means implied files outsides words faces name) (named_in text outsides words modules name)
      by None e found =
          subst (λ (o : Option (Option FlatFace)). IsDeepFace flat (inside name) (face_under files o name) (named_in text outsides words modules name)) (sym none)
          (subst (λ (p : Option (Option Outside)). IsDeepFace flat (inside name) (files name) (module_under outsides p name)) (sym e) (each name))
      by (Some other) e found = absurd found

  file-leads : (known : Known) (modules : Scope Outside) (faces : Scope FlatFace) (l : Lexeme) → FacesReadAs faces modules → module_meaning faces.here (spelled text.source l) ≡ None
      → LeadsAs flat text known (named_in text outsides words modules) (face_in flat text means implied files outsides words faces) l (inside (spelled text.source l)) (behind_instance (named_in text outsides words modules (spelled text.source l)).view)
  file-leads known modules faces l is none =
      let one = face-deep modules faces (spelled text.source l) is none in
      record { leads = one.leads; deep = one.deep; parameters = one.parameters; takes = one.takes }

  -- a module that is named is so, if it is a file
  pub file-deep : (known : Known) (modules : Scope Outside) (faces : Scope FlatFace) (l : Lexeme) → FacesReadAs faces modules → IsDeepFile flat text means implied files outsides words known (named_in text outsides words modules) faces l
  file-deep known modules faces l is = by (module_meaning faces.here (spelled text.source l)) refl
    where
      by : (o : Option (Option FlatFace)) → module_meaning faces.here (spelled text.source l) ≡ o → IsDeepFileBy flat text means implied files outsides words known (named_in text outsides words modules) faces l o
      by None none = (inside (spelled text.source l), file-leads known modules faces l is none)
      by (Some nested) e = tt

  -- the same of several
  pub files-deep : (known : Known) (modules : Scope Outside) (faces : Scope FlatFace) (ls : List Lexeme) → FacesReadAs faces modules → AllByRecursion (IsDeepFile flat text means implied files outsides words known (named_in text outsides words modules) faces) ls
  files-deep known modules faces [] is = tt
  files-deep known modules faces (l ∷ rest) is = (file-deep known modules faces l is, files-deep known modules faces rest is)

  -- the module of a module definition
  pub behind-deep : (state : KindState) (reader : Reader) (unit : UnitTree) (own l : Lexeme) → FacesReadAs reader.faces state.modules → IsDeepBehind flat text means implied files outsides words state reader unit inside own l
  behind-deep state reader unit own l is = by (module_meaning reader.faces.here (spelled text.source l)) refl
    where
      by : (o : Option (Option FlatFace)) → module_meaning reader.faces.here (spelled text.source l) ≡ o → IsDeepBehindBy flat text means implied files outsides words state reader unit inside own l o
      by None none = file-leads _ state.modules reader.faces l is none
      by (Some nested) e = tt
