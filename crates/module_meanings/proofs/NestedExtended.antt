-- Nested modules that a nested one extends are what is asked of them, where their own symbols have places.
use Rattle.std.proofs.Common.{◌≡◌, ℕ, true, List, [], ◌∷◌, Option, None, subst, length}
use Rattle.std.specs.List.{AllByRecursion}
use Rattle.tla_symbols.specs.declared.lexeme.Lexeme.{Lexeme}
use Rattle.unit_grammar.specs.Units.{ModuleBegin}
use Rattle.tla_model.specs.Entities.{Meaning, Text}
use Rattle.tla_model.specs.Lexemes.{spelled}
use Rattle.module_scope.specs.Environments.{Scope, begun, meaning as module_meaning}
use Rattle.kind_text.specs.FlatModule.{FlatModule}
use Rattle.tree_kinds.specs.Standing.{Environment, Outside}
use Rattle.module_kinds.specs.ModuleKinds.{KindState, after, named_in}
use Rattle.flat_trees.specs.Stands.{Stand}
use Rattle.flat_kinds.specs.Modules.{Current}
use Rattle.flat_kinds.specs.Readings.{extended_entries}
use Rattle.flat_kinds.specs.Symbols.{same_symbol}
use Rattle.flattened_trees.specs.Leads.{FlatFace, Leads, nowhere}
use Rattle.flattened_units.specs.Units.{Reader, face_under, with_symbols}
use Rattle.module_meanings.specs.Faces.{IsExtendedBy}
use Rattle.module_meanings.specs.Premises.{AllCome, IsBegunGiven, IsBegunGivenBy, IsExtendedAt, IsExtendedFile, IsExtendedFileBy, symbol_leads}
use Rattle.module_meanings.proofs.NestedFaces.{AllNew, AreNestedKnown, HoldsNested, added-known, all-more, known-both, named-extended, own-elsewhere}

-- own symbols that are new lead nowhere in the modules round them
pub all-new : (state : KindState) (symbols : Leads) (own : List Meaning) → AllByRecursion (λ (symbol : Meaning). (m : Meaning) → same_symbol m symbol ≡ true → (symbols m [] ≡ nowhere) × ((parameters : Environment) → state.standing parameters m ≡ parameters m)) own → AllNew symbols own
all-new state symbols [] all = tt
all-new state symbols (s ∷ own) all = ((λ m same. let both = all.0 m same in both.0), all-new state symbols own all.1)

module _ (flat : FlatModule) (text : Text) (means : ℕ → Option Meaning) (implied : ℕ → List Meaning) (files : List ℕ → FlatFace) (outsides : List ℕ → Outside) (words : List ℕ) (state : KindState) (reader : Reader) (seen : List Meaning) {known : Meaning → Stand} {outers : List Current} (nested : HoldsNested flat state.modules reader.setting.frame reader.round reader.faces seen known outers) (own : List Meaning) (dashes name : Lexeme) (extends : List Lexeme)
    (given : IsBegunGivenBy flat text means implied files outsides words (IsExtendedFile flat text means implied files outsides words) state reader own dashes name extends) where
  abbrev modules : Scope Outside
  modules = begun state.modules (spelled text.source name)

  abbrev faces : Scope FlatFace
  faces = begun reader.faces (spelled text.source name)

  abbrev base : Leads
  base = symbol_leads reader.round reader.setting.frame

  abbrev symbols : Leads
  symbols = with_symbols base own (length reader.setting.frame)

  abbrev leads : Leads
  leads = with_symbols reader.setting.leads own (length reader.setting.frame)

  -- nested modules that can be named inside
  inner-known : AreNestedKnown flat seen symbols modules.here faces.here
  inner-known =
      added-known flat seen symbols state.modules.here reader.faces.here (spelled text.source name) None None
      (all-more flat seen seen (λ m is. is) base symbols state.modules.here reader.faces.here (λ m. own-elsewhere base own (length reader.setting.frame) m (all-new state base own given.new)) nested.here) tt

  one-extended : (title : List ℕ) → IsExtendedFile flat text means implied files outsides words modules faces leads symbols title → IsExtendedAt flat text means implied files outsides words modules faces leads symbols title
  one-extended title asked =
      named-extended flat seen leads symbols files outsides title (module_meaning modules.here title) (module_meaning faces.here title)
      (known-both flat seen symbols modules.here faces.here title inner-known)
      (λ e. subst (λ (o : Option (Option FlatFace)). IsExtendedBy flat leads symbols (face_under files o title) (named_in text outsides words modules title)) e
      (subst (λ (o : Option (Option FlatFace)). IsExtendedFileBy flat text means implied files outsides words modules faces leads symbols title o) e asked))
      (λ one e. subst (λ (o : Option (Option FlatFace)). IsExtendedFileBy flat text means implied files outsides words modules faces leads symbols title o) e asked)

  all-extended :
      (ls : List Lexeme)
      → AllByRecursion
      (λ l.
      IsExtendedFile flat text means implied files outsides words modules faces leads symbols (spelled text.source l)
      × AllCome (after text outsides words state (ModuleBegin dashes name extends)).read.known (after text outsides words state (ModuleBegin dashes name extends)).read.place.here.context
      (named_in text outsides words modules (spelled text.source l)).view (extended_entries text outsides words modules l)) ls
      → AllByRecursion
      (λ l.
      IsExtendedAt flat text means implied files outsides words modules faces leads symbols (spelled text.source l)
      × AllCome (after text outsides words state (ModuleBegin dashes name extends)).read.known (after text outsides words state (ModuleBegin dashes name extends)).read.place.here.context
      (named_in text outsides words modules (spelled text.source l)).view (extended_entries text outsides words modules l)) ls
  all-extended [] all = tt
  all-extended (l ∷ ls) all = ((one-extended (spelled text.source l) all.0.0, all.0.1), all-extended ls all.1)

  -- a nested module that begins is given, with all modules that it extends
  pub begun-whole : IsBegunGiven flat text means implied files outsides words state reader own dashes name extends
  begun-whole = record {
    new = given.new;
    extended = record { each = all-extended extends given.extended.each; others = given.extended.others };
    same = given.same;
  }
