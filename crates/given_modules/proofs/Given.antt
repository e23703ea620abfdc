-- Units of modules without faults are given, and what these extend.
use Rattle.std.proofs.Common.{◌≡◌, ℕ, Bool, true, false, cond, List, [], ◌∷◌, ◌++◌, ◌⊎◌, Option, Some, None, refl, sym, subst, map}
use Rattle.std.specs.List.{AllByRecursion}
use Rattle.std.specs.Str.{bytes_eq}
use Rattle.tla_symbols.specs.declared.lexeme.Lexeme.{Lexeme}
use Rattle.tla_symbols.specs.declared.lexeme.Span.{Span}
use Rattle.tla_tree.specs.declared.form.Form.TheVariants as Form
use Rattle.tla_tree.specs.Syntax.{Tree, Trees, Node}
use Rattle.unit_grammar.specs.Derivation.{DerivesModule}
use Rattle.unit_grammar.specs.Units.{UnitTree, Variables, Constants, OperatorDefinition, FunctionDefinition, ModuleDefinition, Instance, Assumption, Theorem, Line, ModuleBegin, ModuleEnd, ModuleUnits}
use Rattle.tla_model.specs.Contexts.{built_in, meaning_of}
use Rattle.tla_model.specs.Entities.{Meaning, Text, meant, variables}
use Rattle.tla_model.specs.Lexemes.{spelled}
use Rattle.tla_model.specs.Tables.{Named}
use Rattle.module_scope.specs.Environments.{first as first_scope}
use Rattle.module_model.specs.Bindings.{faults}
use Rattle.module_model.specs.Exports.{Exports, exported, parameters_in}
use Rattle.module_model.specs.Modules.{constants, text_of}
use Rattle.module_model.specs.Resolution.{findings, instance_brings, words_of}
use Rattle.kind_text.specs.FlatModule.{FlatModule}
use Rattle.tree_kinds.specs.Standing.{Outside}
use Rattle.module_kinds.specs.ModuleKinds.{KindState, after, first, module_under, named, named_in, outside, views}
use Rattle.flat_trees.specs.Instances.{symbols_of}
use Rattle.flat_kinds.specs.Declarations.{Declarations}
use Rattle.flat_kinds.specs.Readings.{BringNone, extended_entries}
use Rattle.flattened_trees.specs.Leads.{FlatFace}
use Rattle.flattened_units.specs.Units.{Reader, face_in, face_under, meanings_of, no_leads, symbol_setting, with_symbols}
use Rattle.module_meanings.specs.Faces.{IsExtendedBy, IsPlaced}
use Rattle.module_meanings.specs.Following.{IsPlain}
use Rattle.module_meanings.specs.Premises.{AllCome, AreExtendedGiven, IsFileAt, IsUnitGivenBy, symbol_leads}
use Rattle.accepted_modules.specs.Behind.{Behinds}
use Rattle.accepted_modules.specs.States.{kinds_behind}
use Rattle.accepted_modules.proofs.Symbols.{IsSymbol}
use Rattle.given_modules.specs.Good.{AreGoodFiles, IsGoodFile}
use Rattle.given_modules.proofs.AtUnits.{IsKnown, IsMet, tree-given, unit-read}
use Rattle.given_modules.proofs.Elsewhere.{parameters-are}
use Rattle.given_modules.proofs.Nothing.{nothing-good}

-- names that an INSTANCE without a name brings come from its module
abbrev pub AreBrought : (List ℕ → Outside) → List ℕ → ModuleUnits → Type 0
AreBrought outsides source units =
    (before behind : List UnitTree) (local : Option Lexeme) (x : Tree) (l : Lexeme) (at : Span) (rights : Trees) → units.units ≡ before ++ Instance local x ∷ behind → x ≡ Node (Form.Instance l) at rights
    → AllCome (after (text_of source units) outsides (words_of units) (kinds_behind outsides source units before) (Instance local x)).read.known
    (after (text_of source units) outsides (words_of units) (kinds_behind outsides source units before) (Instance local x)).read.place.here.context
    (named (text_of source units) outsides (words_of units) (kinds_behind outsides source units before) (spelled source l)).view
    (instance_brings (text_of source units) (views (text_of source units) outsides (words_of units)) (words_of units) (kinds_behind outsides source units before).read x)

-- what is known besides of a module without faults
pub record IsAccepted (outsides : List ℕ → Outside) (source : List ℕ) (units : ModuleUnits) : Type 0 where
  pub faultless : faults (findings (views (text_of source units) outsides (words_of units)) source units) ≡ []
  pub lexemes : List Lexeme
  pub derives : DerivesModule units lexemes
  pub brings : AreBrought outsides source units

module _ (flat : FlatModule) (means : ℕ → Option Meaning) (implied : ℕ → List Meaning) (files : List ℕ → FlatFace) (outsides : List ℕ → Outside) (source : List ℕ) (units : ModuleUnits) (declares : Declarations) (k : IsKnown flat means implied files outsides source units declares)
    (accepted : IsAccepted outsides source units) where
  abbrev text : Text
  text = text_of source units

  abbrev words : List ℕ
  words = words_of units

  -- what is known at a unit
  abbrev Met : List UnitTree → List UnitTree → KindState → Reader → List Meaning → Type 0
  Met before behind state reader seen = IsMet flat means implied files outsides source units k.foreign declares k.declared k.names before behind state reader seen

  -- the symbols that a unit declares have places
  abbrev pub HasPlaced : Reader → UnitTree → Type 0
  HasPlaced reader (Variables names) = AllByRecursion (IsPlaced reader.setting.leads) (map (meant text) (variables names))
  HasPlaced reader (Constants declarations) = AllByRecursion (IsPlaced reader.setting.leads) (map (meant text) (constants declarations))
  HasPlaced reader unit = Unit {0}

  -- a unit that begins no nested module is given
  pub unit-given : (before behind : List UnitTree) (unit : UnitTree) (state : KindState) (reader : Reader) (seen : List Meaning) (next : Reader) → Met before (unit ∷ behind) state reader seen → IsPlain unit → HasPlaced reader unit
      → IsUnitGivenBy flat text means implied files outsides words (IsFileAt flat text means implied files outsides words) state reader seen unit next
  unit-given before behind (OperatorDefinition local x) state reader seen next is plain placed = record {
    given = tree-given flat means implied files outsides source units k.foreign declares k.declared k.names k.named k.new before behind (OperatorDefinition local x) state reader seen x is refl;
    readable = unit-read flat means implied files outsides source units k.foreign declares k.declared k.names k.read k.reads before behind (OperatorDefinition local x) state reader seen is;
  }
  unit-given before behind (FunctionDefinition local x) state reader seen next is plain placed = record {
    given = tree-given flat means implied files outsides source units k.foreign declares k.declared k.names k.named k.new before behind (FunctionDefinition local x) state reader seen x is refl;
    readable = unit-read flat means implied files outsides source units k.foreign declares k.declared k.names k.read k.reads before behind (FunctionDefinition local x) state reader seen is;
  }
  unit-given before behind (ModuleDefinition local x) state reader seen next is plain placed = record {
    given = tree-given flat means implied files outsides source units k.foreign declares k.declared k.names k.named k.new before behind (ModuleDefinition local x) state reader seen x is refl;
    readable = unit-read flat means implied files outsides source units k.foreign declares k.declared k.names k.read k.reads before behind (ModuleDefinition local x) state reader seen is;
  }
  unit-given before behind (Instance local x) state reader seen next is plain placed = record {
    given = tree-given flat means implied files outsides source units k.foreign declares k.declared k.names k.named k.new before behind (Instance local x) state reader seen x is refl;
    readable = unit-read flat means implied files outsides source units k.foreign declares k.declared k.names k.read k.reads before behind (Instance local x) state reader seen is;
    comes = λ l at rights same.
        let there = is.seen_so.at in
        subst
        (λ (s : KindState). AllCome (after text outsides words s (Instance local x)).read.known (after text outsides words s (Instance local x)).read.place.here.context (named text outsides words s (spelled source l)).view
        (instance_brings text (views text outsides words) words s.read x)) (sym there.same) (accepted.brings before behind local x l at rights there.split same);
  }
  unit-given before behind (Variables names) state reader seen next is plain placed = placed
  unit-given before behind (Constants declarations) state reader seen next is plain placed = placed
  unit-given before behind (Assumption word name x) state reader seen next is plain placed = tt
  unit-given before behind (Theorem word name x) state reader seen next is plain placed = tt
  unit-given before behind (Line dashes) state reader seen next is plain placed = tt
  unit-given before behind (ModuleBegin dashes name extends) state reader seen next is plain placed = absurd plain
  unit-given before behind (ModuleEnd closing) state reader seen next is plain placed = absurd plain

  -- ---- what the module extends

  -- names that modules bring which it extends, and those that none brings
  pub record AreExtendedSound (behinds : Behinds) : Type 0 where
    pub good : AreGoodFiles flat declares behinds text.file files outsides
    pub parameters : (name : List ℕ) → (outsides name).view.parameters ≡ parameters_in (exported (outsides name).view)
    pub shared :
        AllByRecursion
        (λ l.
        AllByRecursion (λ m. IsSymbol m → IsPlaced (with_symbols no_leads (symbols_of (outside outsides source units)) 0) m)
        (symbols_of (named_in text outsides words (first_scope text.file) (spelled source l)))) units.extends
    pub come :
        AllByRecursion
        (λ l.
        AllCome (first outsides source units).read.known (first outsides source units).read.place.here.context (named_in text outsides words (first_scope text.file) (spelled source l)).view
        (extended_entries text outsides words (first_scope text.file) l)) units.extends
    pub others :
        (name : Named) (m : Meaning) → meaning_of (first outsides source units).read.place.here.context name ≡ Some m → BringNone text outsides words (first_scope text.file) units.extends m
        → (IsSymbol m × IsPlaced (with_symbols no_leads (symbols_of (outside outsides source units)) 0) m) ⊎ ((used : Named) × (meaning_of built_in used ≡ Some m))

  module _ (behinds : Behinds) (sound : AreExtendedSound behinds) where
    -- the module of a name is good
    named-good : (name : List ℕ) → IsGoodFile flat declares behinds (face_in flat text means implied files outsides words (first_scope text.file) name) (named_in text outsides words (first_scope text.file) name)
    named-good name = by (bytes_eq name text.file)
      where
        by : (b : Bool) → IsGoodFile flat declares behinds (face_under files (cond b (Some None) None) name) (module_under outsides (cond b (Some None) None) name)
        by true = nothing-good flat declares behinds
        by false = sound.good.each name

    named-parameters : (name : List ℕ) → (named_in text outsides words (first_scope text.file) name).view.parameters ≡ parameters_in (exported (named_in text outsides words (first_scope text.file) name).view)
    named-parameters name = by (bytes_eq name text.file)
      where
        by : (b : Bool) → (module_under outsides (cond b (Some None) None) name).view.parameters ≡ parameters_in (exported (module_under outsides (cond b (Some None) None) name).view)
        by true = refl
        by false = sound.parameters name

    -- symbols are placed, each of which is one
    symbols-placed : (symbols : List Meaning) (entries : Exports) → AllByRecursion (λ (entry : Named × Meaning). IsSymbol entry.1) entries → AllByRecursion (λ m. IsSymbol m → IsPlaced (with_symbols no_leads symbols 0) m) (meanings_of entries)
        → AllByRecursion (λ m. IsPlaced (symbol_leads [] symbols) m × (with_symbols no_leads symbols 0 m [] ≡ symbol_leads [] symbols m [])) (meanings_of entries)
    symbols-placed symbols [] are placed = tt
    symbols-placed symbols (entry ∷ rest) are placed = ((placed.0 are.0, refl), symbols-placed symbols rest are.1 placed.1)

    module _ (symbols : List Meaning) (same : symbols ≡ symbols_of (outside outsides source units)) where
      each-given : (ls : List Lexeme)
          → AllByRecursion
          (λ l.
          AllByRecursion (λ m. IsSymbol m → IsPlaced (with_symbols no_leads (symbols_of (outside outsides source units)) 0) m)
          (symbols_of (named_in text outsides words (first_scope text.file) (spelled source l)))) ls
          → AllByRecursion
          (λ l.
          AllCome (first outsides source units).read.known (first outsides source units).read.place.here.context (named_in text outsides words (first_scope text.file) (spelled source l)).view
          (extended_entries text outsides words (first_scope text.file) l)) ls
          → AllByRecursion
          (λ l.
          IsExtendedBy flat (with_symbols no_leads symbols 0) (with_symbols no_leads symbols 0) (face_in flat text means implied files outsides words (first_scope text.file) (spelled source l))
          (named_in text outsides words (first_scope text.file) (spelled source l))
          × AllCome (first outsides source units).read.known (first outsides source units).read.place.here.context (named_in text outsides words (first_scope text.file) (spelled source l)).view
          (extended_entries text outsides words (first_scope text.file) l)) ls
      each-given [] shared come = tt
      each-given (l ∷ ls) shared come = (
        (
          (named-good (spelled source l)).extended (with_symbols no_leads symbols 0) [] symbols
              (symbols-placed symbols (named_in text outsides words (first_scope text.file) (spelled source l)).view.parameters
              (subst (AllByRecursion (λ (entry : Named × Meaning). IsSymbol entry.1)) (sym (named-parameters (spelled source l))) (parameters-are (exported (named_in text outsides words (first_scope text.file) (spelled source l)).view)))
              (subst
              (λ (ms : List Meaning). AllByRecursion (λ m. IsSymbol m → IsPlaced (with_symbols no_leads ms 0) m) (symbols_of (named_in text outsides words (first_scope text.file) (spelled source l)))) (sym same) shared.0)),
          come.0,
        ),
        each-given ls shared.1 come.1,
      )

      pub extended-given :
          AreExtendedGiven flat text means implied files outsides words (first outsides source units).read.known built_in (first outsides source units).read.place.here.context (first_scope text.file) (first_scope text.file)
          (symbol_setting flat means implied files outsides source units symbols).leads (symbol_setting flat means implied files outsides source units symbols).leads units.extends
      extended-given = record {
        each = each-given units.extends sound.shared sound.come;
        others = λ name m at none. subst (λ (ms : List Meaning). (IsSymbol m × IsPlaced (with_symbols no_leads ms 0) m) ⊎ ((used : Named) × (meaning_of built_in used ≡ Some m))) (sym same) (sound.others name m at none);
      }
