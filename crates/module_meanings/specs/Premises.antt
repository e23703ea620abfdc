-- What is asked of the units of a module, each at its state: their trees can be read, their names are new, and the modules that they
-- name are to them what a flat module has for these.
use Rattle.std.specs.Prelude.{◌≡◌, ◌⊎◌, ℕ, Bool, true, false, List, [], ◌∷◌, ◌++◌, Option, Some, None, drop, is_some, length, map}
use Rattle.std.specs.List.{AllByRecursion}
use Rattle.tla_symbols.specs.declared.lexeme.Lexeme.{Lexeme}
use Rattle.tla_symbols.specs.declared.lexeme.Span.{Span}
use Rattle.tla_tree.specs.declared.form.Form.TheVariants as Form
use Rattle.tla_tree.specs.Syntax.{Tree, Trees, Node, Nil, Cons}
use Rattle.unit_grammar.specs.Units.{UnitTree, Variables, Constants, OperatorDefinition, FunctionDefinition, ModuleDefinition, Instance, ModuleBegin, ModuleEnd, ModuleUnits}
use Rattle.tla_model.specs.declared.ids.Callee.{Callee}
use Rattle.tla_model.specs.declared.names.Meaning.TheVariants.{BuiltIn, Declared}
use Rattle.tla_model.specs.Contexts.{Context, built_in, meaning_of}
use Rattle.tla_model.specs.Entities.{Entity, Meaning, Text, meant, variables, within}
use Rattle.tla_model.specs.EntityKinds.{is_instance, is_meant, stands_behind, stands_for_parameter}
use Rattle.tla_model.specs.Lexemes.{spelled}
use Rattle.tla_model.specs.Scopes.{definition}
use Rattle.tla_model.specs.Tables.{Named}
use Rattle.module_scope.specs.Environments.{Scope, begun, inside, first as first_scope, meaning as module_meaning}
use Rattle.module_model.specs.Exports.{Exports, Known, ModuleView, behind_instance, behind_meaning, entry_of, exported, exports_by, exports_of, onward}
use Rattle.module_model.specs.Modules.{constants, exports_under, text_of}
use Rattle.module_model.specs.Resolution.{instance_brings, words_of}
use Rattle.kind_text.specs.FlatModule.{FlatModule}
use Rattle.tree_kinds.specs.Standing.{Environment, Outside, is_bound, name_among}
use Rattle.module_kinds.specs.ModuleKinds.{KindState, after, first, known_at, named, named_in, standing_behind, views}
use Rattle.flat_trees.specs.Instances.{symbols_of}
use Rattle.flat_kinds.specs.Declarations.{IsOnce}
use Rattle.flat_kinds.specs.Readings.{BringNone, Leaves, extended_entries, is_among}
use Rattle.flat_kinds.specs.Symbols.{AreDistinct, same_symbol}
use Rattle.flattened_trees.specs.Agreeing.{IsFresh, is_seen}
use Rattle.flattened_trees.specs.Leads.{FlatFace, Leads, Setting, nowhere}
use Rattle.flattened_trees.specs.Questions.{Question}
use Rattle.flattened_trees.specs.Readable.{IsReadableDefinition, IsReadableThrough}
use Rattle.flattened_meanings.specs.Faces.{NamesModules}
use Rattle.flattened_units.specs.Units.{AreUnitsMade, IsModuleMade, Reader, face_in, meanings_of, no_leads, symbol_setting, with_symbols}
use Rattle.module_meanings.specs.Faces.{IsExtendedBy, IsFaceBy, IsPlaced}

-- ---- what is known behind instances

-- something is known to stand behind what a name means, where that is an instance
abbrev pub IsTold : Known → Meaning → Type 0
IsTold known BuiltIn = Unit {0}
IsTold known (Declared entity callee) = is_instance entity ≡ true → is_some (known callee.decl) ≡ true

-- something is known to stand behind all instances that can be used
abbrev pub AreTold : Known → Context → Type 0
AreTold known context = (name : Named) (meaning : Meaning) → meaning_of context name ≡ Some meaning → IsTold known meaning

-- what a name means comes from a module under this name there: it is the same entity there, and behind it is known what the module has
pub record ComesAs (known : Known) (view : ModuleView) (name : Named) (meaning : Meaning) : Type 0 where
  pub entity : Entity
  pub callee : Callee
  pub origin : Callee
  pub means : meaning ≡ Declared entity callee
  pub there : entry_of (behind_instance view []) name ≡ Some (Declared entity origin)
  pub behind : behind_meaning known (Some meaning) ≡ onward (behind_instance view) name

-- all names that can be used come so, that mean what these entries do
abbrev pub AllCome : Known → Context → ModuleView → Exports → Type 0
AllCome known context view entries =
    (used : Named) (meaning : Meaning) (name : Named) → meaning_of context used ≡ Some meaning → name_among entries meaning ≡ Some name → ComesAs known view name meaning

-- ---- which names were seen

module _ (text : Text) (outsides : List ℕ → Outside) (words : List ℕ) where
  -- what modules that are extended bring
  abbrev pub extended_meanings : Scope Outside → List Lexeme → List Meaning
  extended_meanings modules [] = []
  extended_meanings modules (l ∷ rest) = meanings_of (exported (named_in text outsides words modules (spelled text.source l)).view) ++ extended_meanings modules rest

  -- behind a unit, by the reader there: those before it, and those that it declares or brings
  abbrev pub seen_behind : KindState → UnitTree → Reader → List Meaning → List Meaning
  seen_behind state (Variables names) next seen = map (meant text) (variables names) ++ seen
  seen_behind state (Constants declarations) next seen = map (meant text) (constants declarations) ++ seen
  seen_behind state (OperatorDefinition local x) next seen = map (meant text) (definition x) ++ seen
  seen_behind state (FunctionDefinition local x) next seen = map (meant text) (definition x) ++ seen
  seen_behind state (ModuleDefinition local x) next seen = map (meant text) (definition x) ++ seen
  seen_behind state (Instance local x) next seen = meanings_of (instance_brings text (views text outsides words) words state.read x) ++ seen
  seen_behind state (ModuleBegin dashes name extends) next seen = (next.setting.frame ++ extended_meanings (begun state.modules (spelled text.source name)) extends) ++ seen
  seen_behind state unit next seen = seen

-- ---- symbols

-- where symbols lead by themselves, of a module and of those round it
abbrev pub symbol_leads : List Setting → List Meaning → Leads
symbol_leads [] frame = with_symbols no_leads frame 0
symbol_leads (outer ∷ round) frame = with_symbols (symbol_leads round outer.frame) (drop (length outer.frame) frame) (length outer.frame)

-- symbols of a module lead where they do by themselves
abbrev pub SymbolsLead : Setting → List Setting → Type 0
SymbolsLead setting round =
    (meaning : Meaning) → (symbol_leads round setting.frame meaning [] ≡ nowhere) ⊎ (setting.leads meaning [] ≡ symbol_leads round setting.frame meaning [])

-- the same of modules one round another
abbrev pub AllSymbolsLead : List Setting → Type 0
AllSymbolsLead [] = Unit {0}
AllSymbolsLead (setting ∷ round) = SymbolsLead setting round × AllSymbolsLead round

module _ (text : Text) (outsides : List ℕ → Outside) (words : List ℕ) where
  -- a unit leaves the symbols of a module
  abbrev pub LeavesSymbols : KindState → UnitTree → Setting → List Setting → Type 0
  LeavesSymbols state unit setting round =
      (meaning : Meaning) → is_bound meaning ≡ false → (symbol_leads round setting.frame meaning [] ≡ nowhere) ⊎ Leaves text outsides words state unit meaning

-- ---- units

module _ (flat : FlatModule) (text : Text) (means : ℕ → Option Meaning) (implied : ℕ → List Meaning) (files : List ℕ → FlatFace) (outsides : List ℕ → Outside) (words : List ℕ) where
  -- what is asked of a module that a tree names, by which names are new in the tree
  abbrev pub OfNamed : Type 1
  OfNamed = KindState → Reader → (Meaning → Bool) → List ℕ → Type 0

  -- it is what is known of it
  abbrev pub IsFaceAt : OfNamed
  IsFaceAt state reader new name =
      IsFaceBy flat new reader.setting.leads (face_in flat text means implied files outsides words reader.faces name) (named text outsides words state name)

  -- where its name means a file, it is what is known of it; where that means a nested module, symbols lead where they do by themselves
  abbrev pub IsFileBy : KindState → Reader → (Meaning → Bool) → List ℕ → Option (Option FlatFace) → Type 0
  IsFileBy state reader new name None = IsFaceAt state reader new name
  IsFileBy state reader new name (Some nested) = SymbolsLead reader.setting reader.round

  -- the same by what its name means there
  abbrev pub IsFileAt : OfNamed
  IsFileAt state reader new name = IsFileBy state reader new name (module_meaning reader.faces.here name)

  -- what is asked of the tree of a unit, whatever kind of unit it is: its names are new, and this of the modules that it names
  pub record IsTreeGivenBy (asked : OfNamed) (state : KindState) (reader : Reader) (seen : List Meaning) (x : Tree) : Type 0 where
    pub fresh : IsFresh text seen x
    pub nameable : List ℕ → Bool
    pub names : NamesModules text.source nameable x
    pub faces : (name : List ℕ) → nameable name ≡ true → asked state reader (λ meaning. is_seen (map (meant text) (within x)) meaning) name

  -- the modules that it names are what is known of them
  abbrev pub IsTreeGiven : KindState → Reader → List Meaning → Tree → Type 0
  IsTreeGiven state reader seen x = IsTreeGivenBy IsFaceAt state reader seen x

  -- a definition can be read
  pub record IsDefinitionGivenBy (asked : OfNamed) (state : KindState) (reader : Reader) (seen : List Meaning) (unit : UnitTree) (x : Tree) : Type 0 where
    pub given : IsTreeGivenBy asked state reader seen x
    pub readable :
        IsReadableDefinition text (known_at text outsides words state unit) (named text outsides words state) means implied
        (face_in flat text means implied files outsides words reader.faces) state.read.place.here.context x

  -- an INSTANCE without a name can be read, and what it brings is known
  pub record IsInstanceGivenBy (asked : OfNamed) (state : KindState) (reader : Reader) (seen : List Meaning) (unit : UnitTree) (x : Tree) : Type 0 where
    pub given : IsTreeGivenBy asked state reader seen x
    pub readable :
        IsReadableThrough text (known_at text outsides words state unit) (named text outsides words state) means implied
        (face_in flat text means implied files outsides words reader.faces) state.read.place.here.context (Cons x Nil)
    pub comes :
        (l : Lexeme) (at : Span) (rights : Trees) → x ≡ Node (Form.Instance l) at rights
        → AllCome (after text outsides words state unit).read.known (after text outsides words state unit).read.place.here.context
        (named text outsides words state (spelled text.source l)).view (instance_brings text (views text outsides words) words state.read x)

  -- what is asked of a module that is extended, by which modules can be named, and where names and symbols lead
  abbrev pub OfExtended : Type 1
  OfExtended = Scope Outside → Scope FlatFace → Leads → Leads → List ℕ → Type 0

  -- it is what is known of it
  abbrev pub IsExtendedAt : OfExtended
  IsExtendedAt modules faces leads symbols name =
      IsExtendedBy flat leads symbols (face_in flat text means implied files outsides words faces name) (named_in text outsides words modules name)

  -- where its name means a file, it is what is known of it; where that means a nested module, its symbols have places, and lead there
  abbrev pub IsExtendedFileBy : Scope Outside → Scope FlatFace → Leads → Leads → List ℕ → Option (Option FlatFace) → Type 0
  IsExtendedFileBy modules faces leads symbols name None = IsExtendedAt modules faces leads symbols name
  IsExtendedFileBy modules faces leads symbols name (Some nested) =
      AllByRecursion (λ meaning. IsPlaced symbols meaning × (leads meaning [] ≡ symbols meaning [])) (symbols_of (named_in text outsides words modules name))

  -- the same by what its name means there
  abbrev pub IsExtendedFile : OfExtended
  IsExtendedFile modules faces leads symbols name = IsExtendedFileBy modules faces leads symbols name (module_meaning faces.here name)

  -- this is so of modules that are extended, and what they bring is known; what none of them brings is a symbol that has a place, or was
  -- there before
  pub record AreExtendedGivenBy (asked : OfExtended) (known : Known) (before context : Context) (modules : Scope Outside) (faces : Scope FlatFace) (leads symbols : Leads) (extends : List Lexeme) : Type 0 where
    pub each :
        AllByRecursion
        (λ l.
        asked modules faces leads symbols (spelled text.source l)
        × AllCome known context (named_in text outsides words modules (spelled text.source l)).view (extended_entries text outsides words modules l)) extends
    pub others :
        (name : Named) (meaning : Meaning) → meaning_of context name ≡ Some meaning → BringNone text outsides words modules extends meaning
        → ((is_meant stands_for_parameter meaning ≡ true) × IsPlaced leads meaning) ⊎ ((used : Named) × (meaning_of before used ≡ Some meaning))

  -- modules that are extended are what is known of them
  abbrev pub AreExtendedGiven : Known → Context → Context → Scope Outside → Scope FlatFace → Leads → Leads → List Lexeme → Type 0
  AreExtendedGiven known before context modules faces leads symbols extends = AreExtendedGivenBy IsExtendedAt known before context modules faces leads symbols extends

  -- a nested module that begins: its own symbols are new, and what it extends is given; names of modules mean the same to what is read of
  -- names and to what is read of levels
  pub record IsBegunGivenBy (asked : OfExtended) (state : KindState) (reader : Reader) (own : List Meaning) (dashes name : Lexeme) (extends : List Lexeme) : Type 0 where
    pub new :
        AllByRecursion
        (λ symbol.
        (meaning : Meaning) → same_symbol meaning symbol ≡ true
        → (symbol_leads reader.round reader.setting.frame meaning [] ≡ nowhere) × ((parameters : Environment) → state.standing parameters meaning ≡ parameters meaning)) own
    pub extended :
        AreExtendedGivenBy asked (after text outsides words state (ModuleBegin dashes name extends)).read.known state.read.place.here.context
        (after text outsides words state (ModuleBegin dashes name extends)).read.place.here.context (begun state.modules (spelled text.source name)) (begun reader.faces (spelled text.source name))
        (with_symbols reader.setting.leads own (length reader.setting.frame))
        (with_symbols (symbol_leads reader.round reader.setting.frame) own (length reader.setting.frame)) extends
    pub same :
        (title : List ℕ)
        → exports_under (exports_by (views text outsides words)) (module_meaning (inside state.read.place.here.modules (spelled text.source name)) title) title
        ≡ exported (named_in text outsides words (begun state.modules (spelled text.source name)) title).view

  -- the modules that it extends are what is known of them
  abbrev pub IsBegunGiven : KindState → Reader → List Meaning → Lexeme → Lexeme → List Lexeme → Type 0
  IsBegunGiven state reader own dashes name extends = IsBegunGivenBy IsExtendedAt state reader own dashes name extends

  -- a unit at a state, by the reader behind it: its trees can be read; what it declares has places; a nested module that begins is given,
  -- with the files that it extends
  abbrev pub IsUnitGivenBy : OfNamed → KindState → Reader → List Meaning → UnitTree → Reader → Type 0
  IsUnitGivenBy asked state reader seen (Variables names) next = AllByRecursion (IsPlaced reader.setting.leads) (map (meant text) (variables names))
  IsUnitGivenBy asked state reader seen (Constants declarations) next = AllByRecursion (IsPlaced reader.setting.leads) (map (meant text) (constants declarations))
  IsUnitGivenBy asked state reader seen (OperatorDefinition local x) next = IsDefinitionGivenBy asked state reader seen (OperatorDefinition local x) x
  IsUnitGivenBy asked state reader seen (FunctionDefinition local x) next = IsDefinitionGivenBy asked state reader seen (FunctionDefinition local x) x
  IsUnitGivenBy asked state reader seen (ModuleDefinition local x) next = IsDefinitionGivenBy asked state reader seen (ModuleDefinition local x) x
  IsUnitGivenBy asked state reader seen (Instance local x) next = IsInstanceGivenBy asked state reader seen (Instance local x) x
  IsUnitGivenBy asked state reader seen (ModuleBegin dashes name extends) next =
      (own : List Meaning) → next.setting.frame ≡ reader.setting.frame ++ own → IsBegunGivenBy IsExtendedFile state reader own dashes name extends
  IsUnitGivenBy asked state reader seen unit next = Unit {0}

  -- the same where the modules that trees name are what is known of them
  abbrev pub IsUnitGiven : KindState → Reader → List Meaning → UnitTree → Reader → Type 0
  IsUnitGiven state reader seen unit next = IsUnitGivenBy IsFaceAt state reader seen unit next

  -- a nested module at its end: what it exports has names of its own; no two of its own symbols mean the same, and none of them one of
  -- the modules round it; and its definitions and instances can be used there
  pub record IsEndedGiven (state : KindState) (reader : Reader) (outer : Setting) (round : List Setting) : Type 0 where
    pub once : IsOnce state.read.place.here.exports
    pub distinct : AreDistinct (drop (length outer.frame) reader.setting.frame)
    pub apart : (meaning : Meaning) → is_among (drop (length outer.frame) reader.setting.frame) meaning ≡ true → symbol_leads round outer.frame meaning [] ≡ nowhere
    pub usable :
        (name : Named) (meaning : Meaning) → entry_of (exports_of state.read.place.here.exports) name ≡ Some meaning → is_meant stands_behind meaning ≡ true
        → meaning_of state.read.place.here.context name ≡ Some meaning

  -- the same of a unit, if it ends one
  abbrev pub IsEndGiven : UnitTree → KindState → Reader → List Setting → Type 0
  IsEndGiven (ModuleEnd closing) state reader (outer ∷ round) = IsEndedGiven state reader outer round
  IsEndGiven unit state reader round = Unit {0}

  -- what was seen before a unit it leaves, or that stands behind it as before
  abbrev pub SeenStay : KindState → UnitTree → List Meaning → Type 0
  SeenStay state unit seen =
      (meaning : Meaning) → is_seen seen meaning ≡ true
      → Leaves text outsides words state unit meaning
      ⊎ ((parameters : Environment) → standing_behind text outsides words state unit parameters meaning ≡ state.standing parameters meaning)

  -- what a unit brings that has modules round it is new, or stands in these as before: what an INSTANCE without a name brings to a nested
  -- module, and what a nested module extends
  abbrev pub IsBroughtGiven : KindState → Reader → List Meaning → UnitTree → Type 0
  IsBroughtGiven state reader seen (Instance local x) = (reader.round ≡ [] → ⊥) → SeenStay state (Instance local x) seen
  IsBroughtGiven state reader seen (ModuleBegin dashes name extends) = SeenStay state (ModuleBegin dashes name extends) seen
  IsBroughtGiven state reader seen unit = Unit {0}

  -- the same of units, one after another, as they come
  abbrev pub AreUnitsGiven : (state : KindState) (reader : Reader) (seen : List Meaning) (units : List UnitTree) (next : Reader) (asked : List Question) → AreUnitsMade flat text means implied files outsides words state reader units next asked → Type 0
  AreUnitsGiven state reader seen [] next asked made = Unit {0}
  AreUnitsGiven state reader seen (unit ∷ units) next asked made =
      (IsBroughtGiven state reader seen unit × IsEndGiven unit state reader reader.round) × IsUnitGivenBy IsFileAt state reader seen unit made.0
      × AreUnitsGiven (after text outsides words state unit) made.0 (seen_behind text outsides words state unit made.0 seen) units next made.2 made.4

-- ---- modules

module _ (flat : FlatModule) (means : ℕ → Option Meaning) (implied : ℕ → List Meaning) (files : List ℕ → FlatFace) (outsides : List ℕ → Outside) (source : List ℕ) (units : ModuleUnits) where
  -- the names that were seen behind what the module extends
  abbrev pub first_seen : List Meaning → List Meaning
  first_seen symbols = BuiltIn ∷ symbols ++ extended_meanings (text_of source units) outsides (words_of units) (first_scope (text_of source units).file) units.extends

  -- a module, as it comes with these symbols
  pub record IsModuleGiven (symbols : List Meaning) (last : Reader) (asked : List Question) (made : IsModuleMade flat means implied files outsides source units symbols last asked) : Type 0 where
    pub extended :
        AreExtendedGiven flat (text_of source units) means implied files outsides (words_of units) (first outsides source units).read.known
        built_in (first outsides source units).read.place.here.context (first_scope (text_of source units).file) (first_scope (text_of source units).file)
        (symbol_setting flat means implied files outsides source units symbols).leads (symbol_setting flat means implied files outsides source units symbols).leads units.extends
    pub given :
        AreUnitsGiven flat (text_of source units) means implied files outsides (words_of units) (first outsides source units)
        (record {
          setting = record { leads = made.0; frame = symbols; olds = [] };
          round = [];
          faces = first_scope (text_of source units).file;
        })
        (first_seen symbols) units.units last asked made.2
    pub ends : last.round ≡ []
