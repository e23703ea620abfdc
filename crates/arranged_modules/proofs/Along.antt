-- A module without faults is arranged, unit by unit: its trees as they are written, and what was seen is as deep as is given.
use Rattle.std.proofs.Common.{◌≡◌, ℕ, List, [], ◌∷◌, ◌++◌, Option, Some, true, inr, refl, sym, ap, subst, ◌∙◌}
use Rattle.std.specs.List.{AllByRecursion}
use Rattle.list_laws.proofs.Lists.{all-right, all-weaker}
use Rattle.tla_symbols.specs.declared.lexeme.Lexeme.{Lexeme}
use Rattle.tla_symbols.specs.declared.lexeme.Span.{Span}
use Rattle.tla_tree.specs.declared.form.Form.TheVariants as Form
use Rattle.tla_tree.specs.Syntax.{Tree, Trees, Node, Cons, Nil}
use Rattle.unit_grammar.specs.Units.{UnitTree, Variables, Constants, OperatorDefinition, FunctionDefinition, ModuleDefinition, Instance, Assumption, Theorem, Line, ModuleBegin, ModuleEnd, ModuleUnits}
use Rattle.front_laws.specs.Fronts.{IsFront, Tree as TreeFront}
use Rattle.tla_model.specs.declared.names.Meaning.TheVariants.{BuiltIn, Declared}
use Rattle.tla_model.specs.Contexts.{meaning_of}
use Rattle.tla_model.specs.Entities.{Meaning, Text}
use Rattle.tla_model.specs.EntityKinds.{is_meant, stands_behind}
use Rattle.tla_model.specs.Lexemes.{spelled}
use Rattle.tla_model.specs.Tables.{Named}
use Rattle.module_scope.specs.Environments.{begun, first as first_scope}
use Rattle.module_model.specs.Exports.{Exports, ModuleView, entry_of, exports_of}
use Rattle.module_model.specs.Modules.{Reading, text_of}
use Rattle.module_model.specs.NamedModules.{view_of}
use Rattle.module_model.specs.Resolution.{ReadState, instance_brings, module_named, words_of}
use Rattle.kind_text.specs.FlatModule.{FlatModule}
use Rattle.tree_kinds.specs.Standing.{Outside}
use Rattle.module_kinds.specs.ModuleKinds.{KindState, after, beneath, first, known_at, last, named, outside, read_all, views}
use Rattle.flat_trees.specs.Instances.{symbols_of}
use Rattle.flat_trees.specs.Stands.{Stand}
use Rattle.flat_kinds.specs.Declarations.{AreNamesDeclared, AreUnitsDeclared, Declarations, IsNoDefinition, IsOnce, IsOutsideDeclared, IsSymbol, declared_names}
use Rattle.flattened_trees.specs.Leads.{FlatFace, Setting}
use Rattle.flattened_trees.specs.Questions.{Question}
use Rattle.flattened_units.specs.Units.{AreUnitsMade, IsEnded, IsModuleMade, IsUnitMade, Reader}
use Rattle.given_modules.specs.Passed.{AreUnitsGiven, IsEndGiven, IsFileAt, IsModuleGiven, IsUnitGivenBy, first_seen, seen_behind}
use Rattle.given_modules.specs.Passed.{AreUnitsArranged, IsArrangedBringing, IsBegunArranged, IsDeepBehind, IsModuleArranged, IsUnitArranged, SeenStayDeep}
use Rattle.given_modules.specs.Passed.{AreUnitsShaped, IsModuleShaped, IsUnitShaped}
use Rattle.given_modules.specs.Passed.{IsArrangedUnit, IsArrangedWith}
use Rattle.given_modules.proofs.Passed.{front-arranged}
use Rattle.given_modules.specs.Passed.{IsForeignView}
use Rattle.given_modules.specs.Passed.{FacesReadAs}
use Rattle.given_modules.specs.Passed.{kinds_behind}
use Rattle.given_modules.proofs.Passed.{named-same, own-read}
use Rattle.given_modules.proofs.Ahead.{IsAt}
use Rattle.given_modules.proofs.AtUnits.{IsMet, keeps-at, met-first, met-next, symbol-no_definition}
use Rattle.given_modules.specs.Passed.{AreEndsGiven, AreModulesGiven, ArePlainNames, AreSeenGiven, AreSymbolsPlain, GivenDepths, Gives, IsGivenOutside}
use Rattle.given_modules.specs.Passed.{HasOwnNames, if_replaced}
use Rattle.given_modules.proofs.Passed.{begins-gives, brings-gives, modules-give}
use Rattle.given_modules.proofs.Passed.{own-plain, plain-after, plain-first}
use Rattle.given_modules.proofs.Passed.{seen-after, seen-first, seen-stays}
use Rattle.arranged_modules.specs.Files.{IsDeepFace}
use Rattle.arranged_modules.proofs.Files.{behind-deep, file-deep, files-deep}
use Rattle.arranged_modules.proofs.Replacing.{unreplaced}
use Rattle.arranged_modules.proofs.Seeing.{AreAllSeen, BeginsSame, IsAllSeen, first-all-seen, unit-seen}
use Rattle.arranged_modules.proofs.Trees.{tree-holds}

-- what is known of a module, and of the files that it names: by what stands for their names, and by how deep declarations are
pub record IsKnownDeep (flat : FlatModule) (files : List ℕ → FlatFace) (outsides : List ℕ → Outside) (name source : List ℕ) (units : ModuleUnits) (declares : Declarations) (inside : List ℕ → Named → Stand) (given : GivenDepths) : Type 0 where
  pub front : IsFront name source (TreeFront units)
  pub foreign : (title : List ℕ) → IsForeignView (text_of source units).file (outsides title).view
  pub declared : (title : List ℕ) → IsOutsideDeclared declares (outsides title)
  pub names : AreUnitsDeclared declares (text_of source units) units.units
  pub each : (title : List ℕ) → IsDeepFace flat (inside title) (files title) (outsides title)
  pub give : (title : List ℕ) → IsGivenOutside given (outsides title)
  pub symbols : AreSymbolsPlain declares given
  pub own :
      (before : List UnitTree) (unit : UnitTree) (behind : List UnitTree) → units.units ≡ before ++ unit ∷ behind → HasOwnNames (text_of source units) outsides (words_of units) (kinds_behind outsides source units before) unit
      → Gives given (text_of source units) outsides (words_of units) (kinds_behind outsides source units before) unit

module _ (flat : FlatModule) (means : ℕ → Option Meaning) (implied : ℕ → List Meaning) (files : List ℕ → FlatFace) (outsides : List ℕ → Outside) (name source : List ℕ) (units : ModuleUnits) (declares : Declarations) (inside : List ℕ → Named → Stand) (given : GivenDepths)
    (k : IsKnownDeep flat files outsides name source units declares inside given) where
  abbrev text : Text
  text = text_of source units

  abbrev words : List ℕ
  words = words_of units

  -- what is known at a unit
  pub record IsDeepMet (before behind : List UnitTree) (state : KindState) (reader : Reader) (seen : List Meaning) : Type 0 where
    pub met : IsMet flat means implied files outsides source units k.foreign declares k.declared k.names before behind state reader seen
    pub plain : ArePlainNames declares state.depths
    pub seen_given : AreSeenGiven given state.depths seen
    pub modules : AreModulesGiven given state.modules
    pub all_seen : AreAllSeen seen state.read.place

  abbrev GivenAt : KindState → Reader → List Meaning → UnitTree → Reader → Type 0
  GivenAt state reader seen unit mid = IsUnitGivenBy flat text means implied files outsides words (IsFileAt flat text means implied files outsides words) state reader seen unit mid

  -- ---- what a unit gives

  own-gives : (before behind : List UnitTree) (unit : UnitTree) (state : KindState) → IsAt outsides source units before (unit ∷ behind) state → HasOwnNames text outsides words state unit → Gives given text outsides words state unit
  own-gives before behind unit state at = subst (λ (s : KindState). HasOwnNames text outsides words s unit → Gives given text outsides words s unit) (sym at.same) (k.own before unit behind at.split)

  -- the module of a name has one view
  view-at : (before behind : List UnitTree) (state : KindState) (title : List ℕ) → IsAt outsides source units before behind state → (named text outsides words state title).view ≡ module_named text (views text outsides words) words state.read title
  view-at before behind state title at =
      subst (λ (s : KindState). (named text outsides words s title).view ≡ module_named text (views text outsides words) words s.read title) (sym at.same)
      (named-same outsides (views text outsides words) source units (λ other. refl) before title
      ∙ ap (λ (s : ReadState). module_named text (views text outsides words) words s title) (sym (own-read outsides source units before)))

  instance-gives : (before behind : List UnitTree) (local : Option Lexeme) (l : Lexeme) (at : Span) (rights : Trees) (state : KindState) (reader : Reader) (seen : List Meaning) (mid : Reader) → IsDeepMet before (Instance local (Node (Form.Instance l) at rights) ∷ behind) state reader seen
      → GivenAt state reader seen (Instance local (Node (Form.Instance l) at rights)) mid → Gives given text outsides words state (Instance local (Node (Form.Instance l) at rights))
  instance-gives before behind local l at rights state reader seen mid is given_at = by (named text outsides words state (spelled text.source l)).view.parameters refl
    where
      x : Tree
      x = Node (Form.Instance l) at rights

      view : (named text outsides words state (spelled text.source l)).view ≡ view_of text (module_named text (views text outsides words) words state.read) l
      view = view-at before (Instance local x ∷ behind) state (spelled text.source l) is.met.seen_so.at

      by : (ps : Exports) → (named text outsides words state (spelled text.source l)).view.parameters ≡ ps → Gives given text outsides words state (Instance local x)
      by [] none =
          brings-gives given text outsides words k.give state local l at rights is.modules.here view none
          (unreplaced text (known_at text outsides words state (Instance local x)) (named text outsides words state) means implied _ (beneath text outsides words state) state.read.place.here.context l at rights none given_at.readable)
      by (p ∷ ps) some =
          own-gives before behind (Instance local x) state is.met.seen_so.at
          (ap (λ (qs : Exports). if_replaced qs (instance_brings text (views text outsides words) words state.read x)) (ap (λ (v : ModuleView). v.parameters) (sym view) ∙ some))

  unit-gives : (before behind : List UnitTree) (unit : UnitTree) (state : KindState) (reader : Reader) (seen : List Meaning) (mid : Reader) → IsDeepMet before (unit ∷ behind) state reader seen → GivenAt state reader seen unit mid → Gives given text outsides words state unit
  unit-gives before behind (Variables names) state reader seen mid is given_at = own-gives before behind (Variables names) state is.met.seen_so.at tt
  unit-gives before behind (Constants declarations) state reader seen mid is given_at = own-gives before behind (Constants declarations) state is.met.seen_so.at tt
  unit-gives before behind (OperatorDefinition local x) state reader seen mid is given_at = own-gives before behind (OperatorDefinition local x) state is.met.seen_so.at tt
  unit-gives before behind (FunctionDefinition local x) state reader seen mid is given_at = own-gives before behind (FunctionDefinition local x) state is.met.seen_so.at tt
  unit-gives before behind (ModuleDefinition local x) state reader seen mid is given_at = own-gives before behind (ModuleDefinition local x) state is.met.seen_so.at tt
  unit-gives before behind (Instance local (Node (Form.Instance l) at rights)) state reader seen mid is given_at = instance-gives before behind local l at rights state reader seen mid is given_at
  unit-gives before behind (Instance local (Node form at rights)) state reader seen mid is given_at = own-gives before behind (Instance local (Node form at rights)) state is.met.seen_so.at refl
  unit-gives before behind (Assumption word title x) state reader seen mid is given_at = own-gives before behind (Assumption word title x) state is.met.seen_so.at tt
  unit-gives before behind (Theorem word title x) state reader seen mid is given_at = own-gives before behind (Theorem word title x) state is.met.seen_so.at tt
  unit-gives before behind (Line dashes) state reader seen mid is given_at = own-gives before behind (Line dashes) state is.met.seen_so.at tt
  unit-gives before behind (ModuleBegin dashes title extends) state reader seen mid is given_at = begins-gives given text outsides words k.give state dashes title extends is.modules.here
  unit-gives before behind (ModuleEnd closing) state reader seen mid is given_at = own-gives before behind (ModuleEnd closing) state is.met.seen_so.at tt

  -- ---- one unit further

  symbol-plain : (m : Meaning) → IsSymbol declares m → IsNoDefinition declares m
  symbol-plain BuiltIn is = tt
  symbol-plain (Declared e callee) is = symbol-no_definition declares (declares callee.decl).1 is

  names-at : (before behind : List UnitTree) (unit : UnitTree) → units.units ≡ before ++ unit ∷ behind → AreNamesDeclared declares text (declared_names unit)
  names-at before behind unit split =
      let all = all-right (λ (u : UnitTree). AreNamesDeclared declares text (declared_names u)) before (unit ∷ behind) (subst (AreUnitsDeclared declares text) split k.names) in
      all.0

  abbrev IsUsableAtEnd : KindState → Type 0
  IsUsableAtEnd state =
      IsOnce state.read.place.here.exports
      × ((used : Named) (m : Meaning) → entry_of (exports_of state.read.place.here.exports) used ≡ Some m → is_meant stands_behind m ≡ true → meaning_of state.read.place.here.context used ≡ Some m)

  end-usable : (state : KindState) (reader mid : Reader) (closing : Lexeme) (round : List Reading) (settings : List Setting) → IsEnded flat text means implied files outsides words state round reader settings mid → IsEndGiven flat text means implied files outsides words (ModuleEnd closing) state reader settings → IsUsableAtEnd state
  end-usable state reader mid closing [] settings made ended = absurd made
  end-usable state reader mid closing (outer ∷ round) [] made ended = absurd made
  end-usable state reader mid closing (outer ∷ round) (setting ∷ settings) made ended = (ended.once, ended.usable)

  end-gives : (before behind : List UnitTree) (unit : UnitTree) (state : KindState) (reader : Reader) (seen : List Meaning) (mid : Reader) (asked : List Question) → IsDeepMet before (unit ∷ behind) state reader seen → IsUnitMade flat text means implied files outsides words state reader unit mid asked
      → IsEndGiven flat text means implied files outsides words unit state reader reader.round → AreEndsGiven given state unit
  end-gives before behind (ModuleEnd closing) state reader seen mid asked is made ended =
      let end = end-usable state reader mid closing state.read.place.round reader.round made.0 ended in
      (end.0, λ used m there behind_it. is.seen_given m (is.all_seen.0 used m (end.1 used m there behind_it)))
  end-gives before behind (Variables names) state reader seen mid asked is made ended = tt
  end-gives before behind (Constants declarations) state reader seen mid asked is made ended = tt
  end-gives before behind (OperatorDefinition local x) state reader seen mid asked is made ended = tt
  end-gives before behind (FunctionDefinition local x) state reader seen mid asked is made ended = tt
  end-gives before behind (ModuleDefinition local x) state reader seen mid asked is made ended = tt
  end-gives before behind (Instance local x) state reader seen mid asked is made ended = tt
  end-gives before behind (Assumption word title x) state reader seen mid asked is made ended = tt
  end-gives before behind (Theorem word title x) state reader seen mid asked is made ended = tt
  end-gives before behind (Line dashes) state reader seen mid asked is made ended = tt
  end-gives before behind (ModuleBegin dashes title extends) state reader seen mid asked is made ended = tt

  begins-same : (unit : UnitTree) (state : KindState) (reader : Reader) (seen : List Meaning) (mid : Reader) (asked : List Question) → IsUnitMade flat text means implied files outsides words state reader unit mid asked → GivenAt state reader seen unit mid → BeginsSame text outsides words state unit
  begins-same (ModuleBegin dashes title extends) state reader seen mid asked made given_at = (given_at made.0.0 (ap (λ (r : Reader). r.setting.frame) made.0.2.1)).same
  begins-same (ModuleEnd closing) state reader seen mid asked made given_at = tt
  begins-same (Variables names) state reader seen mid asked made given_at = tt
  begins-same (Constants declarations) state reader seen mid asked made given_at = tt
  begins-same (OperatorDefinition local x) state reader seen mid asked made given_at = tt
  begins-same (FunctionDefinition local x) state reader seen mid asked made given_at = tt
  begins-same (ModuleDefinition local x) state reader seen mid asked made given_at = tt
  begins-same (Instance local x) state reader seen mid asked made given_at = tt
  begins-same (Assumption word title x) state reader seen mid asked made given_at = tt
  begins-same (Theorem word title x) state reader seen mid asked made given_at = tt
  begins-same (Line dashes) state reader seen mid asked made given_at = tt

  deep-next : (before behind : List UnitTree) (unit : UnitTree) (state : KindState) (reader : Reader) (seen : List Meaning) (mid next : Reader) (a b : List Question) → IsDeepMet before (unit ∷ behind) state reader seen → IsUnitMade flat text means implied files outsides words state reader unit mid a
      → AreUnitsMade flat text means implied files outsides words (after text outsides words state unit) mid behind next b → next.round ≡ [] → IsEndGiven flat text means implied files outsides words unit state reader reader.round → GivenAt state reader seen unit mid
      → IsDeepMet (before ++ unit ∷ []) behind (after text outsides words state unit) mid (seen_behind text outsides words state unit mid seen)
  deep-next before behind unit state reader seen mid next a b is one made none ended given_at =
      let at = is.met.seen_so.at in
      let keeps = keeps-at flat means implied files outsides source units k.foreign declares k.declared k.names before (unit ∷ behind) state at in
      let met = met-next flat means implied files outsides source units k.foreign declares k.declared k.names before behind unit state reader seen mid next a b is.met one made none in
      let names = names-at before behind unit at.split in
      let gives = unit-gives before behind unit state reader seen mid is given_at in
      record {
        met = met;
        plain = plain-after declares text outsides words k.declared state unit names keeps.declared is.plain;
        seen_given =
            seen-after declares given k.symbols text outsides words k.declared state seen is.seen_given keeps.declared is.plain unit mid names
            (all-weaker (IsSymbol declares) (IsNoDefinition declares) symbol-plain mid.setting.frame met.symbols.0) gives;
        modules = modules-give given text outsides words state unit is.modules (end-gives before behind unit state reader seen mid a is one ended);
        all_seen = unit-seen text outsides words state unit mid seen (begins-same unit state reader seen mid a one given_at) is.all_seen;
      }

  -- ---- units

  -- what holds of all module definitions at a unit
  abbrev Holds : KindState → Reader → UnitTree → Lexeme → Lexeme → Type 0
  Holds state reader unit = IsDeepBehind flat text means implied files outsides words state reader unit inside

  written-so : (before behind : List UnitTree) (unit : UnitTree) (state : KindState) (reader : Reader) → units.units ≡ before ++ unit ∷ behind → IsArrangedUnit (Holds state reader unit) unit
  written-so before behind unit state reader split =
      let all = all-right (IsArrangedUnit (Holds state reader unit)) before (unit ∷ behind) (subst (AllByRecursion (IsArrangedUnit (Holds state reader unit))) split (front-arranged (Holds state reader unit) name source units k.front)) in
      all.0

  stays : (unit : UnitTree) (state : KindState) (seen : List Meaning) → Gives given text outsides words state unit → AreSeenGiven given state.depths seen → SeenStayDeep flat text means implied files outsides words state unit seen
  stays unit state seen gives before m is = inr (seen-stays given text outsides words state seen before unit gives m is)

  holds-at : (state : KindState) (reader : Reader) (unit : UnitTree) → FacesReadAs reader.faces state.modules → (own l : Lexeme) → Holds state reader unit own l
  holds-at state reader unit faces own l = behind-deep flat text means implied files outsides words inside k.each state reader unit own l faces

  bringing-arranged : (local : Option Lexeme) (x : Tree) (state : KindState) (reader : Reader) (seen : List Meaning) → FacesReadAs reader.faces state.modules → IsArrangedWith (Holds state reader (Instance local x)) x → SeenStayDeep flat text means implied files outsides words state (Instance local x) seen
      → IsArrangedBringing flat text means implied files outsides words state reader seen (Instance local x) x
  bringing-arranged local (Node (Form.Instance l) s rights) state reader seen faces with_it stay =
      (inside, with_it.0, with_it.1, file-deep flat text means implied files outsides words inside k.each _ state.modules reader.faces l faces, λ nested. stay)
  bringing-arranged local (Node form s parts) state reader seen faces with_it stay = absurd with_it

  begun-arranged : (state : KindState) (reader mid : Reader) (seen own : List Meaning) (dashes title : Lexeme) (extends : List Lexeme) (asked : List Question) → IsUnitMade flat text means implied files outsides words state reader (ModuleBegin dashes title extends) mid asked → ArePlainNames declares state.depths
      → AllByRecursion (IsSymbol declares) mid.setting.frame → FacesReadAs mid.faces (begun state.modules (spelled text.source title)) → mid.setting.frame ≡ reader.setting.frame ++ own → SeenStayDeep flat text means implied files outsides words state (ModuleBegin dashes title extends) seen
      → IsBegunArranged flat text means implied files outsides words state reader seen own dashes title extends
  begun-arranged state reader mid seen own dashes title extends asked made plain frame faces framed stay = record {
    plain =
        own-plain declares state.depths own plain
        (all-weaker (IsSymbol declares) (IsNoDefinition declares) symbol-plain own (all-right (IsSymbol declares) reader.setting.frame own (subst (AllByRecursion (IsSymbol declares)) framed frame)));
    extended =
        files-deep flat text means implied files outsides words inside k.each _ (begun state.modules (spelled text.source title)) (begun reader.faces (spelled text.source title)) extends
        (subst (λ (r : Reader). FacesReadAs r.faces (begun state.modules (spelled text.source title))) made.0.2.1 faces);
    stay = stay;
  }

  unit-arranged : (before behind : List UnitTree) (unit : UnitTree) (state : KindState) (reader : Reader) (seen : List Meaning) (mid : Reader) (asked : List Question) → IsDeepMet before (unit ∷ behind) state reader seen
      → IsDeepMet (before ++ unit ∷ []) behind (after text outsides words state unit) mid (seen_behind text outsides words state unit mid seen) → IsUnitMade flat text means implied files outsides words state reader unit mid asked → GivenAt state reader seen unit mid
      → IsUnitShaped flat text means implied files outsides words state reader seen unit → IsUnitArranged flat text means implied files outsides words state reader seen unit mid
  unit-arranged before behind (OperatorDefinition local x) state reader seen mid asked is then made given_at shaped =
      (inside, written-so before behind (OperatorDefinition local x) state reader is.met.seen_so.at.split (tree-holds (Holds state reader (OperatorDefinition local x)) (holds-at state reader (OperatorDefinition local x) is.met.faces) x))
  unit-arranged before behind (FunctionDefinition local x) state reader seen mid asked is then made given_at shaped =
      (inside, written-so before behind (FunctionDefinition local x) state reader is.met.seen_so.at.split (tree-holds (Holds state reader (FunctionDefinition local x)) (holds-at state reader (FunctionDefinition local x) is.met.faces) x))
  unit-arranged before behind (ModuleDefinition local x) state reader seen mid asked is then made given_at shaped =
      (inside, written-so before behind (ModuleDefinition local x) state reader is.met.seen_so.at.split (tree-holds (Holds state reader (ModuleDefinition local x)) (holds-at state reader (ModuleDefinition local x) is.met.faces) x))
  unit-arranged before behind (Instance local x) state reader seen mid asked is then made given_at shaped =
      bringing-arranged local x state reader seen is.met.faces
      (written-so before behind (Instance local x) state reader is.met.seen_so.at.split (tree-holds (Holds state reader (Instance local x)) (holds-at state reader (Instance local x) is.met.faces) x))
      (stays (Instance local x) state seen (unit-gives before behind (Instance local x) state reader seen mid is given_at) is.seen_given)
  unit-arranged before behind (Assumption word title x) state reader seen mid asked is then made given_at shaped =
      (inside, shaped.0, written-so before behind (Assumption word title x) state reader is.met.seen_so.at.split (tree-holds (Holds state reader (Assumption word title x)) (holds-at state reader (Assumption word title x) is.met.faces) x))
  unit-arranged before behind (Theorem word title x) state reader seen mid asked is then made given_at shaped =
      (inside, shaped.0, written-so before behind (Theorem word title x) state reader is.met.seen_so.at.split (tree-holds (Holds state reader (Theorem word title x)) (holds-at state reader (Theorem word title x) is.met.faces) x))
  unit-arranged before behind (ModuleBegin dashes title extends) state reader seen mid asked is then made given_at shaped =
      λ own framed.
      begun-arranged state reader mid seen own dashes title extends asked made is.plain then.met.symbols.0 then.met.faces framed
      (stays (ModuleBegin dashes title extends) state seen (unit-gives before behind (ModuleBegin dashes title extends) state reader seen mid is given_at) is.seen_given)
  unit-arranged before behind (ModuleEnd closing) state reader seen mid asked is then made given_at shaped = tt
  unit-arranged before behind (Variables names) state reader seen mid asked is then made given_at shaped = tt
  unit-arranged before behind (Constants declarations) state reader seen mid asked is then made given_at shaped = tt
  unit-arranged before behind (Line dashes) state reader seen mid asked is then made given_at shaped = tt

  units-arranged : (before behind : List UnitTree) (state : KindState) (reader : Reader) (seen : List Meaning) (next : Reader) (asked : List Question) (made : AreUnitsMade flat text means implied files outsides words state reader behind next asked) → next.round ≡ []
      → AreUnitsGiven flat text means implied files outsides words state reader seen behind next asked made → AreUnitsShaped flat text means implied files outsides words state reader seen behind next asked made → IsDeepMet before behind state reader seen
      → AreUnitsArranged flat text means implied files outsides words state reader seen behind next asked made
  units-arranged before [] state reader seen next asked made none are shaped is = tt
  units-arranged before (unit ∷ behind) state reader seen next asked made none are shaped is =
      let then = deep-next before behind unit state reader seen made.0 next made.1 made.2 is made.3 made.4 none are.0.1 are.1 in (
        unit-arranged before behind unit state reader seen made.0 made.1 is then made.3 are.1 shaped.0,
        units-arranged (before ++ unit ∷ []) behind (after text outsides words state unit) made.0 (seen_behind text outsides words state unit made.0 seen) next made.2 made.4 none are.2 shaped.1 then,
      )

  units-seen : (before behind : List UnitTree) (state : KindState) (reader : Reader) (seen : List Meaning) (next : Reader) (asked : List Question) (made : AreUnitsMade flat text means implied files outsides words state reader behind next asked) → next.round ≡ []
      → AreUnitsGiven flat text means implied files outsides words state reader seen behind next asked made → IsDeepMet before behind state reader seen
      → (ended : List Meaning) × AreSeenGiven given (read_all text outsides words state behind).depths ended × IsAllSeen ended (read_all text outsides words state behind).read.place.here
  units-seen before [] state reader seen next asked made none are is = (seen, is.seen_given, is.all_seen.0)
  units-seen before (unit ∷ behind) state reader seen next asked made none are is =
      units-seen (before ++ unit ∷ []) behind (after text outsides words state unit) made.0 (seen_behind text outsides words state unit made.0 seen) next made.2 made.4 none are.2
      (deep-next before behind unit state reader seen made.0 next made.1 made.2 is made.3 made.4 none are.0.1 are.1)

  -- ---- the module

  module _ (symbols : List Meaning) (same : symbols ≡ symbols_of (outside outsides source units)) (final : Reader) (asked : List Question) (made : IsModuleMade flat means implied files outsides source units symbols final asked)
      (whole : IsModuleGiven flat means implied files outsides source units symbols final asked made) where
    deep-first : IsDeepMet [] units.units (first outsides source units) (record { setting = record { leads = made.0; frame = symbols; olds = [] }; round = []; faces = first_scope text.file }) (first_seen flat means implied files outsides source units symbols)
    deep-first =
        let met = met-first flat means implied files outsides source units k.foreign declares k.declared k.names symbols made.0 same made.1 in
        record {
          met = met;
          plain = plain-first declares outsides source units k.declared;
          seen_given = seen-first declares given k.symbols outsides source units symbols k.declared k.give (all-weaker (IsSymbol declares) (IsNoDefinition declares) symbol-plain symbols met.symbols.0);
          modules = record { here = (tt, tt); round = tt };
          all_seen = first-all-seen flat means implied files outsides source units symbols;
        }

    pub module-arranged : IsModuleShaped flat means implied files outsides source units symbols final asked made → IsModuleArranged flat means implied files outsides source units symbols final asked made
    module-arranged shaped = record {
      extended = files-deep flat text means implied files outsides words inside k.each _ (first_scope text.file) (first_scope text.file) units.extends (record { here = (refl, tt, tt); round = tt });
      arranged = units-arranged [] units.units (first outsides source units) _ _ final asked made.2 whole.ends whole.given shaped deep-first;
    }

    -- what was seen behind all units is as deep as is given, and all that can be used there was seen
    pub module-seen : (seen : List Meaning) × AreSeenGiven given (last outsides source units).depths seen × IsAllSeen seen (last outsides source units).read.place.here
    module-seen = units-seen [] units.units (first outsides source units) _ _ final asked made.2 whole.ends whole.given deep-first
