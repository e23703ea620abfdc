-- What is known at each unit of a module, with those round it.
use Rattle.std.proofs.Common.{◌≡◌, ℕ, zero, suc, Bool, true, false, cond, List, [], ◌∷◌, ◌++◌, ◌⊎◌, inl, inr, Option, Some, None, refl, sym, subst, map, drop, length}
use Rattle.std.specs.List.{AllByRecursion}
use Rattle.std.proofs.lemmas.Bool.{and_parts}
use Rattle.list_laws.proofs.Lists.{all-left, all-right}
use Rattle.tla_tree.specs.declared.form.Form.TheVariants as Form
use Rattle.tla_tree.specs.Syntax.{Tree, Trees, Node, Nil, Cons}
use Rattle.unit_grammar.specs.Units.{ModuleUnits, UnitTree}
use Rattle.tla_model.specs.declared.entity.Entity.TheVariants as entity
use Rattle.tla_model.specs.declared.names.Binder.{Binder}
use Rattle.tla_model.specs.declared.names.Meaning.TheVariants.{BuiltIn, Declared}
use Rattle.tla_model.specs.Entities.{Entity, Meaning, Text, meant, same_meaning, within}
use Rattle.tla_model.specs.EntityKinds.{stands_behind, stands_for_parameter}
use Rattle.module_scope.specs.Environments.{Scope, first as first_scope, meaning as module_meaning}
use Rattle.module_model.specs.Instances.{unit_trees}
use Rattle.module_model.specs.Modules.{text_of}
use Rattle.module_model.specs.Resolution.{words_of}
use Rattle.kind_text.specs.FlatModule.{FlatModule}
use Rattle.tree_kinds.specs.Standing.{Outside, is_bound}
use Rattle.module_kinds.specs.ModuleKinds.{KindState, after, first, known_at, module_under, named, named_in, nested_outside, outside}
use Rattle.flat_trees.specs.Instances.{symbols_of}
use Rattle.flat_trees.specs.Layouts.{order_of}
use Rattle.flat_kinds.specs.Declarations.{AreNamesDeclared, AreUnitsDeclared, Declarations, IsNoDefinition, IsOutsideDeclared, IsSymbol, KeepsDeclarations, declared_names}
use Rattle.flat_kinds.specs.Readings.{BringNone, Leaves}
use Rattle.flat_kinds.specs.Symbols.{same_declared, same_symbol}
use Rattle.flat_kinds.proofs.Declarations.{keeps-all, keeps-first, unit-leaves}
use Rattle.flat_kinds.proofs.Distinct.{ended-symbols, module-symbols}
use Rattle.flattened_trees.specs.declared.End.TheVariants as end
use Rattle.flattened_trees.specs.Agreeing.{is_seen}
use Rattle.flattened_trees.specs.Leads.{FlatFace, Leads, Setting, nowhere, only}
use Rattle.flattened_trees.specs.Questions.{Question}
use Rattle.flattened_meanings.specs.Faces.{NameModules, NamesModules}
use Rattle.flattened_units.specs.Units.{AreExtended, AreUnitsMade, IsUnitMade, Reader, face_in, face_under, no_leads, symbol_setting, with_symbols}
use Rattle.module_meanings.specs.Faces.{IsFaceBy, LeavesLead}
use Rattle.module_meanings.specs.Premises.{AllSymbolsLead, IsFileAt, IsFileBy, IsTreeGivenBy, LeavesSymbols, first_seen, seen_behind, symbol_leads}
use Rattle.module_meanings.proofs.Leaves.{extended-leave, first-leave, unit-leave}
use Rattle.module_meanings.proofs.Symbols.{first-lead, unit-lead}
use Rattle.readable_laws.specs.ReadUnits.{IsReadableUnit}
use Rattle.accepted_modules.specs.Behind.{IsForeignView}
use Rattle.accepted_modules.specs.Faces.{FacesReadAs, ReadsAs}
use Rattle.accepted_modules.specs.States.{kinds_behind}
use Rattle.accepted_modules.proofs.Faces.{IsFoundAs, found-as, unit-faces}
use Rattle.accepted_modules.proofs.Leading.{none-brought}
use Rattle.accepted_modules.proofs.Naming.{same-declared}
use Rattle.given_modules.proofs.Ahead.{AreFramesSo, IsAt, frames-next}
use Rattle.given_modules.proofs.Fresh.{AreNewThere, IsSeenSo, seen-first, seen-next, tree-fresh}

-- ---- symbols

module _ (declares : Declarations) where
  pub symbol-no_definition : (e : Entity) → stands_for_parameter e ≡ true → stands_behind e ≡ false
  symbol-no_definition (entity.Definition orders) is = cc is
  symbol-no_definition (entity.Instance orders) is = cc is
  symbol-no_definition e is = refl

  -- what is the same symbol as one that is declared so is no definition
  pub same-no_definition : (m s : Meaning) → same_symbol m s ≡ true → IsSymbol declares s → IsNoDefinition declares m
  same-no_definition BuiltIn s same is = tt
  same-no_definition (Declared e a) BuiltIn same is = absurd is
  same-no_definition (Declared e a) (Declared f b) same is =
      let one : a.decl ≡ b.decl = same-declared e f a b (and_parts (same_declared e f) (same_meaning (Declared e a) (Declared f b)) same).1 in
      subst (λ d. stands_behind (declares d).1 ≡ false) (sym one) (symbol-no_definition (declares b.decl).1 is)

  -- where symbols lead is nowhere, or the name is no definition
  IsOr : Leads → Meaning → Type 0
  IsOr leads m = (leads m [] ≡ nowhere) ⊎ IsNoDefinition declares m

  with-or : (base : Leads) (symbols : List Meaning) (place : ℕ) (m : Meaning) → AllByRecursion (IsSymbol declares) symbols → (base m [] ≡ nowhere) ⊎ IsNoDefinition declares m → (with_symbols base symbols place m [] ≡ nowhere) ⊎ IsNoDefinition declares m
  with-or base [] place m all or = or
  with-or base (s ∷ rest) place m all or = by (same_symbol m s) refl (with-or base rest (suc place) m all.1 or)
    where
      by : (b : Bool) → same_symbol m s ≡ b → (with_symbols base rest (suc place) m [] ≡ nowhere) ⊎ IsNoDefinition declares m
          → (cond b (only (end.Place place (order_of s)) []) (with_symbols base rest (suc place) m []) ≡ nowhere) ⊎ IsNoDefinition declares m
      by true same later = inr (same-no_definition m s same all.0)
      by false same later = later

  none-or : (m : Meaning) → is_bound m ≡ false → (no_leads m [] ≡ nowhere) ⊎ IsNoDefinition declares m
  none-or BuiltIn free = inr tt
  none-or (Declared (entity.Bound state) callee) free = absurd (cc free)
  none-or (Declared e callee) free = inl refl

  dropped : (n : ℕ) (ms : List Meaning) → AllByRecursion (IsSymbol declares) ms → AllByRecursion (IsSymbol declares) (drop n ms)
  dropped zero ms all = all
  dropped (suc n) [] all = tt
  dropped (suc n) (m ∷ ms) all = dropped n ms all.1

  pub leads-or : (frame : List Meaning) (round : List Setting) (m : Meaning) → AllByRecursion (IsSymbol declares) frame → AllByRecursion (λ (setting : Setting). AllByRecursion (IsSymbol declares) setting.frame) round → is_bound m ≡ false
      → (symbol_leads round frame m [] ≡ nowhere) ⊎ IsNoDefinition declares m
  leads-or frame [] m here all free = with-or no_leads frame 0 m here (none-or m free)
  leads-or frame (outer ∷ round) m here all free =
      with-or (symbol_leads round outer.frame) (drop (length outer.frame) frame) (length outer.frame) m (dropped (length outer.frame) frame here) (leads-or outer.frame round m all.0 all.1 free)

-- ---- trees

-- nothing that a tree declares is built in
none-built : (text : Text) (binders : List Binder) → is_seen (map (meant text) binders) BuiltIn ≡ false
none-built text [] = refl
none-built text (binder ∷ rest) = none-built text rest

abbrev mutual
  -- all modules that a tree names can be named, where all can
  pub tree-nameable : (source : List ℕ) (x : Tree) → NamesModules source (λ name. true) x
  tree-nameable source (Node (Form.Instance l) s parts) = (refl, trees-nameable source parts)
  tree-nameable source (Node form s parts) = (tt, trees-nameable source parts)

  pub trees-nameable : (source : List ℕ) (xs : Trees) → NameModules source (λ name. true) xs
  trees-nameable source Nil = tt
  trees-nameable source (Cons x rest) = (tree-nameable source x, trees-nameable source rest)

-- ---- what is known of a module

-- each file is to trees what a flat module has for it
abbrev pub AreFilesNamed : FlatModule → (List ℕ → FlatFace) → (List ℕ → Outside) → Type 0
AreFilesNamed flat files outsides = (name : List ℕ) (new : Meaning → Bool) (leads : Leads) → LeavesLead leads → new BuiltIn ≡ false → IsFaceBy flat new leads (files name) (outsides name)

-- each unit can be read, by faces that are those of the modules
abbrev pub AreUnitsRead : (ℕ → Option Meaning) → (ℕ → List Meaning) → (List ℕ → Outside) → List ℕ → ModuleUnits → Type 0
AreUnitsRead means implied outsides source units =
    (faces : List ℕ → FlatFace) (before behind : List UnitTree) (unit : UnitTree) → units.units ≡ before ++ unit ∷ behind
    → ((name : List ℕ) → ReadsAs (faces name) (named (text_of source units) outsides (words_of units) (kinds_behind outsides source units before) name))
    → IsReadableUnit (text_of source units) (known_at (text_of source units) outsides (words_of units) (kinds_behind outsides source units before) unit)
    (named (text_of source units) outsides (words_of units) (kinds_behind outsides source units before)) means implied faces
    (kinds_behind outsides source units before).read.place.here.context unit

-- what is known of a module, and of the files that it names
pub record IsKnown (flat : FlatModule) (means : ℕ → Option Meaning) (implied : ℕ → List Meaning) (files : List ℕ → FlatFace) (outsides : List ℕ → Outside) (source : List ℕ) (units : ModuleUnits) (declares : Declarations) : Type 0 where
  pub foreign : (name : List ℕ) → IsForeignView (text_of source units).file (outsides name).view
  pub declared : (name : List ℕ) → IsOutsideDeclared declares (outsides name)
  pub names : AreUnitsDeclared declares (text_of source units) units.units
  pub named : AreFilesNamed flat files outsides
  pub reads : (name : List ℕ) → ReadsAs (files name) (outsides name)
  pub new : AreNewThere source units
  pub read : AreUnitsRead means implied outsides source units

-- ---- units

module _ (flat : FlatModule) (means : ℕ → Option Meaning) (implied : ℕ → List Meaning) (files : List ℕ → FlatFace) (outsides : List ℕ → Outside) (source : List ℕ) (units : ModuleUnits)
    (foreign : (name : List ℕ) → IsForeignView (text_of source units).file (outsides name).view) (declares : Declarations) (declared : (name : List ℕ) → IsOutsideDeclared declares (outsides name))
    (names : AreUnitsDeclared declares (text_of source units) units.units) where
  abbrev text : Text
  text = text_of source units

  abbrev words : List ℕ
  words = words_of units

  -- what is known at a unit
  pub record IsMet (before behind : List UnitTree) (state : KindState) (reader : Reader) (seen : List Meaning) : Type 0 where
    pub seen_so : IsSeenSo flat means implied files outsides source units foreign before behind state reader seen
    pub symbols : AreFramesSo (IsSymbol declares) reader
    pub faces : FacesReadAs reader.faces state.modules
    pub leaves : LeavesLead reader.setting.leads × AllByRecursion (λ (setting : Setting). LeavesLead setting.leads) reader.round
    pub leads : AllSymbolsLead (reader.setting ∷ reader.round)

  -- a state has what is declared
  pub keeps : (before behind : List UnitTree) → units.units ≡ before ++ behind → KeepsDeclarations declares (kinds_behind outsides source units before)
  keeps before behind split =
      keeps-all declares text outsides words declared (first outsides source units) before
      (all-left (λ (unit : UnitTree). AreNamesDeclared declares text (declared_names unit)) before behind (subst (AreUnitsDeclared declares text) split names)) (keeps-first declares outsides source units declared)

  pub keeps-at : (before behind : List UnitTree) (state : KindState) → IsAt outsides source units before behind state → KeepsDeclarations declares state
  keeps-at before behind state at = subst (KeepsDeclarations declares) (sym at.same) (keeps before behind at.split)

  -- a unit leaves what is no definition
  pub unit-left : (before behind : List UnitTree) (unit : UnitTree) (state : KindState) (m : Meaning) → IsAt outsides source units before (unit ∷ behind) state → IsNoDefinition declares m → Leaves text outsides words state unit m
  unit-left before behind unit state m at none =
      let all = all-right (λ (u : UnitTree). AreNamesDeclared declares text (declared_names u)) before (unit ∷ behind) (subst (AreUnitsDeclared declares text) at.split names) in
      unit-leaves declares text outsides words declared state unit m (keeps-at before (unit ∷ behind) state at).declared all.0 none

  -- own symbols of nested modules are symbols
  ends-symbols : (before behind : List UnitTree) → units.units ≡ before ++ behind → AllByRecursion (IsSymbol declares) (symbols_of (nested_outside (kinds_behind outsides source units before) (kinds_behind outsides source units before).read.place.round))
  ends-symbols before behind split = (ended-symbols declares (kinds_behind outsides source units before) (kinds_behind outsides source units before).read.place.round (keeps before behind split)).declared

  -- one unit further
  pub met-next : (before behind : List UnitTree) (unit : UnitTree) (state : KindState) (reader : Reader) (seen : List Meaning) (mid next : Reader) (a b : List Question) → IsMet before (unit ∷ behind) state reader seen
      → IsUnitMade flat text means implied files outsides words state reader unit mid a → AreUnitsMade flat text means implied files outsides words (after text outsides words state unit) mid behind next b → next.round ≡ []
      → IsMet (before ++ unit ∷ []) behind (after text outsides words state unit) mid (seen_behind text outsides words state unit mid seen)
  met-next before behind unit state reader seen mid next a b is one made none =
      let at = is.seen_so.at in
      let symbols : AreFramesSo (IsSymbol declares) mid = frames-next flat means implied files outsides source units (IsSymbol declares) ends-symbols before behind unit state reader mid next a b at one made none is.symbols in
      record {
        seen_so = seen-next flat means implied files outsides source units foreign before behind unit state reader seen mid next a b is.seen_so one made none;
        symbols = symbols;
        faces = unit-faces flat text means implied files outsides words state reader unit mid a is.faces one;
        leaves = unit-leave flat text means implied files outsides words state reader unit mid a is.leaves one;
        leads = unit-lead flat text means implied files outsides words state reader unit mid a is.leads (left symbols at) one;
      }
    where
      left : AreFramesSo (IsSymbol declares) mid → IsAt outsides source units before (unit ∷ behind) state → LeavesSymbols text outsides words state unit mid.setting mid.round
      left symbols at m free = by (leads-or declares mid.setting.frame mid.round m symbols.0 symbols.1 free)
        where
          by : (symbol_leads mid.round mid.setting.frame m [] ≡ nowhere) ⊎ IsNoDefinition declares m → (symbol_leads mid.round mid.setting.frame m [] ≡ nowhere) ⊎ Leaves text outsides words state unit m
          by (inl nothing) = inl nothing
          by (inr no_definition) = inr (unit-left before behind unit state m at no_definition)

  -- before the first unit
  pub met-first : (symbols : List Meaning) (leads : Leads) → symbols ≡ symbols_of (outside outsides source units)
      → AreExtended flat text means implied files outsides words (first_scope text.file) (first_scope text.file) (symbol_setting flat means implied files outsides source units symbols)
      (symbol_setting flat means implied files outsides source units symbols).leads units.extends leads
      → IsMet [] units.units (first outsides source units) (record { setting = record { leads = leads; frame = symbols; olds = [] }; round = []; faces = first_scope text.file })
      (first_seen flat means implied files outsides source units symbols)
  met-first symbols leads same extended =
      let reader : Reader = record { setting = record { leads = leads; frame = symbols; olds = [] }; round = []; faces = first_scope text.file } in
      let all : AllByRecursion (IsSymbol declares) symbols = subst (AllByRecursion (IsSymbol declares)) (sym same) (module-symbols declares outsides source units declared names).declared in
      record {
        seen_so = seen-first flat means implied files outsides source units foreign symbols reader same refl refl;
        symbols = (all, tt);
        faces = record { here = (refl, tt, tt); round = tt };
        leaves = (
          extended-leave flat text means implied files outsides words (first_scope text.file) (first_scope text.file) (symbol_setting flat means implied files outsides source units symbols)
              (symbol_setting flat means implied files outsides source units symbols).leads units.extends leads (first-leave symbols) extended,
          tt,
        );
        leads = (
          first-lead flat text means implied files outsides words (first_scope text.file) (first_scope text.file) symbols units.extends leads
              (λ m free. by m (leads-or declares symbols [] m all tt free)) extended,
          tt,
        );
      }
    where
      by : (m : Meaning) → (symbol_leads [] symbols m [] ≡ nowhere) ⊎ IsNoDefinition declares m → (symbol_leads [] symbols m [] ≡ nowhere) ⊎ BringNone text outsides words (first_scope text.file) units.extends m
      by m (inl nothing) = inl nothing
      by m (inr none) = inr (none-brought declares outsides source units m declared none)

  -- ---- modules that trees name

  pub file-at : AreFilesNamed flat files outsides → (before behind : List UnitTree) (state : KindState) (reader : Reader) (seen : List Meaning) → IsMet before behind state reader seen → (new : Meaning → Bool) → new BuiltIn ≡ false → (name : List ℕ)
      → IsFileAt flat text means implied files outsides words state reader new name
  file-at good before behind state reader seen is new built name = by (module_meaning reader.faces.here name) (module_meaning state.modules.here name) refl refl (found-as reader.faces.here state.modules.here name is.faces.here)
    where
      by : (o : Option (Option FlatFace)) (p : Option (Option Outside)) → module_meaning reader.faces.here name ≡ o → module_meaning state.modules.here name ≡ p → IsFoundAs o p → IsFileBy flat text means implied files outsides words state reader new name o
      by None None e f found =
          subst (λ (o : Option (Option FlatFace)). IsFaceBy flat new reader.setting.leads (face_under files o name) (named text outsides words state name)) (sym e)
          (subst (λ (p : Option (Option Outside)). IsFaceBy flat new reader.setting.leads (files name) (module_under outsides p name)) (sym f) (good name new reader.setting.leads is.leaves.0 built))
      by None (Some other) e f found = absurd found
      by (Some face) p e f found = is.leads.0

  -- the tree of a unit is given
  pub tree-given : AreFilesNamed flat files outsides → AreNewThere source units → (before behind : List UnitTree) (unit : UnitTree) (state : KindState) (reader : Reader) (seen : List Meaning) (x : Tree) → IsMet before (unit ∷ behind) state reader seen → unit_trees unit ≡ Cons x Nil
      → IsTreeGivenBy flat text means implied files outsides words (IsFileAt flat text means implied files outsides words) state reader seen x
  tree-given good new before behind unit state reader seen x is tree = record {
    fresh = tree-fresh flat means implied files outsides source units foreign new before behind unit state reader seen x is.seen_so tree;
    nameable = λ name. true;
    names = tree-nameable source x;
    faces = λ name can. file-at good before (unit ∷ behind) state reader seen is (λ m. is_seen (map (meant text) (within x)) m) (none-built text (within x)) name;
  }

  -- ---- what can be read

  -- faces of modules that can be named are theirs
  pub named-reads : ((name : List ℕ) → ReadsAs (files name) (outsides name)) → (faces : Scope FlatFace) (modules : Scope Outside) → FacesReadAs faces modules → (name : List ℕ)
      → ReadsAs (face_in flat text means implied files outsides words faces name) (named_in text outsides words modules name)
  named-reads reads faces modules is name = by (module_meaning faces.here name) (module_meaning modules.here name) (found-as faces.here modules.here name is.here)
    where
      by : (o : Option (Option FlatFace)) (p : Option (Option Outside)) → IsFoundAs o p → ReadsAs (face_under files o name) (module_under outsides p name)
      by None None found = reads name
      by None (Some other) found = absurd found
      by (Some other) None found = absurd found
      by (Some None) (Some None) found = record { parameters = refl; constant = refl }
      by (Some None) (Some (Some one)) found = absurd found
      by (Some (Some face)) (Some None) found = absurd found
      by (Some (Some face)) (Some (Some one)) found = found

  pub unit-read : AreUnitsRead means implied outsides source units → ((name : List ℕ) → ReadsAs (files name) (outsides name)) → (before behind : List UnitTree) (unit : UnitTree) (state : KindState) (reader : Reader) (seen : List Meaning) → IsMet before (unit ∷ behind) state reader seen
      → IsReadableUnit text (known_at text outsides words state unit) (named text outsides words state) means implied (face_in flat text means implied files outsides words reader.faces) state.read.place.here.context unit
  unit-read read reads before behind unit state reader seen is =
      let at = is.seen_so.at in
      let faces : List ℕ → FlatFace = face_in flat text means implied files outsides words reader.faces in
      subst (λ (s : KindState). IsReadableUnit text (known_at text outsides words s unit) (named text outsides words s) means implied faces s.read.place.here.context unit) (sym at.same)
      (read faces before behind unit at.split
      (λ name. subst (λ (s : KindState). ReadsAs (faces name) (named text outsides words s name)) at.same (named-reads reads reader.faces state.modules is.faces name)))
