-- Symbols of a module can be used in it, or are declared by units behind. So own symbols of a nested module are none of the modules round it.
use Rattle.std.proofs.Common.{◌≡◌, ℕ, suc, Bool, true, false, cond, List, [], ◌∷◌, ◌++◌, ◌⊎◌, inl, inr, Option, Some, is_some, refl, sym, ap, subst, ◌∙◌, drop, length}
use Rattle.std.specs.List.{AllByRecursion}
use Rattle.std.proofs.lemmas.Bool.{and_parts, false≢true}
use Rattle.tla_tree.specs.declared.form.Form.TheVariants as Form
use Rattle.tla_tree.specs.Syntax.{Tree, Node}
use Rattle.unit_grammar.specs.Units.{UnitTree, Variables, Constants, OperatorDefinition, FunctionDefinition, ModuleDefinition, Instance, Assumption, Theorem, Line, ModuleBegin, ModuleEnd}
use Rattle.tla_model.specs.declared.ids.DeclId.{DeclId}
use Rattle.tla_model.specs.declared.names.Binder.{Binder}
use Rattle.tla_model.specs.declared.names.Meaning.TheVariants.{BuiltIn, Declared}
use Rattle.tla_model.specs.declared.entity.Entity.TheVariants as entity
use Rattle.tla_model.specs.Contexts.{Context, meaning_of, usable}
use Rattle.tla_model.specs.Entities.{Meaning, Text, declaration, meant, name_of, same_decl, same_meaning, same_units, variables}
use Rattle.tla_model.specs.Scopes.{definition}
use Rattle.tla_model.specs.Tables.{Named, Word, find, has}
use Rattle.tla_model.specs.Same.{decl-equal, units-equal}
use Rattle.module_model.specs.Exports.{exports_of, is_meant, stands_behind}
use Rattle.module_model.specs.Instances.{own_parameters}
use Rattle.module_model.specs.Modules.{Reading, constants, declare_all, joined, left, with_entry}
use Rattle.module_model.specs.Resolution.{instance_brings}
use Rattle.kind_text.specs.FlatModule.{FlatModule}
use Rattle.tree_kinds.specs.Standing.{Outside, is_bound}
use Rattle.module_kinds.specs.ModuleKinds.{KindState, after, views}
use Rattle.flat_kinds.specs.Declarations.{Declarations}
use Rattle.flat_kinds.specs.Symbols.{same_declared, same_symbol}
use Rattle.flat_trees.specs.Layouts.{order_of}
use Rattle.flattened_trees.specs.declared.End.TheVariants as end
use Rattle.flattened_trees.specs.Leads.{FlatFace, Leads, Setting, nowhere, only}
use Rattle.flattened_trees.specs.Questions.{Question}
use Rattle.flattened_units.specs.Units.{IsEnded, IsUnitMade, Reader, meanings_of, no_leads, with_symbols}
use Rattle.module_meanings.specs.Premises.{symbol_leads}
use Rattle.accepted_modules.proofs.Contexts.{usable-found}
use Rattle.accepted_modules.proofs.Symbols.{IsSymbol, brings-behind, defined-none, no-symbol}
use Rattle.accepted_modules.proofs.Tables.{IsThere, put-finds, there-holds}
use Rattle.fresh_names.specs.Seen.{IsDeclaredBy, symbols_in}
use Rattle.fresh_names.proofs.Kept.{left as left-declared, right as right-declared}
use Rattle.given_modules.proofs.Inside.{AreInside, Continues}
use Rattle.given_modules.proofs.NestedExtending.{joined-come}

module _ (text : Text) where
  -- one of these names means this
  abbrev pub IsOneOf : List Binder → Meaning → Type 0
  IsOneOf [] m = ⊥
  IsOneOf (b ∷ bs) m = (meant text b ≡ m) ⊎ IsOneOf bs m

  -- what can be used behind declarations could be before, or is one of these
  pub declared-come : (local : Bool) (reading : Reading) (binders : List Binder) (name : Named) (m : Meaning) → meaning_of (declare_all text local reading binders).context name ≡ Some m → (meaning_of reading.context name ≡ Some m) ⊎ IsOneOf binders m
  declared-come local reading [] name m at = inl at
  declared-come local reading (b ∷ bs) name m at =
      by (has reading.context (name_of text.source b.name)) (declared-come local (cond (has reading.context (name_of text.source b.name)) reading (with_entry local reading (name_of text.source b.name) (meant text b))) bs name m at)
    where
      put-come : (find reading.context name ≡ Some (Some m)) ⊎ ((name ≡ name_of text.source b.name) × (Some (meant text b) ≡ Some m)) → (meaning_of reading.context name ≡ Some m) ⊎ IsOneOf (b ∷ bs) m
      put-come (inl before) = inl (ap usable before)
      put-come (inr same) = inr (inl (cc same.1))

      by : (c : Bool) → (meaning_of (cond c reading (with_entry local reading (name_of text.source b.name) (meant text b))).context name ≡ Some m) ⊎ IsOneOf bs m → (meaning_of reading.context name ≡ Some m) ⊎ IsOneOf (b ∷ bs) m
      by c (inr later) = inr (inr later)
      by true (inl before) = inl before
      by false (inl before) = put-come (put-finds reading.context (name_of text.source b.name) (Some (meant text b)) name (Some m) (usable-found (find (with_entry local reading (name_of text.source b.name) (meant text b)).context name) m before))

  -- units behind declare a symbol
  abbrev pub IsLater : List UnitTree → Meaning → Type 0
  IsLater units BuiltIn = ⊥
  IsLater units (Declared e callee) = IsDeclaredBy text (symbols_in units) callee.decl × (callee.via ≡ [])

  one-declared : (binders : List Binder) (m : Meaning) → IsOneOf binders m → (more : List Binder) → ((decl : DeclId) → IsDeclaredBy text binders decl → IsDeclaredBy text more decl) → (units : List UnitTree) → more ≡ symbols_in units → IsLater units m
  one-declared [] m one more among units same = absurd one
  one-declared (b ∷ bs) m (inl is) more among units same = subst (IsLater units) is (subst (λ (xs : List Binder). IsDeclaredBy text xs (declaration text b.name)) same (among (declaration text b.name) (inl refl)), refl)
  one-declared (b ∷ bs) m (inr one) more among units same = one-declared bs m one more (λ decl declared. among decl (inr declared)) units same

  none-one : (binders : List Binder) (m : Meaning) → AllByRecursion (λ (b : Binder). IsSymbol (meant text b) → ⊥) binders → IsSymbol m → IsOneOf binders m → ⊥
  none-one [] m never symbol one = one
  none-one (b ∷ bs) m never symbol (inl is) = never.0 (subst IsSymbol (sym is) symbol)
  none-one (b ∷ bs) m never symbol (inr one) = none-one bs m never.1 symbol one

  module _ (declares : Declarations) where
    -- the name of a declaration
    abbrev pub name_in : Meaning → Named
    name_in BuiltIn = Word []
    name_in (Declared e callee) = (declares callee.decl).0

    -- a symbol can be used under its name, or is declared later
    pub record IsComing (units : List UnitTree) (context : Context) (m : Meaning) : Type 0 where
      pub symbol : IsSymbol m
      pub comes : (meaning_of context (name_in m) ≡ Some m) ⊎ IsLater units m

    -- so do the symbols of a module, and of those round it
    abbrev pub AreComing : List UnitTree → Reading → List Reading → List Meaning → List Setting → Type 0
    AreComing units here [] frame [] = AllByRecursion (IsComing units here.context) frame
    AreComing units here (outer ∷ readings) frame (setting ∷ settings) = AllByRecursion (IsComing units here.context) (drop (length setting.frame) frame) × AreComing units outer readings setting.frame settings
    AreComing units here readings frame settings = ⊥

    -- what comes behind a unit comes before it
    abbrev ComesBack : List UnitTree → List UnitTree → Context → Context → Type 0
    ComesBack units behind context next = (m : Meaning) → IsComing behind next m → IsComing units context m

    all-back : (units behind : List UnitTree) (context next : Context) → ComesBack units behind context next → (ms : List Meaning) → AllByRecursion (IsComing behind next) ms → AllByRecursion (IsComing units context) ms
    all-back units behind context next back [] all = tt
    all-back units behind context next back (m ∷ ms) all = (back m all.0, all-back units behind context next back ms all.1)

    -- modules round a place, of which more is declared later
    round-back : (units behind : List UnitTree) → ((m : Meaning) → IsLater behind m → IsLater units m) → (here : Reading) (readings : List Reading) (frame : List Meaning) (settings : List Setting) → AreComing behind here readings frame settings → AreComing units here readings frame settings
    round-back units behind later here [] frame [] is = all-back units behind here.context here.context (λ m one. record { symbol = one.symbol; comes = which m one.comes }) frame is
      where
        which : (m : Meaning) → (meaning_of here.context (name_in m) ≡ Some m) ⊎ IsLater behind m → (meaning_of here.context (name_in m) ≡ Some m) ⊎ IsLater units m
        which m (inl now) = inl now
        which m (inr then) = inr (later m then)
    round-back units behind later here (outer ∷ readings) frame (setting ∷ settings) is = (
      all-back units behind here.context here.context (λ m one. record { symbol = one.symbol; comes = which m one.comes }) (drop (length setting.frame) frame) is.0,
      round-back units behind later outer readings setting.frame settings is.1,
    )
      where
        which : (m : Meaning) → (meaning_of here.context (name_in m) ≡ Some m) ⊎ IsLater behind m → (meaning_of here.context (name_in m) ≡ Some m) ⊎ IsLater units m
        which m (inl now) = inl now
        which m (inr then) = inr (later m then)
    round-back units behind later here [] frame (setting ∷ settings) is = absurd is
    round-back units behind later here (outer ∷ readings) frame [] is = absurd is

    here-back : (units behind : List UnitTree) → ((m : Meaning) → IsLater behind m → IsLater units m) → (here next : Reading) (readings : List Reading) (frame : List Meaning) (settings : List Setting)
        → ((m : Meaning) → IsSymbol m → meaning_of next.context (name_in m) ≡ Some m → (meaning_of here.context (name_in m) ≡ Some m) ⊎ IsLater units m) → AreComing behind next readings frame settings → AreComing units here readings frame settings
    here-back units behind later here next readings frame settings back is = by readings settings is
      where
        which : (m : Meaning) → IsSymbol m → (meaning_of next.context (name_in m) ≡ Some m) ⊎ IsLater behind m → (meaning_of here.context (name_in m) ≡ Some m) ⊎ IsLater units m
        which m symbol (inl now) = back m symbol now
        which m symbol (inr then) = inr (later m then)

        each : (ms : List Meaning) → AllByRecursion (IsComing behind next.context) ms → AllByRecursion (IsComing units here.context) ms
        each ms all = all-back units behind here.context next.context (λ m one. record { symbol = one.symbol; comes = which m one.symbol one.comes }) ms all

        by : (readings : List Reading) (settings : List Setting) → AreComing behind next readings frame settings → AreComing units here readings frame settings
        by [] [] all = each frame all
        by (outer ∷ rest) (setting ∷ others) all = (each (drop (length setting.frame) frame) all.0, round-back units behind later outer rest setting.frame others all.1)
        by [] (setting ∷ others) all = absurd all
        by (outer ∷ rest) [] all = absurd all

    -- ---- none of the modules round

    -- a name that means the same as one that is not declared behind, and cannot be used there
    module _ (units : List UnitTree) (context : Context) (o : Meaning) (unused : has context (name_in o) ≡ false)
        (apart : (decl : DeclId) → IsDeclaredBy text (symbols_in units) decl → same_meaning (Declared entity.Variable (record { instance = 0; decl = decl; via = [] })) o ≡ false) where
      name-same : (m s : Meaning) → same_meaning m o ≡ true → same_symbol m s ≡ true → name_in s ≡ name_in o
      name-same BuiltIn s one same = absurd (cc same)
      name-same (Declared e a) BuiltIn one same = absurd (cc same)
      name-same (Declared e a) (Declared f b) one same = by o one
        where
          by : (other : Meaning) → same_meaning (Declared e a) other ≡ true → name_in (Declared f b) ≡ name_in other
          by BuiltIn one = absurd (cc one)
          by (Declared g d) one =
              let first = decl-equal a.decl d.decl (and_parts (same_decl a.decl d.decl) (same_units a.via d.via) one).0 in
              let means = (and_parts (same_declared e f) (same_meaning (Declared e a) (Declared f b)) same).1 in
              let second = decl-equal a.decl b.decl (and_parts (same_decl a.decl b.decl) (same_units a.via b.via) means).0 in
              ap (λ (d : DeclId). (declares d).0) (sym second ∙ first)

      later-never : (m s : Meaning) → same_meaning m o ≡ true → same_symbol m s ≡ true → IsLater units s → ⊥
      later-never BuiltIn s one same later = cc same
      later-never (Declared e a) BuiltIn one same later = cc same
      later-never (Declared e a) (Declared f b) one same later =
          let means = (and_parts (same_declared e f) (same_meaning (Declared e a) (Declared f b)) same).1 in
          let parts = and_parts (same_decl a.decl b.decl) (same_units a.via b.via) means in
          let decl : a.decl ≡ b.decl = decl-equal a.decl b.decl parts.0 in
          let via : a.via ≡ [] = units-equal a.via b.via parts.1 ∙ later.1 in
          let never = apart b.decl later.0 in
          false≢true (sym never ∙ moved o one (sym decl) via)
        where
          moved : (other : Meaning) → same_meaning (Declared e a) other ≡ true → b.decl ≡ a.decl → a.via ≡ [] → same_meaning (Declared entity.Variable (record { instance = 0; decl = b.decl; via = [] })) other ≡ true
          moved BuiltIn one decl via = absurd (cc one)
          moved (Declared g d) one decl via =
              ap (λ (other : DeclId). same_meaning (Declared entity.Variable (record { instance = 0; decl = other; via = [] })) (Declared g d)) decl
              ∙ ap (λ through. same_meaning (Declared entity.Variable (record { instance = 0; decl = a.decl; via = through })) (Declared g d)) (sym via) ∙ one

      symbol-never : (here : Context) (m s : Meaning) → Continues here context → same_meaning m o ≡ true → IsComing units here s → same_symbol m s ≡ true → ⊥
      symbol-never here m s inside one coming same = by coming.comes
        where
          by : (meaning_of here (name_in s) ≡ Some s) ⊎ IsLater units s → ⊥
          by (inl now) =
              let there : find context (name_in s) ≡ Some (Some s) = inside (name_in s) (Some s) (usable-found (find here (name_in s)) s now) in
              let used : has context (name_in o) ≡ true = ap (has context) (sym (name-same m s one same)) ∙ ap is_some there in
              false≢true (sym unused ∙ used)
          by (inr later) = later-never m s one same later

      with-none : (here : Context) (m : Meaning) → Continues here context → same_meaning m o ≡ true → (base : Leads) (symbols : List Meaning) (place : ℕ) → AllByRecursion (IsComing units here) symbols → base m [] ≡ nowhere → with_symbols base symbols place m [] ≡ nowhere
      with-none here m inside one base [] place all nothing = nothing
      with-none here m inside one base (s ∷ rest) place all nothing = by (same_symbol m s) refl (with-none here m inside one base rest (suc place) all.1 nothing)
        where
          by : (b : Bool) → same_symbol m s ≡ b → with_symbols base rest (suc place) m [] ≡ nowhere → cond b (only (end.Place place (order_of s)) []) (with_symbols base rest (suc place) m []) ≡ nowhere
          by true same later = absurd (symbol-never here m s inside one all.0 same)
          by false same later = later

      no-leaf : (m : Meaning) → same_meaning m o ≡ true → is_bound m ≡ false → IsSymbol o → no_leads m [] ≡ nowhere
      no-leaf BuiltIn one free symbol = by o one symbol
        where
          by : (other : Meaning) → same_meaning BuiltIn other ≡ true → IsSymbol other → no_leads BuiltIn [] ≡ nowhere
          by BuiltIn one symbol = absurd (cc symbol)
          by (Declared e callee) one symbol = absurd (cc one)
      no-leaf (Declared (entity.Bound state) callee) one free symbol = absurd (cc free)
      no-leaf (Declared e callee) one free symbol = refl

      -- it leads nowhere in the modules round
      pub leads-none : (here : Reading) (readings : List Reading) (frame : List Meaning) (settings : List Setting) → Continues here.context context → AreInside here readings → AreComing units here readings frame settings → (m : Meaning) → same_meaning m o ≡ true → is_bound m ≡ false → IsSymbol o
          → symbol_leads settings frame m [] ≡ nowhere
      leads-none here [] frame [] more inside coming m one free symbol = with-none here.context m more one no_leads frame 0 coming (no-leaf m one free symbol)
      leads-none here (outer ∷ readings) frame (setting ∷ settings) more inside coming m one free symbol =
          with-none here.context m more one (symbol_leads settings setting.frame) (drop (length setting.frame) frame) (length setting.frame) coming.0
          (leads-none outer readings setting.frame settings (λ name there at. more name there (inside.0 name there at)) inside.1 coming.1 m one free symbol)
      leads-none here [] frame (setting ∷ settings) more inside coming m one free symbol = absurd coming
      leads-none here (outer ∷ readings) frame [] more inside coming m one free symbol = absurd coming

  -- ---- units

  module _ (flat : FlatModule) (means : ℕ → Option Meaning) (implied : ℕ → List Meaning) (files : List ℕ → FlatFace) (outsides : List ℕ → Outside) (words : List ℕ) (declares : Declarations) where
    -- at a unit
    abbrev pub IsComingAt : List UnitTree → KindState → Reader → Type 0
    IsComingAt units state reader = AreComing declares units state.read.place.here state.read.place.round reader.setting.frame reader.round

    defined-back : (local : Bool) (x : Tree) (unit : UnitTree) (behind : List UnitTree) (here : Reading) (m : Meaning) → IsSymbol m → meaning_of (declare_all text local here (definition x)).context (name_in declares m) ≡ Some m → (meaning_of here.context (name_in declares m) ≡ Some m) ⊎ IsLater (unit ∷ behind) m
    defined-back local x unit behind here m symbol at = by (declared-come local here (definition x) (name_in declares m) m at)
      where
        by : (meaning_of here.context (name_in declares m) ≡ Some m) ⊎ IsOneOf (definition x) m → (meaning_of here.context (name_in declares m) ≡ Some m) ⊎ IsLater (unit ∷ behind) m
        by (inl before) = inl before
        by (inr one) = absurd (none-one (definition x) m (defined-none text x) symbol one)

    same-later : (unit : UnitTree) (behind : List UnitTree) → symbols_in (unit ∷ behind) ≡ symbols_in behind → (m : Meaning) → IsLater behind m → IsLater (unit ∷ behind) m
    same-later unit behind same BuiltIn later = later
    same-later unit behind same (Declared e callee) later = (subst (λ (xs : List Binder). IsDeclaredBy text xs callee.decl) (sym same) later.0, later.1)

    more-later : (own : List Binder) (unit : UnitTree) (behind : List UnitTree) → own ++ symbols_in behind ≡ symbols_in (unit ∷ behind) → (m : Meaning) → IsLater behind m → IsLater (unit ∷ behind) m
    more-later own unit behind same BuiltIn later = later
    more-later own unit behind same (Declared e callee) later = (subst (λ (xs : List Binder). IsDeclaredBy text xs callee.decl) same (right-declared text own (symbols_in behind) callee.decl later.0), later.1)

    own-back : (own : List Binder) (unit : UnitTree) (behind : List UnitTree) → own ++ symbols_in behind ≡ symbols_in (unit ∷ behind) → (here : Reading) (m : Meaning) → IsSymbol m → meaning_of (declare_all text false here own).context (name_in declares m) ≡ Some m
        → (meaning_of here.context (name_in declares m) ≡ Some m) ⊎ IsLater (unit ∷ behind) m
    own-back own unit behind same here m symbol at = by (declared-come false here own (name_in declares m) m at)
      where
        by : (meaning_of here.context (name_in declares m) ≡ Some m) ⊎ IsOneOf own m → (meaning_of here.context (name_in declares m) ≡ Some m) ⊎ IsLater (unit ∷ behind) m
        by (inl before) = inl before
        by (inr one) = inr (one-declared own m one (own ++ symbols_in behind) (λ decl declared. left-declared text own (symbols_in behind) decl declared) (unit ∷ behind) same)

    pub coming-before : (behind : List UnitTree) (state : KindState) (reader : Reader) (unit : UnitTree) (next : Reader) (asked : List Question) → IsUnitMade flat text means implied files outsides words state reader unit next asked
        → ((outer : Reading) (round : List Reading) → state.read.place.round ≡ outer ∷ round → AllByRecursion (IsComing declares (unit ∷ behind) state.read.place.here.context) (meanings_of (own_parameters outer.context (exports_of state.read.place.here.exports))))
        → IsComingAt behind (after text outsides words state unit) next → IsComingAt (unit ∷ behind) state reader
    coming-before behind state reader (OperatorDefinition local x) next asked made ends is =
        here-back declares (OperatorDefinition local x ∷ behind) behind (same-later (OperatorDefinition local x) behind refl) state.read.place.here _ state.read.place.round reader.setting.frame reader.round (defined-back (is_some local) x (OperatorDefinition local x) behind state.read.place.here)
        (subst (λ (r : Reader). IsComingAt behind (after text outsides words state (OperatorDefinition local x)) r) made.3 is)
    coming-before behind state reader (FunctionDefinition local x) next asked made ends is =
        here-back declares (FunctionDefinition local x ∷ behind) behind (same-later (FunctionDefinition local x) behind refl) state.read.place.here _ state.read.place.round reader.setting.frame reader.round (defined-back (is_some local) x (FunctionDefinition local x) behind state.read.place.here)
        (subst (λ (r : Reader). IsComingAt behind (after text outsides words state (FunctionDefinition local x)) r) made.3 is)
    coming-before behind state reader (ModuleDefinition local x) next asked made ends is =
        here-back declares (ModuleDefinition local x ∷ behind) behind (same-later (ModuleDefinition local x) behind refl) state.read.place.here _ state.read.place.round reader.setting.frame reader.round (defined-back (is_some local) x (ModuleDefinition local x) behind state.read.place.here)
        (subst (λ (r : Reader). IsComingAt behind (after text outsides words state (ModuleDefinition local x)) r) made.3 is)
    coming-before behind state reader (Instance local x) next asked made ends is =
        here-back declares (Instance local x ∷ behind) behind (same-later (Instance local x) behind refl) state.read.place.here _ state.read.place.round reader.setting.frame reader.round back (by x made is)
      where
        back : (m : Meaning) → IsSymbol m → meaning_of (joined (is_some local) state.read.place.here (instance_brings text (views text outsides words) words state.read x)).context (name_in declares m) ≡ Some m → (meaning_of state.read.place.here.context (name_in declares m) ≡ Some m) ⊎ IsLater (Instance local x ∷ behind) m
        back m symbol at = which (joined-come (is_some local) state.read.place.here (instance_brings text (views text outsides words) words state.read x) (name_in declares m) m at)
          where
            which : (meaning_of state.read.place.here.context (name_in declares m) ≡ Some m) ⊎ IsThere (instance_brings text (views text outsides words) words state.read x) (name_in declares m) m → (meaning_of state.read.place.here.context (name_in declares m) ≡ Some m) ⊎ IsLater (Instance local x ∷ behind) m
            which (inl before) = inl before
            which (inr there) =
                absurd (no-symbol m (there-holds (λ (entry : Named × Meaning). is_meant stands_behind entry.1 ≡ true) (instance_brings text (views text outsides words) words state.read x) (name_in declares m) m (brings-behind text (views text outsides words) words state.read x) there) symbol)

        by : (x : Tree) → IsUnitMade flat text means implied files outsides words state reader (Instance local x) next asked → IsComingAt behind (after text outsides words state (Instance local x)) next → IsComingAt behind (after text outsides words state (Instance local x)) reader
        by (Node (Form.Instance l) s rights) made is = subst (λ (r : Reader). IsComingAt behind (after text outsides words state (Instance local (Node (Form.Instance l) s rights))) r) made.7 is
        by (Node Form.Let s rights) made is = subst (λ (r : Reader). IsComingAt behind (after text outsides words state (Instance local (Node Form.Let s rights))) r) made.0 is
        by (Node form s rights) made is = subst (λ (r : Reader). IsComingAt behind (after text outsides words state (Instance local (Node form s rights))) r) made.0 is
    coming-before behind state reader (Assumption word name x) next asked made ends is =
        round-back declares (Assumption word name x ∷ behind) behind (same-later (Assumption word name x) behind refl) state.read.place.here state.read.place.round reader.setting.frame reader.round (subst (λ (r : Reader). IsComingAt behind state r) made.3 is)
    coming-before behind state reader (Theorem word name x) next asked made ends is =
        round-back declares (Theorem word name x ∷ behind) behind (same-later (Theorem word name x) behind refl) state.read.place.here state.read.place.round reader.setting.frame reader.round (subst (λ (r : Reader). IsComingAt behind state r) made.3 is)
    coming-before behind state reader (ModuleBegin dashes name extends) next asked made ends is =
        let inner = subst (λ (r : Reader). IsComingAt behind (after text outsides words state (ModuleBegin dashes name extends)) r) made.0.2.1 is in
        round-back declares (ModuleBegin dashes name extends ∷ behind) behind (same-later (ModuleBegin dashes name extends) behind refl) state.read.place.here state.read.place.round reader.setting.frame reader.round inner.1
    coming-before behind state reader (ModuleEnd closing) next asked made ends is = by state.read.place.round reader.round made.0 ends is
      where
        by : (round : List Reading) (settings : List Setting) → IsEnded flat text means implied files outsides words state round reader settings next
            → ((outer : Reading) (rest : List Reading) → round ≡ outer ∷ rest → AllByRecursion (IsComing declares (ModuleEnd closing ∷ behind) state.read.place.here.context) (meanings_of (own_parameters outer.context (exports_of state.read.place.here.exports))))
            → AreComing declares behind (left state.read.known state.read.place.here round).here (left state.read.known state.read.place.here round).round next.setting.frame next.round → AreComing declares (ModuleEnd closing ∷ behind) state.read.place.here round reader.setting.frame settings
        by [] settings made ends is = absurd made
        by (outer ∷ round) [] made ends is = absurd made
        by (outer ∷ round) (setting ∷ settings) made ends is = (
          subst (AllByRecursion (IsComing declares (ModuleEnd closing ∷ behind) state.read.place.here.context)) made.0 (ends outer round refl),
          here-back declares (ModuleEnd closing ∷ behind) behind (same-later (ModuleEnd closing) behind refl) outer (left state.read.known state.read.place.here (outer ∷ round)).here round setting.frame settings (λ m symbol at. inl at)
              (subst (λ (r : Reader). AreComing declares behind (left state.read.known state.read.place.here (outer ∷ round)).here round r.setting.frame r.round) made.1 is),
        )
    coming-before behind state reader (Variables names) next asked made ends is =
        here-back declares (Variables names ∷ behind) behind (more-later (variables names) (Variables names) behind refl) state.read.place.here _ state.read.place.round reader.setting.frame reader.round (own-back (variables names) (Variables names) behind refl state.read.place.here)
        (subst (λ (r : Reader). IsComingAt behind (after text outsides words state (Variables names)) r) made.0 is)
    coming-before behind state reader (Constants declarations) next asked made ends is =
        here-back declares (Constants declarations ∷ behind) behind (more-later (constants declarations) (Constants declarations) behind refl) state.read.place.here _ state.read.place.round reader.setting.frame reader.round (own-back (constants declarations) (Constants declarations) behind refl state.read.place.here)
        (subst (λ (r : Reader). IsComingAt behind (after text outsides words state (Constants declarations)) r) made.0 is)
    coming-before behind state reader (Line dashes) next asked made ends is =
        round-back declares (Line dashes ∷ behind) behind (same-later (Line dashes) behind refl) state.read.place.here state.read.place.round reader.setting.frame reader.round (subst (λ (r : Reader). IsComingAt behind state r) made.0 is)
