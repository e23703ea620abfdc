-- Names that units leave lead behind them where symbols do by themselves.
use Rattle.std.proofs.Common.{◌≡◌, ℕ, suc, Bool, true, false, cond, List, [], ◌∷◌, ◌++◌, ◌⊎◌, inl, inr, Option, Some, None, refl, sym, ap, subst, ◌∙◌, map, length}
use Rattle.std.specs.Str.{bytes_eq}
use Rattle.std.proofs.lemmas.Bool.{false≢true}
use Rattle.std.proofs.Math.Seq.{drop-append_seam}
use Rattle.tla_symbols.specs.declared.lexeme.Lexeme.{Lexeme}
use Rattle.tla_tree.specs.declared.form.Form.TheVariants as Form
use Rattle.tla_tree.specs.Syntax.{Tree, Node}
use Rattle.unit_grammar.specs.Derivation.{DerivesModule}
use Rattle.unit_grammar.specs.Units.{UnitTree, Variables, Constants, OperatorDefinition, FunctionDefinition, ModuleDefinition, Instance, Assumption, Theorem, Line, ModuleBegin, ModuleEnd, ModuleUnits}
use Rattle.tla_model.specs.Tables.{Named}
use Rattle.tla_model.specs.declared.names.Meaning.TheVariants.{BuiltIn, Declared}
use Rattle.tla_model.specs.Entities.{Entity, Meaning, Text, meant, same_meaning}
use Rattle.tla_model.specs.Lexemes.{spelled}
use Rattle.tla_model.specs.Scopes.{definition}
use Rattle.module_scope.specs.Environments.{Scope, begun, first as first_scope, meaning, outermost}
use Rattle.module_model.specs.Exports.{Exports, exported, instantiable, is_meant, stands_behind}
use Rattle.module_model.specs.Modules.{Reading, left, text_of}
use Rattle.module_model.specs.Resolution.{ReadState, instance_brings, words_of}
use Rattle.kind_text.specs.FlatModule.{FlatModule}
use Rattle.tree_kinds.specs.Standing.{Outside, name_among}
use Rattle.module_kinds.specs.ModuleKinds as k
use Rattle.module_kinds.specs.ModuleKinds.{KindState, after, views}
use Rattle.flat_kinds.specs.Declarations.{AreDeclared, Declarations, IsDeclared, IsNoDefinition, IsOutsideDeclared}
use Rattle.flat_kinds.specs.Readings.{BringNone, Leaves, extended_entries, is_among}
use Rattle.flat_kinds.specs.Symbols.{same_symbol}
use Rattle.flat_trees.specs.Layouts.{order_of}
use Rattle.flattened_trees.specs.declared.End.TheVariants as end
use Rattle.flattened_trees.specs.Leads.{FlatFace, Lead, Leads, Setting, behind, only, with_leads}
use Rattle.flattened_trees.specs.Questions.{Question}
use Rattle.flattened_units.specs.Units.{AreExtended, AreUnitsMade, IsEnded, IsModuleMade, IsUnitMade, Reader, coming_lead, face_in, no_leads, with_brought, with_symbols}
use Rattle.module_meanings.specs.Premises.{symbol_leads}
use Rattle.accepted_modules.specs.Leading.{LeadsByItself}
use Rattle.accepted_modules.proofs.Naming.{among-there, leads-left, same-declared}
use Rattle.accepted_modules.proofs.Tables.{there-holds, there-passed}
use Rattle.accepted_modules.proofs.Symbols.{module-round}
use Rattle.accepted_modules.proofs.Views.{read-same}

-- ---- what leaves a name

brought-left : (leads : Leads) (entries : Exports) (j : ℕ) (face : FlatFace) (m : Meaning) (names : List Named) → name_among entries m ≡ None → with_brought leads entries j face m names ≡ leads m names
brought-left leads entries j face m names none = ap (coming_lead j face (leads m names) names) none

-- symbols lead so, by where the name leads beside them
pub symbols-on : (one two : Leads) (symbols : List Meaning) (place : ℕ) (m : Meaning) (names : List Named) → one m names ≡ two m names → with_symbols one symbols place m names ≡ with_symbols two symbols place m names
symbols-on one two [] place m names same = same
symbols-on one two (symbol ∷ rest) place m names same = ap (λ lead. cond (same_symbol m symbol) (only (end.Place place (order_of symbol)) names) lead) (symbols-on one two rest (suc place) m names same)

-- ---- settings

leading-first : (m : Meaning) (setting : Setting) (round : List Setting) → LeadsByItself m setting round → (names : List Named) → setting.leads m names ≡ symbol_leads round setting.frame m names
leading-first m setting [] is = is
leading-first m setting (outer ∷ round) is = is.0

with-leading : (m : Meaning) (setting : Setting) (leads : Leads) (olds : List ℕ) (round : List Setting) → ((names : List Named) → leads m names ≡ setting.leads m names) → LeadsByItself m setting round → LeadsByItself m (record { leads = leads; frame = setting.frame; olds = olds }) round
with-leading m setting leads olds [] same is = λ names. same names ∙ is names
with-leading m setting leads olds (outer ∷ round) same is = ((λ names. same names ∙ is.0 names), is.1)

-- as many modules are round both
abbrev pub AreAsDeep : List Setting → List Reading → Type 0
AreAsDeep [] [] = Unit {0}
AreAsDeep (setting ∷ settings) (reading ∷ readings) = AreAsDeep settings readings
AreAsDeep settings readings = ⊥

module _ (flat : FlatModule) (text : Text) (means : ℕ → Option Meaning) (implied : ℕ → List Meaning) (files : List ℕ → FlatFace) (outsides : List ℕ → Outside) (words : List ℕ) where
  pub extended-left : (modules : Scope Outside) (faces : Scope FlatFace) (setting : Setting) (leads : Leads) (ls : List Lexeme) (next : Leads) (m : Meaning) → AreExtended flat text means implied files outsides words modules faces setting leads ls next → BringNone text outsides words modules ls m → (names : List Named) → next m names ≡ leads m names
  extended-left modules faces setting leads [] next m made none names = ap (λ (l : Leads). l m names) made
  extended-left modules faces setting leads (l ∷ rest) next m made none names =
      let face : FlatFace = face_in flat text means implied files outsides words faces (spelled text.source l) in
      let entries : Exports = extended_entries text outsides words modules l in
      extended-left modules faces setting (with_brought leads entries made.0 face) rest next m made.2 none.1 names ∙ brought-left leads entries made.0 face m names none.0

  -- ---- units

  -- it leads so at a reader
  abbrev pub LeadsAt : Meaning → Reader → Type 0
  LeadsAt m reader = LeadsByItself m reader.setting reader.round

  defined-leads : (reader : Reader) (x : Tree) (lead : List Named → Lead) (m : Meaning) → is_among (map (meant text) (definition x)) m ≡ false → LeadsAt m reader → LeadsByItself m (behind text reader.setting x lead) reader.round
  defined-leads reader x lead m apart is = with-leading m reader.setting (with_leads reader.setting.leads (map (meant text) (definition x)) lead) reader.setting.olds reader.round (λ names. leads-left reader.setting.leads (map (meant text) (definition x)) lead m names apart) is

  pub unit-leads : (state : KindState) (reader : Reader) (unit : UnitTree) (next : Reader) (asked : List Question) (m : Meaning) → IsUnitMade flat text means implied files outsides words state reader unit next asked → Leaves text outsides words state unit m → LeadsAt m reader → LeadsAt m next
  unit-leads state reader (OperatorDefinition local x) next asked m made leaves is = subst (LeadsAt m) (sym made.3) (defined-leads reader x made.0 m leaves is)
  unit-leads state reader (FunctionDefinition local x) next asked m made leaves is = subst (LeadsAt m) (sym made.3) (defined-leads reader x made.0 m leaves is)
  unit-leads state reader (ModuleDefinition local x) next asked m made leaves is = subst (LeadsAt m) (sym made.3) (defined-leads reader x made.0 m leaves is)
  unit-leads state reader (Instance local x) next asked m made leaves is = by x made leaves
    where
      by : (x : Tree) → IsUnitMade flat text means implied files outsides words state reader (Instance local x) next asked → Leaves text outsides words state (Instance local x) m → LeadsAt m next
      by (Node (Form.Instance l) s rights) made leaves =
          let face : FlatFace = face_in flat text means implied files outsides words reader.faces (spelled text.source l) in
          let entries : Exports = instance_brings text (views text outsides words) words state.read (Node (Form.Instance l) s rights) in
          subst (LeadsAt m) (sym made.7)
          (with-leading m reader.setting (with_brought reader.setting.leads entries made.2 face) reader.setting.olds reader.round (λ names. brought-left reader.setting.leads entries made.2 face m names leaves) is)
      by (Node Form.Let s rights) made leaves = subst (LeadsAt m) (sym made.0) is
      by (Node _ s rights) made leaves = subst (LeadsAt m) (sym made.0) is
  unit-leads state reader (Assumption word name x) next asked m made leaves is = subst (LeadsAt m) (sym made.3) is
  unit-leads state reader (Theorem word name x) next asked m made leaves is = subst (LeadsAt m) (sym made.3) is
  unit-leads state reader (ModuleBegin dashes name extends) next asked m made leaves is =
      let own : List Meaning = made.0.0 in
      let leads : Leads = made.0.1 in
      let count : ℕ = length reader.setting.frame in
      let symbols : Leads = symbol_leads reader.round reader.setting.frame in
      subst (LeadsAt m) (sym made.0.2.1) (
        (λ names.
            extended-left (begun state.modules (spelled text.source name)) (begun reader.faces (spelled text.source name)) (record { leads = with_symbols reader.setting.leads own count; frame = reader.setting.frame ++ own; olds = [] })
            (with_symbols reader.setting.leads own count) extends leads m made.0.2.0 leaves names
            ∙ (symbols-on reader.setting.leads symbols own count m names (leading-first m reader.setting reader.round is names)
            ∙ ap (λ (ms : List Meaning). with_symbols symbols ms count m names) (sym (drop-append_seam reader.setting.frame own)))),
        is,
      )
  unit-leads state reader (ModuleEnd closing) next asked m made leaves is = by state.read.place.round reader.round made.0 is
    where
      by : (round : List Reading) (settings : List Setting) → IsEnded flat text means implied files outsides words state round reader settings next → LeadsByItself m reader.setting settings → LeadsAt m next
      by [] settings made is = absurd made
      by (outer ∷ round) [] made is = absurd made
      by (outer ∷ round) (setting ∷ settings) made is = subst (LeadsAt m) (sym made.1) is.1
  unit-leads state reader (Variables names) next asked m made leaves is = subst (LeadsAt m) (sym made.0) is
  unit-leads state reader (Constants declarations) next asked m made leaves is = subst (LeadsAt m) (sym made.0) is
  unit-leads state reader (Line dashes) next asked m made leaves is = subst (LeadsAt m) (sym made.0) is

  -- ---- readers end

  unit-deep : (state : KindState) (reader : Reader) (unit : UnitTree) (next : Reader) (asked : List Question) → IsUnitMade flat text means implied files outsides words state reader unit next asked → AreAsDeep reader.round state.read.place.round → AreAsDeep next.round (after text outsides words state unit).read.place.round
  unit-deep state reader (OperatorDefinition local x) next asked made is = subst (λ (r : Reader). AreAsDeep r.round state.read.place.round) (sym made.3) is
  unit-deep state reader (FunctionDefinition local x) next asked made is = subst (λ (r : Reader). AreAsDeep r.round state.read.place.round) (sym made.3) is
  unit-deep state reader (ModuleDefinition local x) next asked made is = subst (λ (r : Reader). AreAsDeep r.round state.read.place.round) (sym made.3) is
  unit-deep state reader (Instance local x) next asked made is = by x made
    where
      by : (x : Tree) → IsUnitMade flat text means implied files outsides words state reader (Instance local x) next asked → AreAsDeep next.round state.read.place.round
      by (Node (Form.Instance l) s rights) made = subst (λ (r : Reader). AreAsDeep r.round state.read.place.round) (sym made.7) is
      by (Node Form.Let s rights) made = subst (λ (r : Reader). AreAsDeep r.round state.read.place.round) (sym made.0) is
      by (Node _ s rights) made = subst (λ (r : Reader). AreAsDeep r.round state.read.place.round) (sym made.0) is
  unit-deep state reader (Assumption word name x) next asked made is = subst (λ (r : Reader). AreAsDeep r.round state.read.place.round) (sym made.3) is
  unit-deep state reader (Theorem word name x) next asked made is = subst (λ (r : Reader). AreAsDeep r.round state.read.place.round) (sym made.3) is
  unit-deep state reader (ModuleBegin dashes name extends) next asked made is = subst (λ (r : Reader). AreAsDeep r.round (state.read.place.here ∷ state.read.place.round)) (sym made.0.2.1) is
  unit-deep state reader (ModuleEnd closing) next asked made is = by state.read.place.round reader.round made.0 is
    where
      by : (round : List Reading) (settings : List Setting) → IsEnded flat text means implied files outsides words state round reader settings next → AreAsDeep settings round → AreAsDeep next.round (left state.read.known state.read.place.here round).round
      by [] settings made is = absurd made
      by (outer ∷ round) [] made is = absurd made
      by (outer ∷ round) (setting ∷ settings) made is = subst (λ (r : Reader). AreAsDeep r.round round) (sym made.1) is
  unit-deep state reader (Variables names) next asked made is = subst (λ (r : Reader). AreAsDeep r.round state.read.place.round) (sym made.0) is
  unit-deep state reader (Constants declarations) next asked made is = subst (λ (r : Reader). AreAsDeep r.round state.read.place.round) (sym made.0) is
  unit-deep state reader (Line dashes) next asked made is = subst (λ (r : Reader). AreAsDeep r.round state.read.place.round) (sym made.0) is

  units-deep : (state : KindState) (reader : Reader) (units : List UnitTree) (next : Reader) (asked : List Question) → AreUnitsMade flat text means implied files outsides words state reader units next asked → AreAsDeep reader.round state.read.place.round → AreAsDeep next.round (k.read_all text outsides words state units).read.place.round
  units-deep state reader [] next asked made is = subst (λ (r : Reader). AreAsDeep r.round state.read.place.round) (sym made.0) is
  units-deep state reader (unit ∷ units) next asked made is = units-deep (after text outsides words state unit) made.0 units next made.2 made.4 (unit-deep state reader unit made.0 made.1 made.3 is)

module _ (flat : FlatModule) (means : ℕ → Option Meaning) (implied : ℕ → List Meaning) (files : List ℕ → FlatFace) (outsides : List ℕ → Outside) (source : List ℕ) (units : ModuleUnits) where
  -- no module is round a reader behind all units
  pub reader-ends : (symbols : List Meaning) (final : Reader) (asked : List Question) (a : List Lexeme) → DerivesModule units a → IsModuleMade flat means implied files outsides source units symbols final asked → final.round ≡ []
  reader-ends symbols final asked a derives made =
      let text = text_of source units in
      let words = words_of units in
      let start : KindState = k.first outsides source units in
      let deep = units-deep flat text means implied files outsides words start _ units.units final asked made.2 tt in
      let same : (k.last outsides source units).read.place.round ≡ [] =
      ap (λ (s : ReadState). s.place.round) (read-same text outsides words start units.units) ∙ module-round text (views text outsides words) words derives start.read in
      by final.round (k.last outsides source units).read.place.round deep same
    where
      by : (settings : List Setting) (round : List Reading) → AreAsDeep settings round → round ≡ [] → settings ≡ []
      by [] round deep none = refl
      by (setting ∷ settings) [] deep none = absurd deep
      by (setting ∷ settings) (reading ∷ round) deep none = absurd (cc none)

  -- behind what a module extends
  pub first-leads : (symbols : List Meaning) (faces : Scope FlatFace) (leads : Leads) (m : Meaning)
      → AreExtended flat (text_of source units) means implied files outsides (words_of units) (first_scope (text_of source units).file) faces (record { leads = with_symbols no_leads symbols 0; frame = symbols; olds = [] }) (with_symbols no_leads symbols 0) units.extends leads
      → BringNone (text_of source units) outsides (words_of units) (first_scope (text_of source units).file) units.extends m → LeadsByItself m (record { leads = leads; frame = symbols; olds = [] }) []
  first-leads symbols faces leads m made none =
      extended-left flat (text_of source units) means implied files outsides (words_of units) (first_scope (text_of source units).file) faces (record { leads = with_symbols no_leads symbols 0; frame = symbols; olds = [] }) (with_symbols no_leads symbols 0) units.extends leads m made none

-- ---- what is no definition

-- a name means a file, or the module of the text
abbrev IsOutermost : Option (Option Outside) → Type 0
IsOutermost o = (o ≡ None) ⊎ (o ≡ Some None)

module _ (declares : Declarations) where
  -- what is declared as a definition is not named among definitions as what is not
  definitions-none : (entries : Exports) (m : Meaning) → IsNoDefinition declares m → AreDeclared declares entries → name_among (instantiable entries) m ≡ None
  definitions-none entries m none all = by (name_among (instantiable entries) m) refl
    where
      never : (m n : Meaning) (name : Named) → IsNoDefinition declares m → IsDeclared declares name n → is_meant stands_behind n ≡ true → same_meaning m n ≡ true → ⊥
      never BuiltIn BuiltIn name none declared behind same = cc behind
      never BuiltIn (Declared f y) name none declared behind same = cc same
      never (Declared e x) BuiltIn name none declared behind same = cc behind
      never (Declared e x) (Declared f y) name none declared behind same =
          let kind : (declares x.decl).1 ≡ f = ap (λ d. (declares d).1) (same-declared e f x y same) ∙ ap (λ (p : Named × Entity). p.1) declared in
          false≢true (sym none ∙ (ap stands_behind kind ∙ behind))

      by : (o : Option Named) → name_among (instantiable entries) m ≡ o → o ≡ None
      by None at = refl
      by (Some name) at =
          let there = among-there (instantiable entries) m name at in
          let passed = there-passed (λ (entry : Named × Meaning). is_meant stands_behind entry.1) entries name there.0 there.1 in
          absurd (never m there.0 name none (there-holds (λ entry. IsDeclared declares entry.0 entry.1) entries name there.0 all passed.0) passed.1 there.2)

  -- so no module that is extended brings it
  pub none-brought : (outsides : List ℕ → Outside) (source : List ℕ) (units : ModuleUnits) (m : Meaning) → ((name : List ℕ) → IsOutsideDeclared declares (outsides name)) → IsNoDefinition declares m
      → BringNone (text_of source units) outsides (words_of units) (first_scope (text_of source units).file) units.extends m
  none-brought outsides source units m given none = each units.extends
    where
      view : (o : Option (Option Outside)) (name : List ℕ) → IsOutermost o → AreDeclared declares (exported (k.module_under outsides o name).view)
      view None name is = given name
      view (Some None) name is = tt
      view (Some (Some other)) name (inl is) = absurd (cc is)
      view (Some (Some other)) name (inr is) = absurd (cc is)

      first-means : (title name : List ℕ) → IsOutermost (meaning {Known = Outside} (outermost title) name)
      first-means title name = which (bytes_eq name title)
        where
          which : (b : Bool) → IsOutermost (cond b (Some None) None)
          which true = inr refl
          which false = inl refl

      each : (ls : List Lexeme) → BringNone (text_of source units) outsides (words_of units) (first_scope (text_of source units).file) ls m
      each [] = tt
      each (l ∷ rest) =
          let title : List ℕ = spelled source l in (
            definitions-none (exported (k.named_in (text_of source units) outsides (words_of units) (first_scope (text_of source units).file) title).view) m none
                (view (meaning {Known = Outside} (outermost (text_of source units).file) title) title (first-means (text_of source units).file title)),
            each rest,
          )
