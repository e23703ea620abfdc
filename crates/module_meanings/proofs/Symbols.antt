-- Symbols lead where they do by themselves, behind each unit that leaves them.
use Rattle.std.proofs.Common.{◌≡◌, inl, inr, ℕ, suc, Bool, true, false, cond, List, [], ◌∷◌, ◌++◌, Option, map, refl, sym, ap, ◌∙◌, subst, drop, length}
use Rattle.std.specs.Prelude.{◌⊎◌, ◌||◌}
use Rattle.tla_symbols.specs.declared.lexeme.Lexeme.{Lexeme}
use Rattle.tla_tree.specs.declared.form.Form.TheVariants as Form
use Rattle.tla_tree.specs.Syntax.{Tree, Node}
use Rattle.unit_grammar.specs.Units.{UnitTree, Variables, Constants, OperatorDefinition, FunctionDefinition, ModuleDefinition, Instance, Assumption, Theorem, Line, ModuleBegin, ModuleEnd}
use Rattle.tla_model.specs.Entities.{Meaning, Text, defined, meant}
use Rattle.tla_model.specs.Lexemes.{spelled}
use Rattle.tla_model.specs.Scopes.{definition}
use Rattle.tla_model.specs.Tables.{Named}
use Rattle.module_scope.specs.Environments.{Scope, begun}
use Rattle.module_model.specs.Modules.{Reading}
use Rattle.module_model.specs.Resolution.{instance_brings}
use Rattle.kind_text.specs.FlatModule.{FlatModule}
use Rattle.tree_kinds.specs.Standing.{Outside, is_bound, same_standing}
use Rattle.module_kinds.specs.ModuleKinds.{KindState, views}
use Rattle.flat_trees.specs.Layouts.{order_of}
use Rattle.flat_kinds.specs.Readings.{BringNone, Leaves, is_among}
use Rattle.flat_kinds.specs.Symbols.{same_symbol}
use Rattle.flattened_trees.specs.declared.End.TheVariants as end
use Rattle.flattened_trees.specs.Leads.{FlatFace, Lead, Leads, Setting, nowhere, only, with_lead, with_leads}
use Rattle.flattened_trees.specs.Questions.{Question}
use Rattle.flattened_units.specs.Units.{AreExtended, IsBegun, IsDefinitionMade, IsEnded, IsInstanceMade, IsUnitMade, Reader, coming_lead, entries_in, face_in, no_leads, with_brought, with_symbols}
use Rattle.module_meanings.specs.Premises.{AllSymbolsLead, LeavesSymbols, SymbolsLead, symbol_leads}
use Rattle.module_meanings.proofs.Staying.{leaf-brought_none, leaf-left}

-- ---- what is left leads as before

among-left : (meanings : List Meaning) (leads : Leads) (lead : List Named → Lead) (m : Meaning) → is_among meanings m ≡ false → with_leads leads meanings lead m [] ≡ leads m []
among-left [] leads lead m none = refl
among-left (d ∷ rest) leads lead m none =
    by_same (same_standing m d) refl none (among-left rest (with_lead leads d lead) lead m)
  where
    by_same : (b : Bool) → same_standing m d ≡ b → (b || is_among rest m) ≡ false → (is_among rest m ≡ false → with_leads (with_lead leads d lead) rest lead m [] ≡ with_lead leads d lead m []) → with_leads (with_lead leads d lead) rest lead m [] ≡ leads m []
    by_same true same none again = cc none
    by_same false same none again = again none ∙ ap (λ b. cond b (lead []) (leads m [])) same

-- symbols lead so where others do
also-symbols : (base leads : Leads) (own : List Meaning) (place : ℕ) (m : Meaning) → (base m [] ≡ nowhere) ⊎ (leads m [] ≡ base m []) → (with_symbols base own place m [] ≡ nowhere) ⊎ (with_symbols leads own place m [] ≡ with_symbols base own place m [])
also-symbols base leads [] place m all = all
also-symbols base leads (s ∷ rest) place m all = by_same (same_symbol m s) (also-symbols base leads rest (suc place) m all)
  where
    by_same : (b : Bool) → (with_symbols base rest (suc place) m [] ≡ nowhere) ⊎ (with_symbols leads rest (suc place) m [] ≡ with_symbols base rest (suc place) m [])
        → (cond b (only (end.Place place (order_of s)) []) (with_symbols base rest (suc place) m []) ≡ nowhere) ⊎ (cond b (only (end.Place place (order_of s)) []) (with_symbols leads rest (suc place) m []) ≡ cond b (only (end.Place place (order_of s)) []) (with_symbols base rest (suc place) m []))
    by_same true others = inr refl
    by_same false others = others

front-dropped : (a b : List Meaning) → drop (length a) (a ++ b) ≡ b
front-dropped [] b = refl
front-dropped (x ∷ a) b = front-dropped a b

-- ---- units

module _ (flat : FlatModule) (text : Text) (means : ℕ → Option Meaning) (implied : ℕ → List Meaning) (files : List ℕ → FlatFace) (outsides : List ℕ → Outside) (words : List ℕ) where
  extended-left : (modules : Scope Outside) (faces : Scope FlatFace) (setting : Setting) (leads : Leads) (ls : List Lexeme) (next : Leads) (m : Meaning) → BringNone text outsides words modules ls m → AreExtended flat text means implied files outsides words modules faces setting leads ls next → next m [] ≡ leads m []
  extended-left modules faces setting leads [] next m none is = ap (λ (l : Leads). l m []) is
  extended-left modules faces setting leads (l ∷ rest) next m none (j, is, more) =
      let entries = entries_in flat text means implied files outsides words modules l in
      let face = face_in flat text means implied files outsides words faces (spelled text.source l) in
      extended-left modules faces setting (with_brought leads entries j face) rest next m none.1 more ∙ ap (λ (o : Option Named). coming_lead j face (leads m []) [] o) none.0

  module _ (state : KindState) (unit : UnitTree) where
    -- bound names are left by each unit
    all-left : (setting : Setting) (round : List Setting) → LeavesSymbols text outsides words state unit setting round → (m : Meaning) → (symbol_leads round setting.frame m [] ≡ nowhere) ⊎ Leaves text outsides words state unit m
    all-left setting round given m = by_bound (is_bound m) refl
      where
        by_bound : (b : Bool) → is_bound m ≡ b → (symbol_leads round setting.frame m [] ≡ nowhere) ⊎ Leaves text outsides words state unit m
        by_bound true bound = inr (leaf-left text outsides words state unit m (inr bound))
        by_bound false free = given m free

    -- symbols lead as before where others do
    still-lead : (setting then : Setting) (round : List Setting) → then.frame ≡ setting.frame → LeavesSymbols text outsides words state unit then round → ((m : Meaning) → Leaves text outsides words state unit m → then.leads m [] ≡ setting.leads m []) → SymbolsLead setting round → SymbolsLead then round
    still-lead setting then round same given left lead m =
        by_case (all-left then round given m) (subst (λ frame. (symbol_leads round frame m [] ≡ nowhere) ⊎ (setting.leads m [] ≡ symbol_leads round frame m [])) (sym same) (lead m))
      where
        by_case : (symbol_leads round then.frame m [] ≡ nowhere) ⊎ Leaves text outsides words state unit m → (symbol_leads round then.frame m [] ≡ nowhere) ⊎ (setting.leads m [] ≡ symbol_leads round then.frame m []) → (symbol_leads round then.frame m [] ≡ nowhere) ⊎ (then.leads m [] ≡ symbol_leads round then.frame m [])
        by_case (inl none) before = inl none
        by_case (inr leaves) (inl none) = inl none
        by_case (inr leaves) (inr before) = inr (left m leaves ∙ before)

  -- symbols of a reader, and of the modules round it
  abbrev AllLead : Reader → Type 0
  AllLead reader = AllSymbolsLead (reader.setting ∷ reader.round)

  -- what is asked of a unit, by the reader behind it
  abbrev LeftBy : KindState → UnitTree → Reader → Type 0
  LeftBy state unit next = LeavesSymbols text outsides words state unit next.setting next.round

  same-lead : (reader next : Reader) → AllLead reader → next ≡ reader → AllLead next
  same-lead reader next all is = subst AllLead (sym is) all

  defined-lead : (state : KindState) (unit : UnitTree) (reader : Reader) (x : Tree) (next : Reader) (asked : List Question) → ((m : Meaning) → Leaves text outsides words state unit m → is_among (map (meant text) (definition x)) m ≡ false) → LeftBy state unit next → AllLead reader → IsDefinitionMade flat text means implied files outsides words reader x next asked → AllLead next
  defined-lead state unit reader (Node form s parts) next asked left given all (lead, roots, made, is) =
      let then : Setting = record { leads = with_leads reader.setting.leads (map (meant text) (defined form parts)) lead; frame = reader.setting.frame; olds = reader.setting.olds } in
      subst AllLead (sym is)
      (still-lead state unit reader.setting then reader.round refl (subst (LeftBy state unit) is given) (λ m leaves. among-left (map (meant text) (defined form parts)) reader.setting.leads lead m (left m leaves)) all.0, all.1)

  brought-lead : (state : KindState) (local : Option Lexeme) (reader : Reader) (x : Tree) (next : Reader) (asked : List Question) → LeftBy state (Instance local x) next → AllLead reader → IsInstanceMade flat text means implied files outsides words state reader x next asked → AllLead next
  brought-lead state local reader (Node (Form.Instance l) s rights) next asked given all (written, roots, j, a, b, are, made, is, asks) =
      let entries = instance_brings text (views text outsides words) words state.read (Node (Form.Instance l) s rights) in
      let face = face_in flat text means implied files outsides words reader.faces (spelled text.source l) in
      let then : Setting = record { leads = with_brought reader.setting.leads entries j face; frame = reader.setting.frame; olds = reader.setting.olds } in
      subst AllLead (sym is) (
        still-lead state (Instance local (Node (Form.Instance l) s rights)) reader.setting then reader.round refl (subst (LeftBy state (Instance local (Node (Form.Instance l) s rights))) is given)
            (λ m leaves. ap (λ (o : Option Named). coming_lead j face (reader.setting.leads m []) [] o) leaves) all.0,
        all.1,
      )
  brought-lead state local reader (Node form s parts) next asked given all made = same-lead reader next all made.0

  begun-lead : (state : KindState) (dashes name : Lexeme) (extends : List Lexeme) (reader next : Reader) → LeftBy state (ModuleBegin dashes name extends) next → AllLead reader → IsBegun flat text means implied files outsides words state reader name extends next → AllLead next
  begun-lead state dashes name extends reader next given all (own, leads, (made, is)) =
      let unit : UnitTree = ModuleBegin dashes name extends in
      let place = length reader.setting.frame in
      let inner : Setting = record { leads = with_symbols reader.setting.leads own place; frame = reader.setting.frame ++ own; olds = [] } in
      let then : Setting = record { leads = leads; frame = inner.frame; olds = [] } in
      let by-themselves : symbol_leads (reader.setting ∷ reader.round) inner.frame ≡ with_symbols (symbol_leads reader.round reader.setting.frame) own place =
      ap (λ (ms : List Meaning). with_symbols (symbol_leads reader.round reader.setting.frame) ms place) (front-dropped reader.setting.frame own) in
      let inside : SymbolsLead inner (reader.setting ∷ reader.round) =
      λ m. subst (λ (symbols : Leads). (symbols m [] ≡ nowhere) ⊎ (inner.leads m [] ≡ symbols m [])) (sym by-themselves) (also-symbols (symbol_leads reader.round reader.setting.frame) reader.setting.leads own place m (all.0 m)) in
      subst AllLead (sym is) (
        still-lead state unit inner then (reader.setting ∷ reader.round) refl (subst (LeftBy state unit) is given)
            (λ m leaves. extended-left (begun state.modules (spelled text.source name)) (begun reader.faces (spelled text.source name)) inner inner.leads extends leads m leaves made) inside,
        all,
      )

  ended-lead : (state : KindState) (readings : List Reading) (reader : Reader) (round : List Setting) (next : Reader) → AllSymbolsLead round → IsEnded flat text means implied files outsides words state readings reader round next → AllLead next
  ended-lead state [] reader round next all made = absurd made
  ended-lead state (reading ∷ readings) reader [] next all made = absurd made
  ended-lead state (reading ∷ readings) reader (outer ∷ round) next all made = subst AllLead (sym made.1) all

  pub unit-lead : (state : KindState) (reader : Reader) (unit : UnitTree) (next : Reader) (asked : List Question) → AllLead reader → LeftBy state unit next → IsUnitMade flat text means implied files outsides words state reader unit next asked → AllLead next
  unit-lead state reader (OperatorDefinition local x) next asked all given made = defined-lead state (OperatorDefinition local x) reader x next asked (λ m leaves. leaves) given all made
  unit-lead state reader (FunctionDefinition local x) next asked all given made = defined-lead state (FunctionDefinition local x) reader x next asked (λ m leaves. leaves) given all made
  unit-lead state reader (ModuleDefinition local x) next asked all given made = defined-lead state (ModuleDefinition local x) reader x next asked (λ m leaves. leaves) given all made
  unit-lead state reader (Instance local x) next asked all given made = brought-lead state local reader x next asked given all made
  unit-lead state reader (Assumption word name x) next asked all given made = same-lead reader next all made.3
  unit-lead state reader (Theorem word name x) next asked all given made = same-lead reader next all made.3
  unit-lead state reader (ModuleBegin dashes name extends) next asked all given made = begun-lead state dashes name extends reader next given all made.0
  unit-lead state reader (ModuleEnd closing) next asked all given made = ended-lead state state.read.place.round reader reader.round next all.1 made.0
  unit-lead state reader (Variables names) next asked all given made = same-lead reader next all made.0
  unit-lead state reader (Constants declarations) next asked all given made = same-lead reader next all made.0
  unit-lead state reader (Line dashes) next asked all given made = same-lead reader next all made.0

  -- behind modules that a module extends
  pub first-lead : (modules : Scope Outside) (faces : Scope FlatFace) (symbols : List Meaning) (ls : List Lexeme) (leads : Leads) → ((m : Meaning) → is_bound m ≡ false → (symbol_leads [] symbols m [] ≡ nowhere) ⊎ BringNone text outsides words modules ls m) → AreExtended flat text means implied files outsides words modules faces (record { leads = with_symbols no_leads symbols 0; frame = symbols; olds = [] }) (with_symbols no_leads symbols 0) ls leads → SymbolsLead (record { leads = leads; frame = symbols; olds = [] }) []
  first-lead modules faces symbols ls leads given made m = by_bound (is_bound m) refl
    where
      left : BringNone text outsides words modules ls m → leads m [] ≡ with_symbols no_leads symbols 0 m []
      left none = extended-left modules faces (record { leads = with_symbols no_leads symbols 0; frame = symbols; olds = [] }) (with_symbols no_leads symbols 0) ls leads m none made

      by_case : (symbol_leads [] symbols m [] ≡ nowhere) ⊎ BringNone text outsides words modules ls m → (symbol_leads [] symbols m [] ≡ nowhere) ⊎ (leads m [] ≡ symbol_leads [] symbols m [])
      by_case (inl nothing) = inl nothing
      by_case (inr none) = inr (left none)

      by_bound : (b : Bool) → is_bound m ≡ b → (symbol_leads [] symbols m [] ≡ nowhere) ⊎ (leads m [] ≡ symbol_leads [] symbols m [])
      by_bound true bound = inr (left (leaf-brought_none text outsides words modules ls m (inr bound)))
      by_bound false free = by_case (given m free)
