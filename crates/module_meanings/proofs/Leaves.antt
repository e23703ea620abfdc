-- What is built in and bound names lead to leaves, behind each unit.
use Rattle.std.proofs.Common.{◌≡◌, inl, inr, ℕ, suc, true, false, cond, List, [], ◌∷◌, ◌++◌, Option, map, length, refl, sym, ap, ◌∙◌, subst}
use Rattle.std.specs.Prelude.{◌⊎◌}
use Rattle.std.specs.List.{AllByRecursion}
use Rattle.tla_symbols.specs.declared.lexeme.Lexeme.{Lexeme}
use Rattle.tla_tree.specs.declared.form.Form.TheVariants as Form
use Rattle.tla_tree.specs.Syntax.{Tree, Node}
use Rattle.unit_grammar.specs.Units.{UnitTree, Variables, Constants, OperatorDefinition, FunctionDefinition, ModuleDefinition, Instance, Assumption, Theorem, Line, ModuleBegin, ModuleEnd}
use Rattle.tla_model.specs.declared.entity.Entity.TheVariants as entity
use Rattle.tla_model.specs.declared.names.Meaning.TheVariants.{BuiltIn, Declared}
use Rattle.tla_model.specs.Entities.{Meaning, Text, defined, defines, meant}
use Rattle.tla_model.specs.EntityKinds.{is_meant, stands_behind}
use Rattle.tla_model.specs.Lexemes.{spelled}
use Rattle.tla_model.specs.Tables.{Named}
use Rattle.module_scope.specs.Environments.{Scope, begun}
use Rattle.module_model.specs.Exports.{Exports, exported}
use Rattle.module_model.specs.Modules.{Reading}
use Rattle.module_model.specs.Resolution.{instance_brings}
use Rattle.kind_text.specs.FlatModule.{FlatModule}
use Rattle.tree_kinds.specs.Standing.{Outside}
use Rattle.module_kinds.specs.ModuleKinds.{KindState, named_in, views}
use Rattle.flat_trees.specs.Stands.{Unsaid}
use Rattle.flat_kinds.specs.Symbols.{same_symbol}
use Rattle.flattened_trees.specs.declared.End.TheVariants as end
use Rattle.flattened_trees.specs.Agreeing.{unsaid_stand}
use Rattle.flattened_trees.specs.Leads.{FlatFace, Lead, Leads, Setting, only, with_lead, with_leads}
use Rattle.flattened_trees.specs.Questions.{Question}
use Rattle.flat_trees.specs.Layouts.{order_of}
use Rattle.flattened_units.specs.Units.{AreExtended, IsDefinitionMade, IsEnded, IsInstanceMade, IsUnitMade, Reader, coming_lead, entries_in, face_in, no_leads, with_brought, with_symbols}
use Rattle.module_meanings.specs.Faces.{LeadsAs, LeavesLead}
use Rattle.module_meanings.proofs.Staying.{AreBehind, IsLeafName, brings-behind, defined-behind, instantiable-behind, leaf-apart, leaf-or-unsaid, leaf-unnamed}

-- ---- where leaves lead as before

leaves-moved : (leads next : Leads) → ((m : Meaning) → IsLeafName m → next m [] ≡ leads m []) → LeavesLead leads → LeavesLead next
leaves-moved leads next same leaves m = by_leaf (leaf-or-unsaid m)
  where
    by_leaf : IsLeafName m ⊎ (unsaid_stand m ≡ Unsaid) → LeadsAs 0 (unsaid_stand m) (next m [])
    by_leaf (inl leaf) = subst (λ lead. LeadsAs 0 (unsaid_stand m) lead) (sym (same m leaf)) (leaves m)
    by_leaf (inr nothing) = subst (λ stand. LeadsAs 0 stand (next m [])) (sym nothing) tt

leads-left : (meanings : List Meaning) (leads : Leads) (lead : List Named → Lead) (m : Meaning) → IsLeafName m → AllByRecursion (λ (d : Meaning). is_meant stands_behind d ≡ true) meanings → with_leads leads meanings lead m [] ≡ leads m []
leads-left [] leads lead m leaf all = refl
leads-left (d ∷ rest) leads lead m leaf all =
    leads-left rest (with_lead leads d lead) lead m leaf all.1 ∙ ap (λ b. cond b (lead []) (leads m [])) (leaf-apart m d leaf all.0)

brought-left : (leads : Leads) (entries : Exports) (j : ℕ) (face : FlatFace) (m : Meaning) → IsLeafName m → AreBehind entries → with_brought leads entries j face m [] ≡ leads m []
brought-left leads entries j face m leaf all = ap (λ (o : Option Named). coming_lead j face (leads m []) [] o) (leaf-unnamed entries m leaf all)

-- a leaf is no symbol
leaf-symbol : (m s : Meaning) → IsLeafName m → same_symbol m s ≡ false
leaf-symbol m s (inl same) = ap (λ n. same_symbol n s) same
leaf-symbol BuiltIn s (inr bound) = cc
leaf-symbol (Declared (entity.Bound state) x) BuiltIn (inr bound) = refl
leaf-symbol (Declared (entity.Bound state) x) (Declared f y) (inr bound) = refl
leaf-symbol (Declared e x) s (inr bound) = cc

symbols-left : (leads : Leads) (symbols : List Meaning) (place : ℕ) (m : Meaning) → IsLeafName m → with_symbols leads symbols place m [] ≡ leads m []
symbols-left leads [] place m leaf = refl
symbols-left leads (s ∷ rest) place m leaf =
    ap (λ b. cond b (only (end.Place place (order_of s)) []) (with_symbols leads rest (suc place) m [])) (leaf-symbol m s leaf) ∙ symbols-left leads rest (suc place) m leaf

none-leave : LeavesLead no_leads
none-leave BuiltIn = refl
none-leave (Declared (entity.Bound state) x) = refl
none-leave (Declared e x) = tt

-- with symbols
symbols-leave : (leads : Leads) (symbols : List Meaning) (place : ℕ) → LeavesLead leads → LeavesLead (with_symbols leads symbols place)
symbols-leave leads symbols place leaves = leaves-moved leads (with_symbols leads symbols place) (λ m leaf. symbols-left leads symbols place m leaf) leaves

pub first-leave : (symbols : List Meaning) → LeavesLead (with_symbols no_leads symbols 0)
first-leave symbols = symbols-leave no_leads symbols 0 none-leave

-- ---- units

module _ (flat : FlatModule) (text : Text) (means : ℕ → Option Meaning) (implied : ℕ → List Meaning) (files : List ℕ → FlatFace) (outsides : List ℕ → Outside) (words : List ℕ) where
  -- behind modules that are extended
  pub extended-leave : (modules : Scope Outside) (faces : Scope FlatFace) (setting : Setting) (leads : Leads) (ls : List Lexeme) (next : Leads) → LeavesLead leads → AreExtended flat text means implied files outsides words modules faces setting leads ls next → LeavesLead next
  extended-leave modules faces setting leads [] next leaves is = subst LeavesLead (sym is) leaves
  extended-leave modules faces setting leads (l ∷ rest) next leaves (j, is, more) =
      let entries = entries_in flat text means implied files outsides words modules l in
      let face = face_in flat text means implied files outsides words faces (spelled text.source l) in
      extended-leave modules faces setting (with_brought leads entries j face) rest next
      (leaves-moved leads (with_brought leads entries j face) (λ m leaf. brought-left leads entries j face m leaf (instantiable-behind (exported (named_in text outsides words modules (spelled text.source l)).view))) leaves) more

  -- in a module that is read, and in those round it
  abbrev pub AllLeave : Reader → Type 0
  AllLeave reader = LeavesLead reader.setting.leads × AllByRecursion (λ (setting : Setting). LeavesLead setting.leads) reader.round

  defined-leave : (reader : Reader) (x : Tree) (next : Reader) (asked : List Question) → AllLeave reader → IsDefinitionMade flat text means implied files outsides words reader x next asked → AllLeave next
  defined-leave reader (Node form s parts) next asked leaves (lead, roots, made, is) =
      subst AllLeave (sym is)
      (leaves-moved reader.setting.leads (with_leads reader.setting.leads (map (meant text) (defined form parts)) lead) (λ m leaf. leads-left (map (meant text) (defined form parts)) reader.setting.leads lead m leaf (defined-behind text (defines form) parts)) leaves.0, leaves.1)

  same-leave : (reader next : Reader) → AllLeave reader → next ≡ reader → AllLeave next
  same-leave reader next leaves is = subst AllLeave (sym is) leaves

  brings-leave : (state : KindState) (reader : Reader) (x : Tree) (next : Reader) (asked : List Question) → AllLeave reader → IsInstanceMade flat text means implied files outsides words state reader x next asked → AllLeave next
  brings-leave state reader (Node (Form.Instance l) s rights) next asked leaves (written, roots, j, a, b, are, made, is, asks) =
      let entries = instance_brings text (views text outsides words) words state.read (Node (Form.Instance l) s rights) in
      let face = face_in flat text means implied files outsides words reader.faces (spelled text.source l) in
      subst AllLeave (sym is)
      (leaves-moved reader.setting.leads (with_brought reader.setting.leads entries j face) (λ m leaf. brought-left reader.setting.leads entries j face m leaf (brings-behind text outsides words state.read (Node (Form.Instance l) s rights))) leaves.0, leaves.1)
  brings-leave state reader (Node form s parts) next asked leaves made = same-leave reader next leaves made.0

  ended-leave : (state : KindState) (readings : List Reading) (reader : Reader) (round : List Setting) (next : Reader) → AllByRecursion (λ (setting : Setting). LeavesLead setting.leads) round → IsEnded flat text means implied files outsides words state readings reader round next → AllLeave next
  ended-leave state [] reader round next leaves made = absurd made
  ended-leave state (reading ∷ readings) reader [] next leaves made = absurd made
  ended-leave state (reading ∷ readings) reader (outer ∷ round) next leaves made = subst AllLeave (sym made.1) leaves

  pub unit-leave : (state : KindState) (reader : Reader) (unit : UnitTree) (next : Reader) (asked : List Question) → AllLeave reader → IsUnitMade flat text means implied files outsides words state reader unit next asked → AllLeave next
  unit-leave state reader (OperatorDefinition local x) next asked leaves made = defined-leave reader x next asked leaves made
  unit-leave state reader (FunctionDefinition local x) next asked leaves made = defined-leave reader x next asked leaves made
  unit-leave state reader (ModuleDefinition local x) next asked leaves made = defined-leave reader x next asked leaves made
  unit-leave state reader (Instance local x) next asked leaves made = brings-leave state reader x next asked leaves made
  unit-leave state reader (Assumption word name x) next asked leaves made = same-leave reader next leaves made.3
  unit-leave state reader (Theorem word name x) next asked leaves made = same-leave reader next leaves made.3
  unit-leave state reader (ModuleBegin dashes name extends) next asked leaves ((own, leads, (made, is)), none) =
      let inner : Setting = record { leads = with_symbols reader.setting.leads own (length reader.setting.frame); frame = reader.setting.frame ++ own; olds = [] } in
      subst AllLeave (sym is)
      (extended-leave (begun state.modules (spelled text.source name)) (begun reader.faces (spelled text.source name)) inner inner.leads extends leads (symbols-leave reader.setting.leads own (length reader.setting.frame) leaves.0) made, leaves)
  unit-leave state reader (ModuleEnd closing) next asked leaves made = ended-leave state state.read.place.round reader reader.round next leaves.1 made.0
  unit-leave state reader (Variables names) next asked leaves made = same-leave reader next leaves made.0
  unit-leave state reader (Constants declarations) next asked leaves made = same-leave reader next leaves made.0
  unit-leave state reader (Line dashes) next asked leaves made = same-leave reader next leaves made.0
