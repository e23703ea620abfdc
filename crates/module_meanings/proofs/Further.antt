-- Definitions and instances lead to definitions or through instances, behind each unit: to no leaf and to no place.
use Rattle.std.proofs.Common.{◌≡◌, ℕ, suc, Bool, true, false, cond, List, [], ◌∷◌, ◌++◌, Option, Some, None, map, refl, sym, ap, subst, length}
use Rattle.std.specs.List.{AllByRecursion}
use Rattle.tla_symbols.specs.declared.level.Kind.{Kind}
use Rattle.tla_symbols.specs.declared.lexeme.Lexeme.{Lexeme}
use Rattle.tla_symbols.specs.declared.lexeme.Span.{Span}
use Rattle.tla_tree.specs.declared.form.Form.TheVariants as Form
use Rattle.tla_tree.specs.Syntax.{Tree, Trees, Node, Nil, Cons}
use Rattle.unit_grammar.specs.Units.{UnitTree, Variables, Constants, OperatorDefinition, FunctionDefinition, ModuleDefinition, Instance, Assumption, Theorem, Line, ModuleBegin, ModuleEnd}
use Rattle.tla_model.specs.declared.entity.Entity.TheVariants as entity
use Rattle.tla_model.specs.declared.names.Meaning.TheVariants.{BuiltIn, Declared}
use Rattle.tla_model.specs.Contexts.{Context}
use Rattle.tla_model.specs.Entities.{Meaning, Text, defined, meant}
use Rattle.tla_model.specs.EntityKinds.{is_meant, stands_behind}
use Rattle.tla_model.specs.Lexemes.{spelled}
use Rattle.tla_model.specs.Tables.{Named}
use Rattle.module_scope.specs.Environments.{Scope, begun}
use Rattle.module_model.specs.Exports.{Exports, Known}
use Rattle.module_model.specs.Modules.{Reading}
use Rattle.module_model.specs.Resolution.{instance_brings}
use Rattle.kind_text.specs.FlatModule.{FlatModule}
use Rattle.tree_kinds.specs.Standing.{Outside, name_among, same_standing}
use Rattle.module_kinds.specs.ModuleKinds.{KindState, known_at, named, views}
use Rattle.flat_trees.specs.Layouts.{order_of}
use Rattle.flat_kinds.specs.Symbols.{same_symbol}
use Rattle.flattened_trees.specs.declared.End.TheVariants as end
use Rattle.flattened_trees.specs.Flattened.{IsDefined, IsThrough}
use Rattle.flattened_trees.specs.Leads.{FlatFace, Lead, Leads, Setting, nowhere, only, through, with_lead, with_leads, with_parameters}
use Rattle.flattened_trees.specs.Questions.{Question}
use Rattle.flattened_trees.specs.Readable.{IsReadableDefinition, IsReadableThrough}
use Rattle.flattened_units.specs.Units.{AreExtended, IsDefinitionMade, IsEnded, IsInstanceMade, IsUnitMade, Reader, coming_lead, entries_in, face_in, no_leads, with_brought, with_symbols}
use Rattle.module_meanings.specs.Premises.{IsFileAt, IsUnitGivenBy}

-- a name leads to no leaf and to no place
pub record LeadsFurther (lead : Lead) : Type 0 where
  pub leaf : (kind : Kind) → lead ≡ only (end.Leaf kind) [] → ⊥
  pub place : (place order : ℕ) → lead ≡ only (end.Place place order) [] → ⊥

-- so do definitions and instances
abbrev pub DefinitionsLead : Leads → Type 0
DefinitionsLead leads = (m : Meaning) → is_meant stands_behind m ≡ true → LeadsFurther (leads m [])

-- in a module that is read, and in those round it
abbrev pub AllDefinitionsLead : Reader → Type 0
AllDefinitionsLead reader = DefinitionsLead reader.setting.leads × AllByRecursion (λ (setting : Setting). DefinitionsLead setting.leads) reader.round

nowhere-further : LeadsFurther nowhere
nowhere-further = record {
  leaf = λ kind e. let same : end.Nowhere ≡ end.Leaf kind = ap (λ (lead : Lead). lead.end) e in cc same;
  place = λ place order e. let same : end.Nowhere ≡ end.Place place order = ap (λ (lead : Lead). lead.end) e in cc same;
}

definition-further : (d : ℕ) → LeadsFurther (only (end.Definition d) [])
definition-further d = record {
  leaf = λ kind e. let same : end.Definition d ≡ end.Leaf kind = ap (λ (lead : Lead). lead.end) e in cc same;
  place = λ place order e. let same : end.Definition d ≡ end.Place place order = ap (λ (lead : Lead). lead.end) e in cc same;
}

through-further : (j : ℕ) (lead : Lead) → LeadsFurther (through j lead)
through-further j lead = record {
  leaf = λ kind e. let same : j ∷ lead.path ≡ [] = ap (λ (one : Lead). one.path) e in cc same;
  place = λ place order e. let same : j ∷ lead.path ≡ [] = ap (λ (one : Lead). one.path) e in cc same;
}

-- ---- what comes to lead somewhere

none-further : DefinitionsLead no_leads
none-further BuiltIn is = cc is
none-further (Declared (entity.Bound state) x) is = cc is
none-further (Declared e x) is = nowhere-further

definition-symbol : (m s : Meaning) → is_meant stands_behind m ≡ true → same_symbol m s ≡ false
definition-symbol BuiltIn s is = cc
definition-symbol (Declared (entity.Definition orders) x) BuiltIn is = refl
definition-symbol (Declared (entity.Definition orders) x) (Declared f y) is = refl
definition-symbol (Declared (entity.Instance orders) x) BuiltIn is = refl
definition-symbol (Declared (entity.Instance orders) x) (Declared f y) is = refl
definition-symbol (Declared e x) s is = cc

symbols-further : (leads : Leads) (symbols : List Meaning) (place : ℕ) → DefinitionsLead leads → DefinitionsLead (with_symbols leads symbols place)
symbols-further leads [] place all m is = all m is
symbols-further leads (s ∷ rest) place all m is =
    subst (λ b. LeadsFurther (cond b (only (end.Place place (order_of s)) []) (with_symbols leads rest (suc place) m []))) (sym (definition-symbol m s is)) (symbols-further leads rest (suc place) all m is)

leads-further : (meanings : List Meaning) (leads : Leads) (lead : List Named → Lead) → DefinitionsLead leads → LeadsFurther (lead []) → DefinitionsLead (with_leads leads meanings lead)
leads-further [] leads lead all one = all
leads-further (d ∷ rest) leads lead all one = leads-further rest (with_lead leads d lead) lead (λ m is. by_same m (all m is) (same_standing m d)) one
  where
    by_same : (m : Meaning) → LeadsFurther (leads m []) → (b : Bool) → LeadsFurther (cond b (lead []) (leads m []))
    by_same m before true = one
    by_same m before false = before

brought-further : (leads : Leads) (entries : Exports) (j : ℕ) (face : FlatFace) → DefinitionsLead leads → DefinitionsLead (with_brought leads entries j face)
brought-further leads entries j face all m is = by_name (name_among entries m)
  where
    by_name : (o : Option Named) → LeadsFurther (coming_lead j face (leads m []) [] o)
    by_name None = all m is
    by_name (Some name) = through-further j (face.leads (name ∷ []))

pub first-further : (symbols : List Meaning) → DefinitionsLead (with_symbols no_leads symbols 0)
first-further symbols = symbols-further no_leads symbols 0 none-further

-- ---- definitions

module _ (flat : FlatModule) (text : Text) (means : ℕ → Option Meaning) (implied : ℕ → List Meaning) (faces : List ℕ → FlatFace) (known : Known) (outsides : List ℕ → Outside) where
  module-further : (context : Context) (outside setting : Setting) (own : Lexeme) (count : ℕ) (parts : Trees) (lead : List Named → Lead) (roots : List ℕ) (asked : List Question) → IsThrough text means implied faces flat outside setting own count parts lead roots asked → IsReadableThrough text known outsides means implied faces context parts → LeadsFurther (lead [])
  module-further context outside setting own count Nil lead roots asked is readable = absurd readable
  module-further context outside setting own count (Cons (Node (Form.Instance l) s rights) rest) lead roots asked is readable =
      subst (λ (to : List Named → Lead). LeadsFurther (to [])) (sym is.6) nowhere-further
  module-further context outside setting own count (Cons (Node form s parts) rest) lead roots asked is readable = module-further context outside setting own count rest lead roots asked is readable

  defined-further : (context : Context) (setting : Setting) (form : Form.the_data) (s : Span) (parts : Trees) (lead : List Named → Lead) (roots : List ℕ) (asked : List Question) → IsDefined text means implied faces flat setting (Node form s parts) lead roots asked → IsReadableDefinition text known outsides means implied faces context (Node form s parts) → LeadsFurther (lead [])
  defined-further context setting (Form.OperatorDefinition l) s parts lead roots asked is readable = subst (λ (to : List Named → Lead). LeadsFurther (to [])) (sym is.7) (definition-further is.2)
  defined-further context setting (Form.PrefixDefinition l) s parts lead roots asked is readable = subst (λ (to : List Named → Lead). LeadsFurther (to [])) (sym is.7) (definition-further is.2)
  defined-further context setting (Form.InfixDefinition l) s parts lead roots asked is readable = subst (λ (to : List Named → Lead). LeadsFurther (to [])) (sym is.7) (definition-further is.2)
  defined-further context setting (Form.PostfixDefinition l) s parts lead roots asked is readable = subst (λ (to : List Named → Lead). LeadsFurther (to [])) (sym is.7) (definition-further is.2)
  defined-further context setting (Form.FunctionDefinition l) s parts lead roots asked is readable = subst (λ (to : List Named → Lead). LeadsFurther (to [])) (sym is.7) (definition-further is.2)
  defined-further context setting (Form.ModuleDefinition l) s parts lead roots asked is readable = module-further _ setting (with_parameters text setting (Form.ModuleDefinition l) parts) l _ parts lead roots asked is readable.2
  defined-further context setting form s parts lead roots asked is readable = absurd readable

-- ---- units

module _ (flat : FlatModule) (text : Text) (means : ℕ → Option Meaning) (implied : ℕ → List Meaning) (files : List ℕ → FlatFace) (outsides : List ℕ → Outside) (words : List ℕ) where
  pub extended-further : (modules : Scope Outside) (faces : Scope FlatFace) (setting : Setting) (leads : Leads) (ls : List Lexeme) (next : Leads) → DefinitionsLead leads → AreExtended flat text means implied files outsides words modules faces setting leads ls next → DefinitionsLead next
  extended-further modules faces setting leads [] next all is = subst DefinitionsLead (sym is) all
  extended-further modules faces setting leads (l ∷ rest) next all (j, is, more) =
      let face = face_in flat text means implied files outsides words faces (spelled text.source l) in
      let entries = entries_in flat text means implied files outsides words modules l in
      extended-further modules faces setting (with_brought leads entries j face) rest next (brought-further leads entries j face all) more

  same-further : (reader next : Reader) → AllDefinitionsLead reader → next ≡ reader → AllDefinitionsLead next
  same-further reader next all is = subst AllDefinitionsLead (sym is) all

  definition-read : (state : KindState) (unit : UnitTree) (reader : Reader) (x : Tree) (next : Reader) (asked : List Question) → AllDefinitionsLead reader → IsDefinitionMade flat text means implied files outsides words reader x next asked → IsReadableDefinition text (known_at text outsides words state unit) (named text outsides words state) means implied (face_in flat text means implied files outsides words reader.faces) state.read.place.here.context x → AllDefinitionsLead next
  definition-read state unit reader (Node form s parts) next asked all (lead, roots, made, is) readable =
      subst AllDefinitionsLead (sym is) (
        leads-further (map (meant text) (defined form parts)) reader.setting.leads lead all.0
            (defined-further flat text means implied (face_in flat text means implied files outsides words reader.faces) (known_at text outsides words state unit) (named text outsides words state) state.read.place.here.context reader.setting form s parts lead roots asked made readable),
        all.1,
      )

  instance-read : (state : KindState) (reader : Reader) (x : Tree) (next : Reader) (asked : List Question) → AllDefinitionsLead reader → IsInstanceMade flat text means implied files outsides words state reader x next asked → AllDefinitionsLead next
  instance-read state reader (Node (Form.Instance l) s rights) next asked all (written, roots, j, a, b, are, made, is, asks) =
      let face = face_in flat text means implied files outsides words reader.faces (spelled text.source l) in
      let entries = instance_brings text (views text outsides words) words state.read (Node (Form.Instance l) s rights) in
      subst AllDefinitionsLead (sym is) (brought-further reader.setting.leads entries j face all.0, all.1)
  instance-read state reader (Node form s parts) next asked all made = same-further reader next all made.0

  ended-read : (state : KindState) (readings : List Reading) (reader : Reader) (round : List Setting) (next : Reader) → AllByRecursion (λ (setting : Setting). DefinitionsLead setting.leads) round → IsEnded flat text means implied files outsides words state readings reader round next → AllDefinitionsLead next
  ended-read state [] reader round next all made = absurd made
  ended-read state (reading ∷ readings) reader [] next all made = absurd made
  ended-read state (reading ∷ readings) reader (outer ∷ round) next all made = subst AllDefinitionsLead (sym made.1) all

  pub unit-further : (state : KindState) (reader : Reader) (seen : List Meaning) (unit : UnitTree) (next : Reader) (asked : List Question) → AllDefinitionsLead reader → IsUnitGivenBy flat text means implied files outsides words (IsFileAt flat text means implied files outsides words) state reader seen unit next → IsUnitMade flat text means implied files outsides words state reader unit next asked → AllDefinitionsLead next
  unit-further state reader seen (OperatorDefinition local x) next asked all given made = definition-read state (OperatorDefinition local x) reader x next asked all made given.readable
  unit-further state reader seen (FunctionDefinition local x) next asked all given made = definition-read state (FunctionDefinition local x) reader x next asked all made given.readable
  unit-further state reader seen (ModuleDefinition local x) next asked all given made = definition-read state (ModuleDefinition local x) reader x next asked all made given.readable
  unit-further state reader seen (Instance local x) next asked all given made = instance-read state reader x next asked all made
  unit-further state reader seen (Assumption word name x) next asked all given made = same-further reader next all made.3
  unit-further state reader seen (Theorem word name x) next asked all given made = same-further reader next all made.3
  unit-further state reader seen (ModuleBegin dashes name extends) next asked all given ((own, leads, (made, is)), none) =
      let inner : Setting = record { leads = with_symbols reader.setting.leads own (length reader.setting.frame); frame = reader.setting.frame ++ own; olds = [] } in
      subst AllDefinitionsLead (sym is)
      (extended-further (begun state.modules (spelled text.source name)) (begun reader.faces (spelled text.source name)) inner inner.leads extends leads (symbols-further reader.setting.leads own (length reader.setting.frame) all.0) made, all)
  unit-further state reader seen (ModuleEnd closing) next asked all given made = ended-read state state.read.place.round reader reader.round next all.1 made.0
  unit-further state reader seen (Variables names) next asked all given made = same-further reader next all made.0
  unit-further state reader seen (Constants declarations) next asked all given made = same-further reader next all made.0
  unit-further state reader seen (Line dashes) next asked all given made = same-further reader next all made.0
