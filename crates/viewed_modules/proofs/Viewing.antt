-- What is read of a module goes by the views of those that it names.
use mathlib.Core.Path.{fun_ext}
use Rattle.std.proofs.Common.{◌≡◌, ℕ, Bool, true, false, List, [], ◌∷◌, ◌++◌, Option, Some, None, refl, sym, ap, subst, ◌∙◌, length, map}
use Rattle.std.proofs.lemmas.List.{map-append}
use Rattle.std.specs.Prelude.{if◌then◌else◌, is_some, option_map}
use Rattle.std.specs.Str.{bytes_eq}
use Rattle.tla_symbols.specs.declared.lexeme.Lexeme.{Lexeme}
use Rattle.tla_tree.specs.declared.form.Form.TheVariants as Form
use Rattle.tla_tree.specs.Syntax.{Tree, Node}
use Rattle.unit_grammar.specs.Units.{UnitTree, OperatorDefinition, FunctionDefinition, ModuleDefinition, Instance, Assumption, Theorem, ModuleBegin, ModuleEnd, ModuleUnits}
use Rattle.tla_model.specs.Entities.{Meaning, Text}
use Rattle.tla_model.specs.Lexemes.{spelled}
use Rattle.tla_model.specs.Tables.{added, lookup}
use Rattle.module_scope.specs.Environments.{Environment, Scope, begun, ended, meaning, first as first_scope}
use Rattle.module_model.specs.Exports.{ModuleView, exported, instantiable, nothing}
use Rattle.module_model.specs.Modules.{Reading, text_of}
use Rattle.module_model.specs.Resolution.{ReadState, instance_brings, words_of, after as read_after, first as first_read}
use Rattle.kind_text.specs.FlatModule.{FlatModule}
use Rattle.tree_kinds.specs.Standing.{Outside}
use Rattle.module_kinds.specs.ModuleKinds.{KindState, after, first, module_under, named_in, nested_outside, views}
use Rattle.flattened_trees.specs.Leads.{FlatFace, Leads, Setting}
use Rattle.flattened_trees.specs.Questions.{Question}
use Rattle.flattened_units.specs.Units.{AreExtended, AreUnitsMade, IsEnded, IsInstanceMade, IsModuleMade, IsUnitMade, Reader, face_in, no_leads, with_brought, with_symbols}

-- ---- the views of modules that can be named

abbrev view_of : Outside → ModuleView
view_of outside = outside.view

abbrev views_here : Environment Outside → Environment ModuleView
views_here modules = map (λ entry. (entry.0, option_map view_of entry.1)) modules

abbrev views_round : List (List ℕ × Environment Outside) → List (List ℕ × Environment ModuleView)
views_round round = map (λ nested. (nested.0, views_here nested.1)) round

abbrev views_in : Scope Outside → Scope ModuleView
views_in scope = record { here = views_here scope.here; round = views_round scope.round }

-- a nested module that can be named, or else the file
abbrev view_under : (List ℕ → ModuleView) → Option (Option ModuleView) → List ℕ → ModuleView
view_under files None name = files name
view_under files (Some None) name = nothing
view_under files (Some (Some view)) name = view

lookup-viewed : (modules : Environment Outside) (name : List ℕ) → lookup bytes_eq (views_here modules) name ≡ option_map (option_map view_of) (lookup bytes_eq modules name)
lookup-viewed [] name = refl
lookup-viewed (entry ∷ modules) name = by (bytes_eq name entry.0) (lookup-viewed modules name)
  where
    by : (b : Bool) → lookup bytes_eq (views_here modules) name ≡ option_map (option_map view_of) (lookup bytes_eq modules name)
        → (if b then Some (option_map view_of entry.1) else lookup bytes_eq (views_here modules) name) ≡ option_map (option_map view_of) (if b then Some entry.1 else lookup bytes_eq modules name)
    by true more = refl
    by false more = more

under-viewed : (files : List ℕ → Outside) (found : Option (Option Outside)) (name : List ℕ) → (module_under files found name).view ≡ view_under (λ n. (files n).view) (option_map (option_map view_of) found) name
under-viewed files None name = refl
under-viewed files (Some None) name = refl
under-viewed files (Some (Some outside)) name = refl

added-viewed : (modules : Environment Outside) (name : List ℕ) (known : Option Outside) → views_here (added bytes_eq modules name known) ≡ added bytes_eq (views_here modules) name (option_map view_of known)
added-viewed modules name known = by (lookup bytes_eq modules name) ∙ sym (ap (λ found. if is_some found then views_here modules else views_here modules ++ (name, option_map view_of known) ∷ []) (lookup-viewed modules name))
  where
    by : (found : Option (Option Outside)) → views_here (if is_some found then modules else modules ++ (name, known) ∷ [])
        ≡ (if is_some (option_map (option_map view_of) found) then views_here modules else views_here modules ++ (name, option_map view_of known) ∷ [])
    by None = map-append _ modules ((name, known) ∷ [])
    by (Some known) = refl

begun-viewed : (scope : Scope Outside) (name : List ℕ) → views_in (begun scope name) ≡ begun (views_in scope) name
begun-viewed scope name = let here = added-viewed scope.here name None in λ i. record { here = here i; round = (name, views_here scope.here) ∷ views_round scope.round }

ended-viewed : (outside : Outside) (here : Environment Outside) (round : List (List ℕ × Environment Outside)) → views_in (ended outside here round) ≡ ended outside.view (views_here here) (views_round round)
ended-viewed outside here [] = refl
ended-viewed outside here (nested ∷ round) = let behind = added-viewed nested.1 nested.0 (Some outside) in λ i. record { here = behind i; round = views_round round }

-- ---- states

-- states have read the same, and the modules that can be named have the same views
record AreAlike (state other : KindState) : Type 0 where
  read : state.read ≡ other.read
  modules : views_in state.modules ≡ views_in other.modules

abbrev nested_of : KindState → Reading → ReadState → ModuleView
nested_of state outer read = (nested_outside (record state { read = read }) (outer ∷ [])).view

nested-viewed : (state other : KindState) → state.read ≡ other.read → (round : List Reading) → (nested_outside state round).view ≡ (nested_outside other round).view
nested-viewed state other same [] = refl
nested-viewed state other same (outer ∷ round) = ap (nested_of state outer) same

module _ (text : Text) (files others : List ℕ → Outside) (words : List ℕ) (same : views text files words ≡ views text others words) where
  -- the module of a name shows the same
  named-viewed : (modules more : Scope Outside) → views_in modules ≡ views_in more → (name : List ℕ) → (named_in text files words modules name).view ≡ (named_in text others words more name).view
  named-viewed modules more alike name =
      under-viewed files (meaning modules.here name) name
      ∙ (ap (λ found. view_under (λ n. (files n).view) found name) (sym (lookup-viewed modules.here name))
      ∙ ((λ i. view_under (same i) (lookup bytes_eq (alike i).here name) name)
      ∙ (ap (λ found. view_under (λ n. (others n).view) found name) (lookup-viewed more.here name)
      ∙ sym (under-viewed others (meaning more.here name) name))))

  begun-alike : (modules more : Scope Outside) → views_in modules ≡ views_in more → (name : List ℕ) → views_in (begun modules name) ≡ views_in (begun more name)
  begun-alike modules more alike name = begun-viewed modules name ∙ (ap (λ scope. begun scope name) alike ∙ sym (begun-viewed more name))

  ended-alike : (state other : KindState) → AreAlike state other → (round : List Reading) → views_in (ended (nested_outside state round) state.modules.here state.modules.round) ≡ views_in (ended (nested_outside other round) other.modules.here other.modules.round)
  ended-alike state other alike round =
      ended-viewed (nested_outside state round) state.modules.here state.modules.round
      ∙ ((λ i. ended (nested-viewed state other alike.read round i) (alike.modules i).here (alike.modules i).round)
      ∙ sym (ended-viewed (nested_outside other round) other.modules.here other.modules.round))

  read-alike : (state other : KindState) → AreAlike state other → (unit : UnitTree) → (after text files words state unit).read ≡ (after text others words other unit).read
  read-alike state other alike unit = λ i. read_after text (same i) words (alike.read i) unit

  modules-alike : (state other : KindState) → AreAlike state other → (unit : UnitTree) → views_in (after text files words state unit).modules ≡ views_in (after text others words other unit).modules
  modules-alike state other alike (ModuleBegin dashes name extends) = begun-alike state.modules other.modules alike.modules (spelled text.source name)
  modules-alike state other alike (ModuleEnd closing) =
      ended-alike state other alike state.read.place.round
      ∙ ap (λ (read : ReadState). views_in (ended (nested_outside other read.place.round) other.modules.here other.modules.round)) alike.read
  modules-alike state other alike unit = alike.modules

  after-alike : (state other : KindState) → AreAlike state other → (unit : UnitTree) → AreAlike (after text files words state unit) (after text others words other unit)
  after-alike state other alike unit = record { read = read-alike state other alike unit; modules = modules-alike state other alike unit }

  -- ---- what is made

  module _ (flat : FlatModule) (means : ℕ → Option Meaning) (implied : ℕ → List Meaning) (faces : List ℕ → FlatFace) where
    extended-alike : (modules more : Scope Outside) → views_in modules ≡ views_in more → (scope : Scope FlatFace) (setting : Setting) (names : List Lexeme) (leads next : Leads)
        → AreExtended flat text means implied faces files words modules scope setting leads names next → AreExtended flat text means implied faces others words more scope setting leads names next
    extended-alike modules more alike scope setting [] leads next h = h
    extended-alike modules more alike scope setting (l ∷ names) leads next h =
        let view = named-viewed modules more alike (spelled text.source l) in
        let face = face_in flat text means implied faces files words scope (spelled text.source l) in (
          h.0,
          h.1,
          extended-alike modules more alike scope setting names (with_brought leads (instantiable (exported (named_in text others words more (spelled text.source l)).view)) h.0 face) next
              (subst (λ (v : ModuleView). AreExtended flat text means implied faces files words modules scope setting (with_brought leads (instantiable (exported v)) h.0 face) names next) view h.2),
        )

    abbrev leading_with : Reader → Leads → Reader
    leading_with reader leads = record reader { setting = record { leads = leads; frame = reader.setting.frame; olds = reader.setting.olds } }

    instance-alike : (state other : KindState) → AreAlike state other → (reader next : Reader) (x : Tree) (asked : List Question)
        → IsInstanceMade flat text means implied faces files words state reader x next asked → IsInstanceMade flat text means implied faces others words other reader x next asked
    instance-alike state other alike reader next (Node (Form.Instance l) s rights) asked h = (
      h.0,
      h.1,
      h.2,
      h.3,
      h.4,
      h.5,
      h.6,
      h.7 ∙ (λ i. leading_with reader (with_brought reader.setting.leads (instance_brings text (same i) words (alike.read i) (Node (Form.Instance l) s rights)) h.2 (face_in flat text means implied faces files words reader.faces (spelled text.source l)))),
      h.8,
    )
    instance-alike state other alike reader next x asked h = h

    abbrev IsEndedRead : KindState → Reader → Reader → ReadState → Type 0
    IsEndedRead other reader next read = IsEnded flat text means implied faces others words (record other { read = read }) read.place.round reader reader.round next

    unit-alike : (state other : KindState) → AreAlike state other → (reader next : Reader) (unit : UnitTree) (asked : List Question)
        → IsUnitMade flat text means implied faces files words state reader unit next asked → IsUnitMade flat text means implied faces others words other reader unit next asked
    unit-alike state other alike reader next (OperatorDefinition local x) asked h = h
    unit-alike state other alike reader next (FunctionDefinition local x) asked h = h
    unit-alike state other alike reader next (ModuleDefinition local x) asked h = h
    unit-alike state other alike reader next (Instance local x) asked h = instance-alike state other alike reader next x asked h
    unit-alike state other alike reader next (Assumption word name x) asked h = h
    unit-alike state other alike reader next (Theorem word name x) asked h = h
    unit-alike state other alike reader next (ModuleBegin dashes name extends) asked h =
        let b = h.0 in
        let inner : Setting = record { leads = with_symbols reader.setting.leads b.0 (length reader.setting.frame); frame = reader.setting.frame ++ b.0; olds = [] } in (
          (
            b.0,
            b.1,
            (
              extended-alike (begun state.modules (spelled text.source name)) (begun other.modules (spelled text.source name)) (begun-alike state.modules other.modules alike.modules (spelled text.source name))
                  (begun reader.faces (spelled text.source name)) inner extends inner.leads b.1 b.2.0,
              b.2.1,
            ),
          ),
          h.1,
        )
    unit-alike state other alike reader next (ModuleEnd closing) asked h =
        (subst (IsEndedRead other reader next) alike.read h.0, h.1)
    unit-alike state other alike reader next unit asked h = h

    units-alike : (units : List UnitTree) (state other : KindState) → AreAlike state other → (reader next : Reader) (asked : List Question)
        → AreUnitsMade flat text means implied faces files words state reader units next asked → AreUnitsMade flat text means implied faces others words other reader units next asked
    units-alike [] state other alike reader next asked h = h
    units-alike (unit ∷ units) state other alike reader next asked h = (
      h.0,
      h.1,
      h.2,
      unit-alike state other alike reader h.0 unit h.1 h.3,
      units-alike units (after text files words state unit) (after text others words other unit) (after-alike state other alike unit) h.0 next h.2 h.4,
      h.5,
    )

-- the units of a module are made alike
pub module-alike : (flat : FlatModule) (means : ℕ → Option Meaning) (implied : ℕ → List Meaning) (faces : List ℕ → FlatFace) (files others : List ℕ → Outside) (source : List ℕ) (units : ModuleUnits) (symbols : List Meaning) (last : Reader) (asked : List Question)
    → ((name : List ℕ) → (files name).view ≡ (others name).view) → IsModuleMade flat means implied faces files source units symbols last asked → IsModuleMade flat means implied faces others source units symbols last asked
module-alike flat means implied faces files others source units symbols last asked same h =
    let text : Text = text_of source units in
    let words : List ℕ = words_of units in
    let views-same : views text files words ≡ views text others words = fun_ext (λ name. same name) in
    let setting : Setting = record { leads = with_symbols no_leads symbols 0; frame = symbols; olds = [] } in
    let alike : AreAlike (first files source units) (first others source units) = record { read = λ i. first_read (views-same i) source units; modules = refl } in (
      h.0,
      extended-alike text files others words views-same flat means implied faces (first_scope text.file) (first_scope text.file) refl (first_scope text.file) setting units.extends setting.leads h.0 h.1,
      units-alike text files others words views-same flat means implied faces units.units (first files source units) (first others source units) alike (record { setting = record { leads = h.0; frame = symbols; olds = [] }; round = []; faces = first_scope text.file }) last asked h.2,
    )
