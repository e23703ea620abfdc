-- What the units of a module are in a flat module they are in each that has more.
use Rattle.std.proofs.Common.{ℕ, zero, suc, Bool, false, List, [], ◌∷◌, ◌++◌, Option, length}
use Rattle.tla_symbols.specs.declared.lexeme.Lexeme.{Lexeme}
use Rattle.tla_tree.specs.declared.form.Form.TheVariants as Form
use Rattle.tla_tree.specs.Syntax.{Tree, Trees, Node}
use Rattle.unit_grammar.specs.Units.{UnitTree, OperatorDefinition, FunctionDefinition, ModuleDefinition, Instance, Assumption, Theorem, ModuleBegin, ModuleUnits}
use Rattle.tla_model.specs.Entities.{Meaning, Text}
use Rattle.tla_model.specs.Lexemes.{spelled}
use Rattle.tla_model.specs.Tables.{Named}
use Rattle.module_scope.specs.Environments.{Scope, begun, first as first_scope}
use Rattle.module_model.specs.Exports.{Exports}
use Rattle.module_model.specs.Modules.{text_of}
use Rattle.module_model.specs.Resolution.{words_of}
use Rattle.kind_text.specs.FlatModule.{Extends, FlatModule, Replacement}
use Rattle.tree_kinds.specs.Standing.{Outside}
use Rattle.module_kinds.specs.ModuleKinds.{KindState, after, first}
use Rattle.flattened_trees.specs.Leads.{FlatFace, Lead, Leads, Setting}
use Rattle.flattened_trees.specs.Questions.{Question}
use Rattle.flattened_trees.specs.Flattened.{AreRights, AreStaying, IsDefined, IsFlattened, IsInstance, Right}
use Rattle.flattened_units.specs.Units.{AreExtended, AreShared, AreUnitsMade, IsBegun, IsClaimMade, IsDefinitionMade, IsExtension, IsInstanceMade, IsModuleMade, IsUnitMade, Reader, face_in, no_leads, with_symbols}
use Rattle.tree_flattener.specs.Worlds.{World}

-- trees stay so
pub record TreesStay (flat more : FlatModule) : Type 0 where
  pub expressions : (w : World) (setting : Setting) (x : Tree) (i : ℕ) (asked : List Question) → IsFlattened w.text w.means w.implied w.faces flat setting x i asked → IsFlattened w.text w.means w.implied w.faces more setting x i asked
  pub definitions : (w : World) (setting : Setting) (x : Tree) (lead : List Named → Lead) (roots : List ℕ) (asked : List Question) → IsDefined w.text w.means w.implied w.faces flat setting x lead roots asked → IsDefined w.text w.means w.implied w.faces more setting x lead roots asked
  pub rights : (w : World) (setting : Setting) (l : Lexeme) (xs : Trees) (rights : List Right) (roots : List ℕ) (asked : List Question) → AreRights w.text w.means w.implied w.faces flat setting l xs rights roots asked → AreRights w.text w.means w.implied w.faces more setting l xs rights roots asked
  pub instances : (w : World) (setting : Setting) (outer count : ℕ) (guards : Bool) (l : Lexeme) (rights : List Right) (j : ℕ) (asked : List Question) → IsInstance w.text w.means w.implied w.faces flat setting outer count guards l rights j asked → IsInstance w.text w.means w.implied w.faces more setting outer count guards l rights j asked

module _ (flat more : FlatModule) (extends : Extends flat more) where
  staying-on : (place count : ℕ) (staying : List Replacement) → AreStaying flat place count staying → AreStaying more place count staying
  staying-on place zero [] h = tt
  staying-on place zero (r ∷ staying) h = absurd h
  staying-on place (suc count) [] h = absurd h
  staying-on place (suc count) (r ∷ staying) h = (extends.nodes r.root _ h.0, h.1, staying-on (suc place) count staying h.2)

  shared-on : (leads : Leads) (parameters : Exports) (made : List Replacement) → AreShared flat leads parameters made → AreShared more leads parameters made
  shared-on leads [] [] h = tt
  shared-on leads [] (r ∷ made) h = absurd h
  shared-on leads (parameter ∷ parameters) [] h = absurd h
  shared-on leads (parameter ∷ parameters) (r ∷ made) h = (extends.nodes r.root _ h.0, h.1, shared-on leads parameters made h.2)

  extension-on : (setting : Setting) (face : FlatFace) (j : ℕ) → IsExtension flat setting face j → IsExtension more setting face j
  extension-on setting face j h = (h.0, h.1, extends.instances j _ h.2, staying-on 0 face.outer h.0 h.3, shared-on setting.leads face.parameters h.1 h.4)

  module _ (stay : TreesStay flat more) (text : Text) (means : ℕ → Option Meaning) (implied : ℕ → List Meaning) (files : List ℕ → FlatFace) (outsides : List ℕ → Outside) (words : List ℕ) where
    extended-on : (modules : Scope Outside) (faces : Scope FlatFace) (setting : Setting) (names : List Lexeme) (leads next : Leads)
        → AreExtended flat text means implied files outsides words modules faces setting leads names next → AreExtended more text means implied files outsides words modules faces setting leads names next
    extended-on modules faces setting [] leads next h = h
    extended-on modules faces setting (l ∷ names) leads next h =
        (h.0, extension-on setting (face_in flat text means implied files outsides words faces (spelled text.source l)) h.0 h.1, extended-on modules faces setting names _ next h.2)

    -- what is known round the trees of a unit
    abbrev world : Reader → World
    world reader = record { text = text; nodes = []; means = means; implied = implied; leads = no_leads; faces = face_in flat text means implied files outsides words reader.faces }

    definition-on : (reader next : Reader) (x : Tree) (asked : List Question) → IsDefinitionMade flat text means implied files outsides words reader x next asked → IsDefinitionMade more text means implied files outsides words reader x next asked
    definition-on reader next x asked h = (h.0, h.1, stay.definitions (world reader) reader.setting x h.0 h.1 asked h.2, h.3)

    instance-on : (state : KindState) (reader next : Reader) (x : Tree) (asked : List Question) → IsInstanceMade flat text means implied files outsides words state reader x next asked → IsInstanceMade more text means implied files outsides words state reader x next asked
    instance-on state reader next (Node (Form.Instance l) s rights) asked h =
        (h.0, h.1, h.2, h.3, h.4, stay.rights (world reader) reader.setting l rights h.0 h.1 h.3 h.5, stay.instances (world reader) reader.setting _ 0 false l h.0 h.2 h.4 h.6, h.7, h.8)
    instance-on state reader next x asked h = h

    claim-on : (reader next : Reader) (word : Lexeme) (x : Tree) (ask : ℕ → List Question) (asked : List Question) → IsClaimMade flat text means implied files outsides words reader word x ask next asked → IsClaimMade more text means implied files outsides words reader word x ask next asked
    claim-on reader next word x ask asked h = (h.0, h.1, stay.expressions (world reader) reader.setting x h.0 h.1 h.2, h.3, h.4)

    begun-on : (state : KindState) (reader next : Reader) (name : Lexeme) (extends : List Lexeme) → IsBegun flat text means implied files outsides words state reader name extends next → IsBegun more text means implied files outsides words state reader name extends next
    begun-on state reader next name extends h =
        let inner : Setting = record { leads = with_symbols reader.setting.leads h.0 (length reader.setting.frame); frame = reader.setting.frame ++ h.0; olds = [] } in
        (h.0, h.1, (extended-on (begun state.modules (spelled text.source name)) (begun reader.faces (spelled text.source name)) inner extends inner.leads h.1 h.2.0, h.2.1))

    unit-on : (state : KindState) (reader next : Reader) (unit : UnitTree) (asked : List Question) → IsUnitMade flat text means implied files outsides words state reader unit next asked → IsUnitMade more text means implied files outsides words state reader unit next asked
    unit-on state reader next (OperatorDefinition local x) asked h = definition-on reader next x asked h
    unit-on state reader next (FunctionDefinition local x) asked h = definition-on reader next x asked h
    unit-on state reader next (ModuleDefinition local x) asked h = definition-on reader next x asked h
    unit-on state reader next (Instance local x) asked h = instance-on state reader next x asked h
    unit-on state reader next (Assumption word name x) asked h = claim-on reader next word x _ asked h
    unit-on state reader next (Theorem word name x) asked h = claim-on reader next word x _ asked h
    unit-on state reader next (ModuleBegin dashes name extends) asked h = (begun-on state reader next name extends h.0, h.1)
    unit-on state reader next unit asked h = h

    units-on : (units : List UnitTree) (state : KindState) (reader next : Reader) (asked : List Question) → AreUnitsMade flat text means implied files outsides words state reader units next asked → AreUnitsMade more text means implied files outsides words state reader units next asked
    units-on [] state reader next asked h = h
    units-on (unit ∷ units) state reader next asked h =
        (h.0, h.1, h.2, unit-on state reader h.0 unit h.1 h.3, units-on units (after text outsides words state unit) h.0 next h.2 h.4, h.5)

  -- the units of a module stay so
  pub module-on : TreesStay flat more → (means : ℕ → Option Meaning) (implied : ℕ → List Meaning) (files : List ℕ → FlatFace) (outsides : List ℕ → Outside) (source : List ℕ) (units : ModuleUnits) (symbols : List Meaning) (last : Reader) (asked : List Question)
      → IsModuleMade flat means implied files outsides source units symbols last asked → IsModuleMade more means implied files outsides source units symbols last asked
  module-on stay means implied files outsides source units symbols last asked h =
      let text : Text = text_of source units in
      let words : List ℕ = words_of units in
      let setting : Setting = record { leads = with_symbols no_leads symbols 0; frame = symbols; olds = [] } in (
        h.0,
        extended-on stay text means implied files outsides words (first_scope text.file) (first_scope text.file) setting units.extends setting.leads h.0 h.1,
        units-on stay text means implied files outsides words units.units (first outsides source units) (record { setting = record { leads = h.0; frame = symbols; olds = [] }; round = []; faces = first_scope text.file }) last asked h.2,
      )
