-- What is asked of the files that a module names: each is to those that name it what a flat module has for it, and its names are what
-- their declarations are. And when a module is one that was accepted.
use Rattle.std.specs.Prelude.{◌≡◌, ℕ, Bool, false, List, [], if◌then◌else◌}
use Rattle.std.specs.List.{AllByRecursion}
use Rattle.std.specs.Str.{bytes_eq}
use Rattle.unit_grammar.specs.Units.{ModuleUnits}
use Rattle.front_laws.specs.Fronts.{IsFront, Tree as TreeFront}
use Rattle.tla_model.specs.declared.names.Meaning.TheVariants.{BuiltIn}
use Rattle.tla_model.specs.Entities.{Meaning}
use Rattle.module_model.specs.Bindings.{faults}
use Rattle.module_model.specs.Exports.{exports_of}
use Rattle.module_model.specs.Modules.{text_of}
use Rattle.module_model.specs.Resolution.{findings, words_of}
use Rattle.arity_rules.specs.Arities.{arity_faults}
use Rattle.kind_text.specs.FlatModule.{FlatModule}
use Rattle.tree_kinds.specs.Standing.{Outside}
use Rattle.module_kinds.specs.ModuleKinds.{last, outside, views}
use Rattle.flat_trees.specs.Instances.{symbols_of}
use Rattle.flat_kinds.specs.Declarations.{Declarations, HasPlaces}
use Rattle.flattened_trees.specs.Leads.{FlatFace, Leads, Setting}
use Rattle.flattened_units.specs.Units.{Reader, exported_leads}
use Rattle.module_meanings.specs.Faces.{IsExtendedBy, IsFaceBy, IsFaceWithin, IsPlaced, LeavesLead}
use Rattle.module_meanings.specs.Premises.{symbol_leads}
use Rattle.accepted_modules.specs.Behind.{Behinds, IsForeignView, IsGivenView}
use Rattle.accepted_modules.specs.Coming.{ComesOfModules}
use Rattle.accepted_modules.specs.Faces.{ReadsAs}

-- a file is good, with the face that a flat module has for it: it comes of modules, its names are what their declarations are, its face
-- is that of the module and leads to what is there, and the flat module has for it what it is to trees that name it, where leaves lead to
-- leaves, and to modules that extend it, where its symbols have places
pub record IsGoodFile (flat : FlatModule) (declares : Declarations) (behinds : Behinds) (face : FlatFace) (outside : Outside) : Type 0 where
  pub comes : ComesOfModules outside.view
  pub given : IsGivenView declares behinds outside.view
  pub reads : ReadsAs face outside
  pub there : IsFaceWithin flat face
  pub named : (new : Meaning → Bool) (leads : Leads) → LeavesLead leads → new BuiltIn ≡ false → IsFaceBy flat new leads face outside
  pub extended :
      (leads : Leads) (round : List Setting) (frame : List Meaning)
      → AllByRecursion (λ meaning. IsPlaced (symbol_leads round frame) meaning × (leads meaning [] ≡ symbol_leads round frame meaning [])) (symbols_of outside)
      → IsExtendedBy flat leads (symbol_leads round frame) face outside

-- all files are good to the module of this title, and none has a name that it declares
pub record AreGoodFiles (flat : FlatModule) (declares : Declarations) (behinds : Behinds) (title : List ℕ) (files : List ℕ → FlatFace) (outsides : List ℕ → Outside) : Type 0 where
  pub each : (name : List ℕ) → IsGoodFile flat declares behinds (files name) (outsides name)
  pub foreign : (name : List ℕ) → IsForeignView title (outsides name).view

-- a module that is the front of some bytes, and has no faults of names and of arities; its names are what their declarations are
pub record IsFaultless (declares : Declarations) (outsides : List ℕ → Outside) (name bytes : List ℕ) (units : ModuleUnits) : Type 0 where
  pub front : IsFront name bytes (TreeFront units)
  pub names : faults (findings (views (text_of bytes units) outsides (words_of units)) bytes units) ≡ []
  pub arities : arity_faults (findings (views (text_of bytes units) outsides (words_of units)) bytes units) units.units ≡ []
  pub places : HasPlaces declares bytes units

-- the face of a module of a file, by the reader behind its units
abbrev pub face_of : (List ℕ → Outside) → List ℕ → ModuleUnits → Reader → FlatFace
face_of outsides source units final =
    record {
      parameters = (outside outsides source units).view.parameters;
      outer = 0;
      leads = exported_leads final.setting.leads (exports_of (last outsides source units).read.place.here.exports);
      is_constant = (outside outsides source units).is_constant;
    }

-- with one more under this name
abbrev pub with_file : {A : Type 0} → List ℕ → A → (List ℕ → A) → List ℕ → A
with_file title file files name = if bytes_eq name title then file else files name
