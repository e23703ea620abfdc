-- Where names lead, by resolved trees: as `Lead`, `Setting` and `FlatFace` of `flattened_trees`, without numbers of a flat module.
use Rattle.std.specs.Prelude.{ℕ, suc, Bool, List, [], ◌∷◌, ◌++◌, if◌then◌else◌, length, map, slice_get}
use Rattle.tla_symbols.specs.declared.level.Kind.{Kind}
use Rattle.tla_tree.specs.declared.form.Form.{Form}
use Rattle.tla_tree.specs.Syntax.{Tree, Trees}
use Rattle.tla_model.specs.Tables.{Named}
use Rattle.tla_model.specs.Entities.{Meaning, Text, meant}
use Rattle.tla_model.specs.Scopes.{definition}
use Rattle.module_model.specs.Exports.{Exports}
use Rattle.kind_text.specs.FlatModule.{FlatModule}
use Rattle.tree_kinds.specs.Standing.{same_standing}
use Rattle.flat_trees.specs.Layouts.{order_of, parameters_of}
use Rattle.flattened_trees.specs.declared.End.TheVariants as end
use Rattle.flattened_trees.specs.Leads as flat_leads
use Rattle.resolved_trees.specs.Resolved.{Definition, End as NoPath, Instance, Parts, Path, Through, definition_at, parts_at, path_at, resolved}

-- where a name leads at last
pub data End : Type 0 where
  -- nothing is known of it
  Nowhere : End
  -- to a leaf of a kind
  Leaf : (kind : Kind) → End
  -- to the symbol or parameter at a place, by its order
  Place : (place order : ℕ) → End
  -- to a definition
  Defined : (definition : Definition) → End

-- where a name leads, and through which instances
pub record Lead : Type 0 where
  pub path : Path
  pub end : End

-- nothing is known of a name
abbrev pub nowhere : Lead
nowhere = record { path = NoPath; end = Nowhere }

-- where each meaning leads, by the names that follow on a path
abbrev pub Leads : Type 0
Leads = Meaning → List Named → Lead

-- through an instance
abbrev pub through : Instance → Lead → Lead
through instance lead = record { path = Through instance lead.path; end = lead.end }

-- to this, where no name follows
abbrev pub only : End → List Named → Lead
only e [] = record { path = NoPath; end = e }
only e (name ∷ names) = nowhere

-- one thing more
abbrev pub with_lead : Leads → Meaning → (List Named → Lead) → Leads
with_lead leads meaning lead other names = if same_standing other meaning then lead names else leads other names

-- the same for each of these
abbrev pub with_leads : Leads → List Meaning → (List Named → Lead) → Leads
with_leads leads [] lead = leads
with_leads leads (meaning ∷ rest) lead = with_leads (with_lead leads meaning lead) rest lead

-- parameters, at places from this one on
abbrev pub with_places : Leads → List Meaning → ℕ → Leads
with_places leads [] place = leads
with_places leads (meaning ∷ rest) place = with_places (with_lead leads meaning (only (Place place (order_of meaning)))) rest (suc place)

-- what is known round a tree: where meanings lead, the symbols and parameters at the places of a frame, and what `@` repeats
pub record Setting : Type 0 where
  pub leads : Leads
  pub frame : List Meaning
  pub olds : Parts

-- with the parameters of a form at the next places
abbrev pub with_parameters : Text → Setting → Form → Trees → Setting
with_parameters text setting form parts =
    record {
      leads = with_places setting.leads (parameters_of text form parts) (length setting.frame);
      frame = setting.frame ++ parameters_of text form parts;
      olds = setting.olds;
    }

-- behind a definition whose name leads there
abbrev pub behind : Text → Setting → Tree → (List Named → Lead) → Setting
behind text setting x lead = record setting { leads = with_leads setting.leads (map (meant text) (definition x)) lead }

-- where `@` repeats these
abbrev pub repeating : Setting → Parts → Setting
repeating setting olds = record setting { olds = olds }

-- a module as its instances take it: its symbols with their names, how many symbols of modules round it come before these, where
-- paths of its names lead over all of them, and whether it is constant
pub record Face : Type 0 where
  pub parameters : Exports
  pub outer : ℕ
  pub leads : List Named → Lead
  pub is_constant : Bool

-- where a path leads behind an instance of such a module
abbrev pub behind_instance : Instance → Face → List Named → Lead
behind_instance instance face [] = nowhere
behind_instance instance face (name ∷ names) = through instance (face.leads (name ∷ names))

-- ---- of a flat module

module _ (flat : FlatModule) where
  -- where a name leads at last
  abbrev pub end_in : end.the_data → End
  end_in end.Nowhere = Nowhere
  end_in (end.Leaf kind) = Leaf kind
  end_in (end.Place place order) = Place place order
  end_in (end.Definition d) = Defined (definition_at flat (resolved flat) (slice_get flat.definitions d))

  -- where a name leads
  abbrev pub lead_in : flat_leads.Lead → Lead
  lead_in lead = record { path = path_at flat (resolved flat) lead.path; end = end_in lead.end }

  -- where names lead
  abbrev pub leads_in : flat_leads.Leads → Leads
  leads_in leads meaning names = lead_in (leads meaning names)

  -- what is known round a tree
  abbrev pub setting_in : flat_leads.Setting → Setting
  setting_in setting = record { leads = leads_in setting.leads; frame = setting.frame; olds = parts_at flat (resolved flat) setting.olds }

  -- what a module is to its instances
  abbrev pub face_in : flat_leads.FlatFace → Face
  face_in face = record { parameters = face.parameters; outer = face.outer; leads = λ names. lead_in (face.leads names); is_constant = face.is_constant }
