-- Where names lead, and what is known round a tree that becomes nodes of a flat module, without its context.
use Rattle.std.specs.Prelude.{ℕ, suc, Bool, List, [], ◌∷◌, ◌++◌, if◌then◌else◌, length, map}
use Rattle.tla_tree.specs.declared.form.Form.{Form}
use Rattle.tla_tree.specs.Syntax.{Tree, Trees}
use Rattle.tla_model.specs.Tables.{Named}
use Rattle.tla_model.specs.Entities.{Meaning, Text, meant}
use Rattle.tla_model.specs.Scopes.{definition}
use Rattle.module_model.specs.Exports.{Exports}
use Rattle.tree_kinds.specs.Standing.{same_standing}
use Rattle.flat_trees.specs.Layouts.{order_of, parameters_of}
use Rattle.flattened_trees.specs.declared.End.TheVariants as end

-- where a name leads, and through which instances
pub record Lead : Type 0 where
  pub path : List ℕ
  pub end : end.the_data

-- nothing is known of a name
abbrev pub nowhere : Lead
nowhere = record { path = []; end = end.Nowhere }

-- where each meaning leads, by the names that follow on a path
abbrev pub Leads : Type 0
Leads = Meaning → List Named → Lead

-- one name of a path further: through an instance
abbrev pub through : ℕ → Lead → Lead
through j lead = record { path = j ∷ lead.path; end = lead.end }

-- to this, where no name follows
abbrev pub only : end.the_data → List Named → Lead
only e [] = record { path = []; end = e }
only e (name ∷ names) = nowhere

-- one thing more
abbrev pub with_lead : Leads → Meaning → (List Named → Lead) → Leads
with_lead leads meaning lead other names = if same_standing other meaning then lead names else leads other names

-- the same for each of these
abbrev pub with_leads : Leads → List Meaning → (List Named → Lead) → Leads
with_leads leads [] lead = leads
with_leads leads (meaning ∷ rest) lead = with_leads (with_lead leads meaning lead) rest lead

-- parameters, at places from this one on
abbrev pub with_places : Leads → List Meaning → ℕ → Leads
with_places leads [] place = leads
with_places leads (meaning ∷ rest) place = with_places (with_lead leads meaning (only (end.Place place (order_of meaning)))) rest (suc place)

-- where meanings lead, the symbols and parameters at the places of a frame, and the nodes of what `@` repeats
pub record Setting : Type 0 where
  pub leads : Leads
  pub frame : List Meaning
  pub olds : List ℕ

-- with the parameters of a form at the next places
abbrev pub with_parameters : Text → Setting → Form → Trees → Setting
with_parameters text setting form parts =
    record {
      leads = with_places setting.leads (parameters_of text form parts) (length setting.frame);
      frame = setting.frame ++ parameters_of text form parts;
      olds = setting.olds;
    }

-- behind a definition whose name leads there
abbrev pub behind : Text → Setting → Tree → (List Named → Lead) → Setting
behind text setting x lead = record setting { leads = with_leads setting.leads (map (meant text) (definition x)) lead }

-- where `@` repeats these nodes
abbrev pub repeating : Setting → List ℕ → Setting
repeating setting olds = record setting { olds = olds }

-- a module as its instances take it: its symbols with their names, how many symbols of modules round it come before these, where
-- paths of its names lead over all of them, and whether it is constant
pub record FlatFace : Type 0 where
  pub parameters : Exports
  pub outer : ℕ
  pub leads : List Named → Lead
  pub is_constant : Bool

-- where a path leads behind an instance of such a module
abbrev pub behind_instance : ℕ → FlatFace → List Named → Lead
behind_instance j face [] = nowhere
behind_instance j face (name ∷ names) = through j (face.leads (name ∷ names))
