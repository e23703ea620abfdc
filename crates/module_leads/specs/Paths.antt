-- Where paths lead in code, one name after another.
use Rattle.std.specs.Prelude.{◌≡◌, ℕ, ◌<◌, List, [], ◌∷◌, ◌++◌, Option, Some, map}
use Rattle.tla_model.specs.Tables.{Named}
use Rattle.name_context.specs.AsTables.{meant_by}
use Rattle.flattened_trees.specs.Leads.{FlatFace, Lead, nowhere, through}
use Rattle.module_leads.specs.declared.faces.ModuleFace.{ModuleFace}
use Rattle.module_leads.specs.declared.paths.Next.TheVariants as next
use Rattle.module_leads.specs.declared.ways.Way.TheVariants as way
use Rattle.module_leads.specs.Faces.{first_faces}
use Rattle.module_leads.specs.Ways.{face_at, way_lead}

-- where a path leads on
abbrev pub next_lead : (ℕ → FlatFace) → next.the_data → Lead
next_lead faces (next.End e) = record { path = []; end = e }
next_lead faces (next.Step j face name rest) = through j ((face_at faces face).leads (meant_by name ∷ map meant_by rest.now))

-- behind these instances
abbrev pub along : List ℕ → Lead → Lead
along path lead = record { path = path ++ lead.path; end = lead.end }

-- a name leads this way behind a face among the first so many, by the faces before it
pub record IsWayBefore (listed : List ModuleFace) (limit : ℕ) (face : Option ℕ) (name : Named) (number : ℕ) (way : way.the_data) : Type 0 where
  pub before : number < limit
  pub numbered : face ≡ Some number
  pub leads : (names : List Named) → (face_at (first_faces listed limit) face).leads (name ∷ names) ≡ way_lead (first_faces listed number) way names

-- nothing is known of a name behind a face among the first so many
abbrev pub LeadsNowhere : List ModuleFace → ℕ → Option ℕ → Named → Type 0
LeadsNowhere listed limit face name = (names : List Named) → (face_at (first_faces listed limit) face).leads (name ∷ names) ≡ nowhere
