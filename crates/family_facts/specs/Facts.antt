-- What a text is by itself, and which modules it needs.
use Rattle.std.specs.Prelude.{ℕ, List, Option, Some, None, map}
use Rattle.std.specs.FinMap.{from_entries}
use Rattle.tla_model.specs.Lexemes.{spelled}
use Rattle.module_graph.specs.Imports.{imports_of}
use Rattle.front_laws.specs.Fronts.{Front, Tree, Fault}
use Rattle.fact_values.specs.Names.{Texts}
use Rattle.family_facts.specs.Family.{Member}
use Rattle.family_facts.specs.Fronts.{front_of}

-- a text with its front
pub record Own : Type 0 where
  pub bytes : List ℕ
  pub front : Front

-- what a text is for a file of this name, without other texts
abbrev pub own_of : List ℕ → List ℕ → Own
own_of name bytes = record { bytes = bytes; front = front_of name bytes }

-- the modules that a front needs; one with a front fault is broken
abbrev pub needs_by : List ℕ → Front → Option (List (List ℕ))
needs_by bytes (Tree found) = Some (map (spelled bytes) (imports_of bytes found))
needs_by bytes (Fault fault) = None

-- the same of a text with its front
abbrev pub needs_of : Own → Option (List (List ℕ))
needs_of own = needs_by own.bytes own.front

-- ---- families

-- the texts of a family, by their names
abbrev pub texts_of : List Member → Texts
texts_of family = from_entries (map (λ (m : Member). (m.name, m.bytes)) family)
