-- Families of modules, and what each module of a family needs.
use Rattle.std.specs.Prelude.{◌≡◌, ℕ, Bool, List, ◌++◌, map, filter, not, Contains}
use Rattle.std.specs.List.{list_any}
use Rattle.std.specs.Str.{bytes_eq}
use Rattle.tla_model.specs.Lexemes.{spelled}
use Rattle.index_graph.specs.Leading.{LeadsBack}
use Rattle.module_graph.specs.Imports.{imports_of}
use Rattle.front_laws.specs.Fronts.{IsFront, Tree}
use Rattle.unit_grammar.specs.Units.{ModuleUnits}
use Rattle.list_laws.specs.Distinct.{AreNamedApart}

-- a module's text under its name
pub record Member : Type 0 where
  pub name : List ℕ
  pub bytes : List ℕ

-- ---- families

-- a text of this name is there
abbrev pub is_there : List Member → List ℕ → Bool
is_there members name = list_any (λ m. bytes_eq name m.name) members

-- files over the built-in modules: a file hides the built-in module of its name
abbrev pub over : List Member → List Member → List Member
over files built_in = files ++ filter (λ m. not (is_there files m.name)) built_in

-- no two members have one name
abbrev pub AreMembersDistinct : List Member → Type 0
AreMembersDistinct family = AreNamedApart (λ (member : Member). member.name) family

module _ (family : List Member) where
  -- what a module needs; one with a front fault needs nothing
  pub record Needs (name need : List ℕ) : Type 0 where
    pub member : Member
    pub found : ModuleUnits
    pub there : Contains family member
    pub named : member.name ≡ name
    pub front : IsFront member.name member.bytes (Tree found)
    pub needs : Contains (map (spelled member.bytes) (imports_of member.bytes found)) need

  -- an import of a module is cyclic where it is that module or reaches it
  abbrev pub IsCyclic : List ℕ → List ℕ → Type 0
  IsCyclic = LeadsBack Needs
