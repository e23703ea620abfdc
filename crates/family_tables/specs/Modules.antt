-- What was read of modules, and which modules are those of a family.
use Rattle.std.specs.Prelude.{◌≡◌, ℕ, List, [], ◌∷◌, ◌++◌, if◌then◌else◌}
use Rattle.std.specs.List.{AllZip}
use Rattle.tla_lexeme.specs.Spans.{IsPlaced}
use Rattle.tla_tree.specs.declared.unit.ModuleTree.{ModuleTree}
use Rattle.tla_model.specs.Lexemes.{spelled}
use Rattle.front_laws.specs.Fronts.{IsFront, Tree, Fault}
use Rattle.unit_grammar.specs.UnitNodes.{module_of}
use Rattle.module_model.specs.Given.{IsReadable}
use Rattle.family_facts.specs.Family.{Member, is_there}
use Rattle.family_facts.specs.Verdicts.{text_of}
pub use Rattle.family_tables.specs.Needs.{needs_of}
use Rattle.family_tables.specs.declared.reading.Module.{Module}
use Rattle.family_tables.specs.declared.reading.Reading.{Reading}

-- the tree of a module with this name and these bytes
pub record IsTreeOf (name bytes : List ℕ) (tree : ModuleTree) : Type 0 where
  pub front : IsFront name bytes (Tree (module_of tree))
  pub source : tree.source ≡ bytes
  pub readable : IsReadable tree
  pub named : spelled tree.source tree.name ≡ name

-- what was read is the front of these bytes, for a file of this name
abbrev pub IsReading : List ℕ → List ℕ → Reading → Type 0
IsReading name bytes (Reading.Tree tree) = IsTreeOf name bytes tree
IsReading name bytes (Reading.Fault fault) = IsFront name bytes (Fault fault) × IsPlaced (text_of bytes) fault.span

-- a module with a front fault needs nothing
abbrev pub needs_in : Reading → List (List ℕ)
needs_in (Reading.Tree tree) = needs_of tree
needs_in (Reading.Fault fault) = []

-- the module with this name and these bytes
pub record IsModule (name bytes : List ℕ) («module» : Module) : Type 0 where
  pub reading : IsReading name bytes «module».reading
  pub needs : «module».needs ≡ needs_in «module».reading

-- a module under its name
abbrev pub Entry : Type 0
Entry = List ℕ × Module

-- an entry is the module of a member of a family
pub record IsEntry (member : Member) (entry : Entry) : Type 0 where
  pub named : entry.0 ≡ member.name
  pub is : IsModule entry.0 member.bytes entry.1

-- the modules are those of a family
abbrev pub AreModules : List Member → List Entry → Type 0
AreModules family entries = AllZip IsEntry family entries

-- ---- built-in modules

-- members and one more; one whose name is there is hidden
abbrev pub added : List Member → Member → List Member
added members member = if is_there members member.name then members else members ++ member ∷ []

-- ---- checks

-- how many trees there are
abbrev pub tree_count : Reading → ℕ
tree_count (Reading.Tree tree) = 1
tree_count (Reading.Fault fault) = 0
