-- When a name that leads somewhere stands for what a definition gives, and an instance is one of a written module.
use Rattle.std.specs.Prelude.{◌≡◌, ℕ, Bool, List, [], ◌∷◌, ◌++◌, Some, None, length, map, slice_get}
use Rattle.std.specs.List.{AllByRecursion}
use Rattle.tla_symbols.specs.declared.lexeme.Lexeme.{Lexeme}
use Rattle.tla_tree.specs.Syntax.{Tree, Trees}
use Rattle.tla_model.specs.Lexemes.{spelled}
use Rattle.tla_model.specs.Tables.{Named}
use Rattle.tla_model.specs.Entities.{Meaning, Text, meant}
use Rattle.tla_model.specs.Scopes.{definition}
use Rattle.module_model.specs.Exports.{Known, behind_instance, behind_meaning, entry_of, onward}
use Rattle.kind_text.specs.FlatModule.{FlatModule, Replacement}
use Rattle.tree_kinds.specs.Standing.{Outside}
use Rattle.tree_kinds.specs.Expanding.{defined_value, module_of}
use Rattle.flat_trees.specs.Stands.{Stand}
use Rattle.flat_trees.specs.Layouts.{Layout, Stands}
use Rattle.flat_trees.specs.Instances.{ArePutIn, IsModuleBehind, StaysIn}
use Rattle.flattened_trees.specs.Leads.{FlatFace, Lead}
use Rattle.flattened_trees.specs.Agreeing.{TakesAs, TakesBehind, lead_by}

-- a stand to which a name leads: it stands for what a definition gives, and takes what the name of the definition takes
pub record StandsFor (flat : FlatModule) (text : Text) (known : Known) (named : List ℕ → Outside) (layout : Layout) (x : Tree) (lead : List Named → Lead) : Type 0 where
  pub stand : Stand
  pub leads : (names : List Named) → lead names ≡ lead_by stand names
  pub stands : Stands flat layout stand (λ around. defined_value text known named around x)
  pub takes : AllByRecursion (λ meaning. TakesAs stand (behind_meaning known (Some meaning)) meaning) (map (meant text) (definition x))

-- an instance by number, with so many places round it and so many parameters, is one of the module of a name: the symbols of the modules
-- round that stay, behind which its own are put in, and its names stand so over these
pub record IsOfModule (flat : FlatModule) (text : Text) (known : Known) (named : List ℕ → Outside) (faces : List ℕ → FlatFace) (layout : Layout) (outer count : ℕ) (guards : Bool) (l : Lexeme) (rights : Trees) (j : ℕ) : Type 0 where
  pub staying : List Replacement
  pub made : List Replacement
  pub base : Meaning → Stand
  pub inner : Named → Stand
  pub there : slice_get flat.instances j ≡ Some (record { outer = outer; parameters = count; guards = guards; replacements = staying ++ made })
  pub unbounded : AllByRecursion (λ r. r.most ≡ None) staying
  pub kept : IsModuleBehind flat base (length staying) inner (module_of text known named l)
  pub stays : (meaning : Meaning) → StaysIn flat staying (base meaning) (layout.stands meaning)
  pub put : ArePutIn flat text known named layout made l rights
  pub leads : (name : Named) (names : List Named) → (faces (spelled text.source l)).leads (name ∷ names) ≡ lead_by (inner name) names
  pub takes : (name : Named) (next : Meaning) → entry_of (behind_instance (module_of text known named l).view []) name ≡ Some next → TakesBehind (inner name) (onward (behind_instance (module_of text known named l).view) name) next
