-- Replacements that are made.
use Rattle.std.specs.Prelude.{◌≡◌, ℕ, ◌<◌, Bool, List, [], ◌∷◌, ◌++◌, Option, Some, None, length, map}
use Rattle.std.specs.List.{AllByRecursion}
use Rattle.tla_symbols.specs.declared.lexeme.Lexeme.{Lexeme}
use Rattle.tla_model.specs.Tables.{Named}
use Rattle.tla_model.specs.Entities.{Meaning}
use Rattle.module_model.specs.Exports.{Exports}
use Rattle.kind_text.specs.FlatModule as flat
use Rattle.kind_text.specs.FlatModule.{Extends, FlatModule, UsesInstance}
use Rattle.kind_table.specs.declared.flat.Replacement.{Replacement}
use Rattle.kind_table.specs.Flattened.{replacement_of}
use Rattle.name_context.specs.AsTables.{meant_by}
use Rattle.flattened_trees.specs.Leads.{Setting}
use Rattle.flattened_trees.specs.Questions.{Question}
use Rattle.flattened_trees.specs.Flattened as flattened
use Rattle.flattened_trees.specs.Flattened.{AreReplacing, AreStaying, IsInstance}
use Rattle.tree_flattener.specs.declared.instances.Placed.{Placed}
use Rattle.tree_flattener.specs.declared.instances.Right.{Right}
use Rattle.tree_flattener.specs.Making.{module_of}
use Rattle.tla_tree.specs.Arena.{Node, node_at}
use Rattle.tree_flattener.specs.declared.state.Flattening.{Flattening}
use Rattle.tree_flattener.specs.Steps.{Steps}
use Rattle.tree_flattener.specs.Worlds.{World}

-- a right side, with the name on its left
abbrev pub right_in : Right → flattened.Right
right_in right = record { name = meant_by right.name; node = right.node; at = right.at }

-- the same of several
abbrev pub rights_in : List Right → List flattened.Right
rights_in rights = map right_in rights

-- replacements, as the definitions have them
abbrev pub replacements_of : List Replacement → List flat.Replacement
replacements_of made = map replacement_of made

-- so many symbols stay, from the first one on
pub record AreStayed (old new : Flattening) (count : ℕ) (before after : List Replacement) : Type 0 where
  pub steps : Steps old new []
  pub locals : new.locals.items ≡ old.locals.items
  pub staying : List Replacement
  pub is : after ≡ before ++ staying
  pub there : AllByRecursion (λ r. r.root < length new.flat.nodes) staying
  pub holds : (more : FlatModule) → Extends new.flat more → AreStaying more 0 count (replacements_of staying)

-- a parameter is replaced, so that all are, where those behind it are
pub record Replaces (setting : Setting) (constant : Bool) (rights : List flattened.Right) (l : Lexeme) (old new : Flattening) (parameter : Named × Meaning) (symbols left : List Meaning) (before after : List Replacement) : Type 0 where
  pub asked : List Question
  pub steps : Steps old new asked
  pub locals : new.locals.items ≡ old.locals.items
  pub made : Replacement
  pub is : after ≡ before ++ made ∷ []
  pub there : made.root < length new.flat.nodes
  pub holds : (more : FlatModule) → Extends new.flat more → (rest : Exports) (others : List flat.Replacement) (b : List Question)
      → AreReplacing more setting.leads setting.frame constant rights l rest left others b
      → AreReplacing more setting.leads setting.frame constant rights l (parameter ∷ rest) symbols (replacement_of made ∷ others) (asked ++ b)

-- some first parameters are replaced
pub record ReplacesSome (setting : Setting) (constant : Bool) (rights : List flattened.Right) (l : Lexeme) (old new : Flattening) (all rest : Exports) (symbols left : List Meaning) (before after : List Replacement) : Type 0 where
  pub asked : List Question
  pub steps : Steps old new asked
  pub locals : new.locals.items ≡ old.locals.items
  pub made : List Replacement
  pub is : after ≡ before ++ made
  pub there : AllByRecursion (λ r. r.root < length new.flat.nodes) made
  pub holds : (more : FlatModule) → Extends new.flat more → (others : List flat.Replacement) (b : List Question)
      → AreReplacing more setting.leads setting.frame constant rights l rest left others b
      → AreReplacing more setting.leads setting.frame constant rights l all symbols (replacements_of made ++ others) (asked ++ b)

-- all parameters are replaced
pub record ReplacesAll (setting : Setting) (constant : Bool) (rights : List flattened.Right) (l : Lexeme) (old new : Flattening) (all : Exports) (symbols : List Meaning) (before after : List Replacement) : Type 0 where
  pub asked : List Question
  pub steps : Steps old new asked
  pub locals : new.locals.items ≡ old.locals.items
  pub made : List Replacement
  pub is : after ≡ before ++ made
  pub there : AllByRecursion (λ r. r.root < length new.flat.nodes) made
  pub holds : (more : FlatModule) → Extends new.flat more → AreReplacing more setting.leads setting.frame constant rights l all symbols (replacements_of made) asked

-- an instance is made
pub record Instantiates (w : World) (setting : Setting) (outer count : ℕ) (guards : Bool) (l : Lexeme) (rights : List flattened.Right) (old new : Flattening) (j : ℕ) : Type 0 where
  pub asked : List Question
  pub steps : Steps old new asked
  pub locals : new.locals.items ≡ old.locals.items
  pub there : UsesInstance new.flat (length new.flat.nodes) j
  pub holds : (more : FlatModule) → Extends new.flat more → IsInstance w.text w.means w.implied w.faces more setting outer count guards l rights j asked

-- a right side is appended, or none
pub record IsRighted (before after : List Right) (rights : List flattened.Right) : Type 0 where
  pub made : List Right
  pub is : after ≡ before ++ made
  pub are : rights_in made ≡ rights

-- the first of these nodes that is an INSTANCE, if there is one
abbrev pub IsFirst : List Node → List ℕ → Option Placed → Type 0
IsFirst nodes numbers None = AllByRecursion (λ number. module_of (node_at nodes number).form ≡ None) numbers
IsFirst nodes numbers (Some placed) =
    (before after : List ℕ) × (numbers ≡ before ++ placed.node ∷ after) × AllByRecursion (λ number. module_of (node_at nodes number).form ≡ None) before
    × (module_of (node_at nodes placed.node).form ≡ Some placed.«module»)
