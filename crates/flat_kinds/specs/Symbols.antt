-- Symbols of a module at places, each of its own entity alone.
use Rattle.std.specs.Prelude.{◌≡◌, ℕ, suc, Bool, true, false, ◌&&◌, List, [], ◌∷◌, Some, if◌then◌else◌, nat_eq}
use Rattle.tla_symbols.specs.declared.level.Kind.TheVariants.{Const}
use Rattle.tla_model.specs.declared.entity.Entity.TheVariants as entity
use Rattle.tla_model.specs.declared.names.Meaning.TheVariants.{BuiltIn, Declared}
use Rattle.tla_model.specs.Entities.{Entity, Meaning, same_meaning}
use Rattle.kind_text.specs.ExpandedKind.{Given}
use Rattle.kind_text.specs.Substitution.{Item, expression}
use Rattle.tree_kinds.specs.Standing.{itself}
use Rattle.flat_trees.specs.Stands.{Stand, Unsaid, Place}
use Rattle.flat_trees.specs.Layouts.{order_of}
use Rattle.flat_kinds.specs.Readings.{is_among}

-- both are constants with so many places, or variables
abbrev pub same_declared : Entity → Entity → Bool
same_declared (entity.Constant m) (entity.Constant n) = nat_eq m n
same_declared entity.Variable entity.Variable = true
same_declared _ _ = false

-- the same symbol: it means the same, as the same entity
abbrev pub same_symbol : Meaning → Meaning → Bool
same_symbol (Declared e a) (Declared f b) = same_declared e f && same_meaning (Declared e a) (Declared f b)
same_symbol _ _ = false

-- symbols at places from this one on, before what is said of other names
abbrev pub symbols_at : (Meaning → Stand) → List Meaning → ℕ → Meaning → Stand
symbols_at base [] place other = base other
symbols_at base (meaning ∷ rest) place other = if same_symbol other meaning then Place place (order_of meaning) else symbols_at base rest (suc place) other

-- the item that stands for a name by itself
abbrev pub item_itself : Meaning → Item
item_itself BuiltIn = expression (Given (Some Const))
item_itself (Declared e callee) = itself e

-- no two of these mean the same
abbrev pub AreDistinct : List Meaning → Type 0
AreDistinct [] = Unit {0}
AreDistinct (meaning ∷ rest) = (is_among rest meaning ≡ false) × AreDistinct rest

-- nothing is said of names that mean the same as one of these
abbrev pub SaysNothing : (Meaning → Stand) → List Meaning → Type 0
SaysNothing base symbols = (other : Meaning) → is_among symbols other ≡ true → base other ≡ Unsaid
