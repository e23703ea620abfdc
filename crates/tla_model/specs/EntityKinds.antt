-- Kinds of entities: what INSTANCE replaces, what can be named behind an instance, and behind what something stands.
use Rattle.std.specs.Prelude.{ℕ, Bool, true, false, List, Option, Some, None, filter}
use Rattle.tla_model.specs.declared.entity.Entity.TheVariants as entity
use Rattle.tla_model.specs.declared.names.Meaning.TheVariants.{BuiltIn, Declared}
use Rattle.tla_model.specs.declared.ids.Callee.{Callee}
use Rattle.tla_model.specs.Entities.{Entity, Meaning}

-- what a name means that is declared so; one that is not declared is built in
abbrev pub declared_as : Option (Entity × Callee) → Meaning
declared_as (Some (entity, callee)) = Declared entity callee
declared_as None = BuiltIn

-- what INSTANCE replaces
abbrev pub stands_for_parameter : Entity → Bool
stands_for_parameter (entity.Constant arity) = true
stands_for_parameter entity.Variable = true
stands_for_parameter _ = false

-- what can be named behind an instance
abbrev pub stands_behind : Entity → Bool
stands_behind (entity.Definition orders) = true
stands_behind (entity.Instance orders) = true
stands_behind _ = false

-- behind what something stands
abbrev pub is_instance : Entity → Bool
is_instance (entity.Instance orders) = true
is_instance _ = false

-- a meaning is an entity of this kind; what is built in is no entity
abbrev pub is_meant : (Entity → Bool) → Meaning → Bool
is_meant which BuiltIn = false
is_meant which (Declared entity callee) = which entity

-- those of some words that mean an entity of this kind
abbrev pub words_meant : (Entity → Bool) → List (List ℕ × Meaning) → List (List ℕ × Meaning)
words_meant which words = filter (λ word. is_meant which word.1) words
