-- What code has gathered of the instances that exports reach.
use Rattle.std.specs.Prelude.{◌≡◌, ◌≤◌, ℕ, List, Some, is_some, length, slice_get, true}
use Rattle.tla_model.specs.declared.ids.DeclId.{DeclId}
use Rattle.tla_model.specs.declared.ids.Callee.{Callee}
use Rattle.tla_model.specs.declared.names.Meaning.TheVariants.{Declared}
use Rattle.tla_model.specs.Entities.{Entity, Meaning, same_decl}
use Rattle.tla_model.specs.Tables.{lookup}
use Rattle.module_model.specs.Exports.{Exports, Instances}
use Rattle.name_context.specs.AsTables.{words_of}
use Rattle.tree_tasks.specs.declared.held.Held.{Held}
use Rattle.instance_leads.specs.declared.ended.Ended.{Ended}
use Rattle.instance_parts.specs.declared.reached.Gathering.{Gathering}
use Rattle.instance_parts.specs.Gathering.{AreGathered, AreRoots, AreTaken, HaveGrown, IsGained, IsRoot, told_by}
use Rattle.instance_scope.specs.Scoped.{IsSound, known_of}

-- what is told of instances
abbrev pub told_in : Gathering → Instances
told_in gathering = told_by gathering.scope.now.title.now gathering.own gathering.parts

-- what is gathered goes together, all is told of the imports that are noted, and each nested module is seen or not
pub record IsGathering (gathering : Gathering) : Type 0 where
  pub sound : IsSound gathering.scope.now
  pub gathered : AreGathered gathering.scope.now gathering.own gathering.parts gathering.seen.items
  pub joined : AreTaken gathering.scope.now.imported.now (words_of gathering.joined.entries) (told_in gathering)
  pub count : length gathering.seen.items ≡ length gathering.scope.now.nested.items

-- more is gathered
pub record IsGrown (old new : Gathering) : Type 0 where
  pub scope : new.scope.now ≡ old.scope.now
  pub grown : HaveGrown (told_in old) (told_in new) old.seen.items new.seen.items

-- from this number on, no more nested modules are seen
abbrev pub StayFrom : ℕ → Gathering → Gathering → Type 0
StayFrom count old new = (number : ℕ) → count ≤ number → slice_get new.seen.items number ≡ Some true → slice_get old.seen.items number ≡ Some true

-- an instance is gathered that leads here
abbrev pub HasGained : Gathering → DeclId → Held → Type 0
HasGained gathering decl held = IsGained gathering.scope.now.nested.items (told_in gathering) gathering.seen.items decl held

-- those of a nested module are gathered
abbrev pub HasDone : Gathering → Ended → Type 0
HasDone gathering ended = (decl : DeclId) (held : Held) → lookup same_decl ended.instances decl ≡ Some held → HasGained gathering decl held

-- an instance is known and gathered
abbrev pub HasRoot : Gathering → DeclId → Type 0
HasRoot gathering decl = IsRoot gathering.scope.now (told_in gathering) gathering.seen.items decl

-- the instances that these name are known and gathered
abbrev pub HasRoots : Gathering → Exports → Type 0
HasRoots gathering shown = AreRoots gathering.scope.now (told_in gathering) gathering.seen.items shown

-- of these meanings, the instances that are known are gathered
abbrev pub AreRooted : Gathering → List Meaning → Type 0
AreRooted gathering meanings = (place : ℕ) (entity : Entity) (callee : Callee) → slice_get meanings place ≡ Some (Declared entity callee) → is_some (known_of gathering.scope.now callee.decl) ≡ true → HasRoot gathering callee.decl

-- from this number on, all nested modules that are seen are done
abbrev pub AreDoneFrom : ℕ → Gathering → Type 0
AreDoneFrom count gathering = (number : ℕ) (ended : Ended) → count ≤ number → slice_get gathering.scope.now.nested.items number ≡ Some ended → slice_get gathering.seen.items number ≡ Some true → HasDone gathering ended
