use Rattle.std.proofs.Common.{◌≡◌, ◌<◌, ℕ, Some, is_some, true}
use Rattle.std.specs.Prelude.{map, slice_get}
use Rattle.tla_model.specs.declared.ids.Callee.{Callee}
use Rattle.tla_model.specs.declared.names.Meaning.TheVariants.{Declared}
use Rattle.tla_model.specs.Entities.{Entity}
use Rattle.tla_model.specs.EntityKinds.{is_instance, words_meant}
use Rattle.instance_parts.specs.Gathered.{HasRoot, IsGathering, IsGrown}
use Rattle.instance_scope.specs.Scoped.{known_of}
use Rattle.instance_parts.proofs.reached.Gathering.reach_words.Given as goal

abbrev pub invariant-loop-index : goal.invariant-loop-index
invariant-loop-index l = record {
  gathering : IsGathering l.self;
  grown : IsGrown l.initial.self l.self;
  rooted : (place : ℕ) (entity : Entity) (callee : Callee) → place < l.index → slice_get (map (λ word. word.1) (words_meant is_instance l.exports.words)) place ≡ Some (Declared entity callee) → is_some (known_of l.self.scope.now callee.decl) ≡ true → HasRoot l.self callee.decl;
}
