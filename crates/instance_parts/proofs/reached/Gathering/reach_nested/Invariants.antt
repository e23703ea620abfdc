use Rattle.std.proofs.Common.{◌≡◌, ◌<◌, ℕ, Some}
use Rattle.std.specs.Prelude.{slice_get}
use Rattle.tla_model.specs.declared.ids.DeclId.{DeclId}
use Rattle.tla_model.specs.Entities.{same_decl}
use Rattle.tla_model.specs.Tables.{lookup}
use Rattle.tree_tasks.specs.declared.held.Held.{Held}
use Rattle.instance_parts.specs.Gathered.{HasGained, IsGathering, IsGrown, StayFrom}
use Rattle.instance_parts.proofs.reached.Gathering.reach_nested.Given as goal

abbrev pub invariant-loop-index : goal.invariant-loop-index
invariant-loop-index l = record {
  gathering : IsGathering l.self;
  grown : IsGrown l.initial.self l.self;
  below : StayFrom l.number l.initial.self l.self;
  done : (place : ℕ) (decl : DeclId) (noted held : Held) → place < l.index → slice_get l.ended.instances place ≡ Some (decl, noted) → lookup same_decl l.ended.instances decl ≡ Some held → HasGained l.self decl held;
}
