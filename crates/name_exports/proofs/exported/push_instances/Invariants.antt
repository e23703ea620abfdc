use Rattle.std.proofs.Common.{◌≡◌, ◌++◌, take}
use Rattle.std.specs.Prelude.{map}
use Rattle.tla_model.specs.EntityKinds.{is_instance, words_meant}
use Rattle.tla_model.specs.Stretches.{shown}
use Rattle.name_context.specs.AsTables.{words_of}
use Rattle.name_exports.proofs.exported.push_instances.Given as goal

abbrev pub invariant-loop-index : goal.invariant-loop-index
invariant-loop-index l = map shown l.found.items ≡ map shown l.initial.found.items ++ words_meant is_instance (words_of (take l.index l.words.entries))
