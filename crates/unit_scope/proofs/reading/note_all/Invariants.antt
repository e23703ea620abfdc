use Rattle.std.proofs.Common.{◌≡◌, drop}
use Rattle.instance_scope.specs.Scoped.{IsSame, IsSound, known_of, module_in}
use Rattle.module_model.specs.Exports.{and_known}
use Rattle.module_model.specs.NamedModules.{known_from_all}
use Rattle.unit_scope.proofs.reading.note_all.Given as goal

abbrev pub invariant-loop-name : goal.invariant-loop-name
invariant-loop-name l = record {
  sound : IsSound l.scope;
  same : IsSame l.initial.scope l.scope;
  known : and_known (known_of l.scope) (known_from_all l.text (module_in l.initial.scope l.modules) (drop l.name-index l.names)) ≡ and_known (known_of l.initial.scope) (known_from_all l.text (module_in l.initial.scope l.modules) l.names);
}
