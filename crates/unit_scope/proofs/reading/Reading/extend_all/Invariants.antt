use Rattle.std.proofs.Common.{◌≡◌, ◌++◌, drop}
use Rattle.module_model.specs.Modules as in_modules
use Rattle.unit_scope.specs.Modules.{reading_of}
use Rattle.unit_scope.specs.Readings.{files_in}
use Rattle.unit_scope.proofs.reading.Reading.extend_all.Given as goal

abbrev pub invariant-loop-name : goal.invariant-loop-name
invariant-loop-name l = record {
  modules : l.self.modules ≡ l.initial.self.modules;
  reading : in_modules.extends_all l.text (files_in l.scope) (reading_of l.scope l.self) (drop l.name-index l.names) ≡ in_modules.extends_all l.text (files_in l.scope) (reading_of l.scope l.initial.self) l.names;
  findings : l.findings ++ in_modules.all_clashing l.text (files_in l.scope) (reading_of l.scope l.self) (drop l.name-index l.names) ≡ l.initial.findings ++ in_modules.all_clashing l.text (files_in l.scope) (reading_of l.scope l.initial.self) l.names;
}
