-- What is known at a place of a module, and what modules are to their instances, of a flat module.
use Rattle.std.specs.Prelude.{map, option_map}
use Rattle.module_scope.specs.Environments.{Environment, Scope}
use Rattle.kind_text.specs.FlatModule.{FlatModule}
use Rattle.flattened_trees.specs.Leads.{FlatFace}
use Rattle.flattened_units.specs.Units as flattened
use Rattle.written_trees.specs.Leading.{Face, face_in, setting_in}
use Rattle.written_modules.specs.Modules.{Reader}

module _ (flat : FlatModule) where
  -- the modules that can be named
  abbrev pub faces_in : Environment FlatFace → Environment Face
  faces_in modules = map (λ entry. (entry.0, option_map (face_in flat) entry.1)) modules

  -- the same of a place, and before each nested module round it
  abbrev pub scope_in : Scope FlatFace → Scope Face
  scope_in scope = record { here = faces_in scope.here; round = map (λ nested. (nested.0, faces_in nested.1)) scope.round }

  -- where a module is read
  abbrev pub reader_in : flattened.Reader → Reader
  reader_in reader = record { setting = setting_in flat reader.setting; round = map (setting_in flat) reader.round; faces = scope_in reader.faces }
