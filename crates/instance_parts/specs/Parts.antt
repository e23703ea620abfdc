-- The instances that exports reach, in parts that faces share.
use Rattle.std.specs.Prelude.{◌≡◌, Some}
use Rattle.tla_model.specs.declared.ids.DeclId.{DeclId}
use Rattle.module_model.specs.Exports.{Exports, Path, entries_along, entries_from, instances_in}
use Rattle.module_model.specs.Given.{AreReached, ComesFrom}
use Rattle.module_model.specs.Parts.{ByText}
use Rattle.instance_scope.specs.declared.scope.Scope.{Scope}
use Rattle.instance_scope.specs.Scoped.{known_of}

-- parts that hold what these exports reach, and nothing from elsewhere: paths through them lead where they do here
pub record AreParts (scope : Scope) (shown : Exports) (parts : ByText) : Type 0 where
  pub along : (path : Path) → entries_along (instances_in parts) shown path ≡ entries_from (known_of scope) shown path
  pub first : AreReached (instances_in parts) shown
  pub behind : (decl : DeclId) (entries : Exports) → instances_in parts decl ≡ Some entries → AreReached (instances_in parts) entries
  pub from : (decl : DeclId) (entries : Exports) → instances_in parts decl ≡ Some entries → ComesFrom scope.imported.now scope.title.now decl entries
