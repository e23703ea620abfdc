-- Parts of what code keeps where it walks that alone are changed.
use Rattle.std.specs.Prelude.{◌≡◌}
use Rattle.unit_flattener.specs.declared.flattener.UnitFlattener.{UnitFlattener}

-- all but what was made, and the leads, are as before
pub record KeepsPlace (old new : UnitFlattener) : Type 0 where
  pub reader : new.reader ≡ old.reader
  pub files : new.files ≡ old.files
  pub modules : new.modules ≡ old.modules
  pub own : new.own.items ≡ old.own.items
  pub frame : new.frame ≡ old.frame
  pub round : new.round.items ≡ old.round.items

-- what was made changed
pub record ChangesState (old new : UnitFlattener) : Type 0 where
  pub place : KeepsPlace old new
  pub leads : new.leads ≡ old.leads

-- where names lead changed
pub record ChangesLeads (old new : UnitFlattener) : Type 0 where
  pub place : KeepsPlace old new
  pub state : new.state ≡ old.state
