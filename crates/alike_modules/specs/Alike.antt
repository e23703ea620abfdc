-- When the same is found of a module twice, as far as it is shown and as far as names go.
use Rattle.std.specs.Prelude.{◌≡◌}
use Rattle.leveled_facts.specs.Modules.{Leveled}

-- with the same faults, the same uses and their levels, and the same declarations; and it is the same to the names of others
pub record AreFoundAlike (one other : Leveled) : Type 0 where
  pub faults : one.faults ≡ other.faults
  pub uses : one.uses ≡ other.uses
  pub decls : one.decls ≡ other.decls
  pub view : one.outside.view ≡ other.outside.view
