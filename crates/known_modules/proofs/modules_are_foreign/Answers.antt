use Rattle.arranged_modules.specs.Passed.{IsForeign}
use Rattle.arranged_modules.proofs.Passed.{nothing-holds}
use Rattle.arranged_modules.specs.Passed.{IsNamedOf}
use Rattle.known_modules.proofs.modules_are_foreign.Goals as goal

pub returns-clause-itself : goal.returns-clause-itself
returns-clause-itself c = λ outsides bytes next units foreign apart. (
  c.brought_names_come.ensures.foreign outsides bytes units next (λ title. (foreign title).0) apart,
  c.deep_modules_are_files.ensures.foreign outsides bytes next units (λ title. (foreign title).1) apart,
)

pub returns-clause-nothing : goal.returns-clause-nothing
returns-clause-nothing c = λ title. (nothing-holds (IsForeign title), nothing-holds (IsNamedOf title))
