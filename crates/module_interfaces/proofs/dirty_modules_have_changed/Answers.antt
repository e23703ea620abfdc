use Rattle.module_interfaces.proofs.Changing.{clean-kept, kept-clean}
use Rattle.module_interfaces.proofs.dirty_modules_have_changed.Goals as goal

pub returns-clause-clean : goal.returns-clause-clean
returns-clause-clean c same tells old new name clean = clean-kept same old new name tells clean

pub returns-clause-kept : goal.returns-clause-kept
returns-clause-kept c same finds old new name text imports = kept-clean same old new name finds text imports
