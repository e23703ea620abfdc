use Rattle.owed_checks.proofs.Owing.{change-owes}
use Rattle.owed_checks.proofs.changes_owe_dirty_modules.Goals as goal

pub returns : goal.returns
returns c same tells kept old new owed owes = change-owes same old new (λ name is. c.dirty_modules_have_changed.ensures.clean same tells old new name is) kept owed owes
