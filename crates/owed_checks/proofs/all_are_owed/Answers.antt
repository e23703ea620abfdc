use Rattle.owed_checks.proofs.Owing.{all-owed}
use Rattle.owed_checks.proofs.all_are_owed.Goals as goal

pub returns : goal.returns
returns c = all-owed
