use Rattle.viewed_modules.proofs.Viewing.{module-alike}
use Rattle.viewed_modules.proofs.made_modules_need_views.Goals as goal

pub returns : goal.returns
returns c flat means implied files outsides others source units symbols last asked same made = module-alike flat means implied files outsides others source units symbols last asked same made
