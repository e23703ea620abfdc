use Rattle.written_modules.proofs.Asked.{module-known}
use Rattle.written_modules.proofs.modules_are_as_written.Goals as goal

pub returns : goal.returns
returns c flat means implied files outsides source units symbols last asked ordered holds made ends = module-known flat ordered means implied files outsides source units symbols last asked holds made ends
