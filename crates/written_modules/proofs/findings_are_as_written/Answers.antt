use Rattle.written_modules.proofs.Asked.{findings-known}
use Rattle.written_modules.proofs.findings_are_as_written.Goals as goal

pub returns : goal.returns
returns c flat means implied files outsides source units symbols last asked ordered holds made ends = findings-known flat ordered means implied files outsides source units symbols last asked holds made ends
