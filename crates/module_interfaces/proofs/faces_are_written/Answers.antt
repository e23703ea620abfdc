use Rattle.module_interfaces.proofs.Written.{face-written}
use Rattle.module_interfaces.proofs.faces_are_written.Goals as goal

pub returns : goal.returns
returns c declares flat knowledge files outsides name source units symbols last asked is = face-written flat files outsides source units declares knowledge name symbols last asked is
