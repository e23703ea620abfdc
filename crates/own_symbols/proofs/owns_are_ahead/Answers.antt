use Rattle.own_symbols.proofs.Owning.{units-owned}
use Rattle.own_symbols.proofs.owns_are_ahead.Goals as goal

pub returns : goal.returns
returns c flat text means implied files outsides words units state reader last asked made ends = units-owned flat text means implied files outsides words units state reader last asked made ends
