use Rattle.module_meanings.proofs.Modules.{unit-follows}
use Rattle.module_meanings.proofs.Nesting.{here-told}
use Rattle.module_meanings.proofs.units_are_read.Goals as goal

pub returns : goal.returns
returns c flat text means implied files outsides words state reader seen layout unit next asked ordered follows plain made given =
    unit-follows flat ordered text means implied files outsides words state reader seen layout follows (here-told state.read.known state.read.place.here.context reader.setting seen layout follows) unit next asked plain made given
