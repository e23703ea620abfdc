use Rattle.module_meanings.proofs.Extending.{extended-all}
use Rattle.module_meanings.proofs.extended_modules_are_read.Goals as goal

pub returns : goal.returns
returns c flat text means implied files outsides words known context modules faces setting symbols here names stands leads next ordered leads-here alike all each made =
    extended-all flat ordered text means implied files outsides words known context modules faces setting symbols here leads-here alike names stands leads next all each made
