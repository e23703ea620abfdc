use Rattle.accepted_modules.proofs.Reading.{front-derives}
use Rattle.given_modules.proofs.Fresh.{module-fresh}
use Rattle.given_modules.proofs.units_stay_fresh.Goals as goal

pub returns : goal.returns
returns c = λ flat means implied files outsides name bytes units symbols final asked made front foreign same.
    let derives = front-derives name bytes units front in
    module-fresh flat means implied files outsides bytes units foreign (λ before behind unit x seen split tree elsewhere. c.declared_names_are_new.ensures.trees name bytes units before behind unit x seen front split tree elsewhere)
    symbols final asked made same (c.readers_end.ensures.readers flat means implied files outsides bytes units symbols final asked derives.0 derives.1 made)
