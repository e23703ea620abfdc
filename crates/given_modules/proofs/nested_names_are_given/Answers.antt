use Rattle.std.proofs.Common.{List, ℕ, refl}
use Rattle.module_model.specs.Modules.{text_of}
use Rattle.module_model.specs.Resolution.{words_of}
use Rattle.module_kinds.specs.ModuleKinds.{first}
use Rattle.accepted_modules.proofs.Reading.{front-derives}
use Rattle.given_modules.proofs.Again.{module-again}
use Rattle.given_modules.proofs.Declaring.{unit-binds}
use Rattle.given_modules.proofs.Fresh.{AreNewThere}
use Rattle.given_modules.proofs.OwnNames.{own-first}
use Rattle.given_modules.proofs.Quiet.{quiet-bringing}
use Rattle.given_modules.proofs.Steady.{instance-gives}
use Rattle.given_modules.proofs.Usable.{direct-of, view-one}
use Rattle.given_modules.proofs.Yielding.{brings-at, first-so}
use Rattle.given_modules.proofs.nested_names_are_given.Goals as goal

pub returns-clause-nothing : goal.returns-clause-nothing
returns-clause-nothing c = λ flat means implied files outsides source units symbols final asked made quiet.
    quiet-bringing flat (text_of source units) means implied files outsides (words_of units) units.units 0 (first outsides source units) _ _ final asked made.2 quiet refl

pub returns-clause-extended : goal.returns-clause-extended
returns-clause-extended c = λ yields flat declares behinds means implied files outsides name bytes units symbols final asked made good faultless same others yielding steady.
    let derives = front-derives name bytes units faultless.front in
    let apart = c.names_begin_apart.ensures.declared name bytes units faultless.front in
    let names = c.places_are_declared.ensures declares bytes units apart faultless.places in
    let declared = λ (title : List ℕ). (good.each title).given.names in
    let offered = λ (title : List ℕ). c.modules_come_steady.ensures.offered (outsides title).view (good.each title).comes in
    let ones = λ (title : List ℕ). view-one declares (outsides title).view (good.each title).given.names (direct-of (good.each title).comes) in
    let new : AreNewThere bytes units = λ before behind unit x seen split tree elsewhere. c.declared_names_are_new.ensures.trees name bytes units before behind unit x seen faultless.front split tree elsewhere in
    let own = own-first declares outsides bytes units (λ title. (good.each title).given.names.entries) names (c.own_names_are_apart.ensures.apart outsides name bytes units faultless.front) (c.own_names_are_apart.ensures.others outsides bytes units) in
    let gives = instance-gives declares outsides bytes units (λ title. (good.each title).given.names) offered ones names steady (unit-binds declares bytes units apart faultless.places) in
    module-again yields flat means implied files outsides bytes units good.foreign others declares declared names offered yielding
    (first-so yields declares flat means implied files outsides bytes units good.foreign others declared offered yielding ones names new own gives)
    (brings-at yields declares flat means implied files outsides bytes units good.foreign others declared offered yielding ones names new own gives) symbols same
    final asked made (c.readers_end.ensures.readers flat means implied files outsides bytes units symbols final asked derives.0 derives.1 made) own
