use Rattle.std.proofs.Common.{List, ℕ, refl}
use Rattle.given_modules.proofs.Declaring.{unit-binds}
use Rattle.given_modules.proofs.Steady.{instance-gives, module-steady}
use Rattle.given_modules.proofs.Usable.{direct-of, view-one}
use Rattle.given_modules.proofs.modules_are_steady.Goals as goal

pub returns-clause-itself : goal.returns-clause-itself
returns-clause-itself c = λ flat declares behinds files outsides name bytes units good faultless steady.
    let apart = c.names_begin_apart.ensures.declared name bytes units faultless.front in
    let names = c.places_are_declared.ensures declares bytes units apart faultless.places in
    let ones = λ (title : List ℕ). view-one declares (outsides title).view (good.each title).given.names (direct-of (good.each title).comes) in
    module-steady declares outsides bytes units (λ title. (good.each title).given.names) (λ title. c.modules_come_steady.ensures.offered (outsides title).view (good.each title).comes) ones names steady
    (unit-binds declares bytes units apart faultless.places)

pub returns-clause-nothing : goal.returns-clause-nothing
returns-clause-nothing c = λ declares a b agree path. refl

pub returns-clause-instances : goal.returns-clause-instances
returns-clause-instances c = λ flat declares behinds files outsides name bytes units before behind local l at parts good faultless steady split none.
    let apart = c.names_begin_apart.ensures.declared name bytes units faultless.front in
    let names = c.places_are_declared.ensures declares bytes units apart faultless.places in
    let ones = λ (title : List ℕ). view-one declares (outsides title).view (good.each title).given.names (direct-of (good.each title).comes) in
    instance-gives declares outsides bytes units (λ title. (good.each title).given.names) (λ title. c.modules_come_steady.ensures.offered (outsides title).view (good.each title).comes) ones names steady
    (unit-binds declares bytes units apart faultless.places) before behind local l at parts split none
