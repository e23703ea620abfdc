use Rattle.module_model.specs.Modules.{text_of}
use Rattle.module_model.specs.Resolution.{findings, words_of}
use Rattle.module_kinds.specs.ModuleKinds.{views}
use Rattle.readable_laws.specs.Uses.{implied_by, means_by}
use Rattle.given_modules.specs.Passed.{with_own_depths}
use Rattle.arranged_modules.proofs.Along.{module-arranged}
use Rattle.arranged_modules.proofs.Known.{known-deep}
use Rattle.arranged_modules.proofs.faultless_modules_are_arranged.Goals as goal

pub returns : goal.returns
returns c = λ flat declares behinds given inside files outsides name bytes units symbols final asked made good deep faultless same whole.
    let found = findings (views (text_of bytes units) outsides (words_of units)) bytes units in
    let names = c.places_are_declared.ensures declares bytes units (c.names_begin_apart.ensures.declared name bytes units faultless.front) faultless.places in
    let known =
    known-deep flat declares behinds given inside files outsides name bytes units good deep faultless names (c.own_names_are_apart.ensures.apart outsides name bytes units faultless.front) (λ m others. c.own_names_are_apart.ensures.others outsides bytes units m others) in
    module-arranged flat (means_by found) (implied_by found) files outsides name bytes units declares inside (with_own_depths outsides bytes units given) known symbols same final asked made whole
    (c.faultless_modules_are_shaped.ensures flat declares behinds files outsides name bytes units symbols final asked made good faultless same)
