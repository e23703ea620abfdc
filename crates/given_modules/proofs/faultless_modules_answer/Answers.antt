use Rattle.module_model.specs.Modules.{text_of}
use Rattle.module_model.specs.Resolution.{findings, words_of}
use Rattle.module_kinds.specs.ModuleKinds.{views}
use Rattle.readable_laws.specs.Uses.{implied_by, means_by}
use Rattle.given_modules.proofs.faultless_modules_answer.Goals as goal

pub returns : goal.returns
returns c = λ flat declares behinds files outsides name bytes units symbols final asked made ordered good faultless same bringing.
    let found = findings (views (text_of bytes units) outsides (words_of units)) bytes units in
    c.module_levels_are_found.ensures flat (means_by found) (implied_by found) files outsides bytes units symbols final asked made ordered
    (c.faultless_modules_are_given.ensures flat declares behinds files outsides name bytes units symbols final asked made good faultless same bringing)
    (c.faultless_modules_are_shaped.ensures flat declares behinds files outsides name bytes units symbols final asked made good faultless same)
