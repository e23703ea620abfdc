use Rattle.module_model.specs.Modules.{text_of}
use Rattle.module_model.specs.Resolution.{findings, words_of}
use Rattle.module_kinds.specs.ModuleKinds.{views}
use Rattle.readable_laws.specs.Uses.{implied_by, means_by}
use Rattle.arranged_modules.proofs.faultless_modules_answer_depths.Goals as goal

pub returns-clause-names : goal.returns-clause-names
returns-clause-names c = λ flat declares behinds given inside files outsides name bytes units symbols final asked made ordered good deep faultless same whole.
    let found = findings (views (text_of bytes units) outsides (words_of units)) bytes units in
    c.module_depths_are_found.ensures.names flat (means_by found) (implied_by found) files outsides bytes units symbols final asked made ordered whole
    (c.faultless_modules_are_arranged.ensures flat declares behinds given inside files outsides name bytes units symbols final asked made good deep faultless same whole)

pub returns-clause-outside : goal.returns-clause-outside
returns-clause-outside c = λ flat declares behinds given inside files outsides name bytes units symbols final asked made ordered good deep faultless same whole.
    let found = findings (views (text_of bytes units) outsides (words_of units)) bytes units in
    c.module_depths_are_found.ensures.outside flat (means_by found) (implied_by found) files outsides bytes units symbols final asked made ordered whole
    (c.faultless_modules_are_arranged.ensures flat declares behinds given inside files outsides name bytes units symbols final asked made good deep faultless same whole)
