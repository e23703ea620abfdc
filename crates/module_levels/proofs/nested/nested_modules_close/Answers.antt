use Rattle.module_model.specs.Exports.{files_of}
use Rattle.module_model.specs.Modules.{text_of}
use Rattle.module_model.specs.Resolution.{first, words_of}
use Rattle.module_levels.proofs.NestedModules.{ends-begun, front-derives}
use Rattle.module_levels.proofs.nested.nested_modules_close.Goals as goal

pub returns-clause-ends : goal.returns-clause-ends
returns-clause-ends c = λ name bytes units imports front.
    ends-begun (text_of bytes units) (files_of imports) (words_of units) (front-derives name bytes units front).1 (first (files_of imports) bytes units)

pub returns-clause-begins : goal.returns-clause-begins
returns-clause-begins c = λ name bytes units imports front.
    let derives = front-derives name bytes units front in
    c.readers_end.ensures.states (files_of imports) bytes units derives.0 derives.1
