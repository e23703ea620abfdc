use Rattle.std.specs.List.{AllByRecursion}
use Rattle.std.proofs.Common.{subst}
use Rattle.list_laws.proofs.Lists.{all-left}
use Rattle.module_model.specs.Modules.{text_of}
use Rattle.module_model.specs.Resolution.{first, words_of}
use Rattle.readable_laws.proofs.Fitting.{module-fits}
use Rattle.readable_laws.proofs.Steadiness.{UnitFits, all-steady, first-steady, known-steady, outside-steady}
use Rattle.readable_laws.proofs.modules_stay_steady.Goals as goal

pub returns-clause-read : goal.returns-clause-read
returns-clause-read c = λ files source units a before behind derives steady whole.
    all-steady (text_of source units) files (words_of units) steady (first files source units) before (all-left UnitFits before behind (subst (AllByRecursion UnitFits) whole (module-fits derives))) (first-steady files source units steady)

pub returns-clause-known : goal.returns-clause-known
returns-clause-known c = λ files text words state unit steady is. known-steady text files words steady state unit is

pub returns-clause-outside : goal.returns-clause-outside
returns-clause-outside c = λ files source units a derives steady. outside-steady files source units steady (module-fits derives)
