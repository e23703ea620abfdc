use Rattle.list_laws.proofs.Lists.{all-both}
use Rattle.tla_model.specs.Lexemes.{spelled}
use Rattle.module_scope.specs.Environments.{begun}
use Rattle.module_model.specs.Exports.{exported}
use Rattle.module_model.specs.NamedModules.{unit_of, view_of}
use Rattle.module_model.specs.Resolution.{module_named}
use Rattle.module_kinds.specs.ModuleKinds.{views}
use Rattle.module_meanings.specs.Premises.{extended_meanings}
use Rattle.fresh_names.specs.Seen.{IsElsewhere}
use Rattle.fresh_names.proofs.Brought.{instance-elsewhere, modules-elsewhere}
use Rattle.fresh_names.proofs.brought_names_are_elsewhere.Goals as goal

pub returns-clause-instances : goal.returns-clause-instances
returns-clause-instances c = λ text outsides words state local l s parts next others all.
    instance-elsewhere text others (unit_of text words l) (view_of text (module_named text (views text outsides words) words state.read) l).parameters
    (exported (view_of text (module_named text (views text outsides words) words state.read) l)) all

pub returns-clause-nested : goal.returns-clause-nested
returns-clause-nested c = λ text outsides words state dashes name extends next others symbols all.
    all-both (IsElsewhere text others) next.setting.frame (extended_meanings text outsides words (begun state.modules (spelled text.source name)) extends) symbols
    (modules-elsewhere text others outsides words (begun state.modules (spelled text.source name)) extends all)
