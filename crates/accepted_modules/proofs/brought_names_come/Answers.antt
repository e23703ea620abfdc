use Rattle.std.proofs.Common.{◌∷◌, subst}
use Rattle.list_laws.proofs.Lists.{all-left}
use Rattle.std.specs.List.{AllByRecursion}
use Rattle.unit_grammar.specs.Units.{Instance, ModuleBegin}
use Rattle.module_model.specs.Modules.{text_of}
use Rattle.flat_kinds.specs.Declarations.{AreNamesDeclared, declared_names}
use Rattle.accepted_modules.proofs.Behind.{view-foreign}
use Rattle.accepted_modules.proofs.Brought.{first-come, nested-come, outside-foreign, outside-given, unit-come}
use Rattle.accepted_modules.proofs.brought_names_come.Goals as goal

pub returns-clause-extended : goal.returns-clause-extended
returns-clause-extended c = first-come

pub returns-clause-nested : goal.returns-clause-nested
returns-clause-nested c = λ declares behinds outsides source units before behind dashes name extends given foreign names split.
    nested-come declares behinds outsides source units given foreign names before dashes name extends
    (all-left (λ unit. AreNamesDeclared declares (text_of source units) (declared_names unit)) before (ModuleBegin dashes name extends ∷ behind) (subst (AllByRecursion (λ unit. AreNamesDeclared declares (text_of source units) (declared_names unit))) split names))

pub returns-clause-instances : goal.returns-clause-instances
returns-clause-instances c = λ declares behinds outsides source units before behind local x l at rights given foreign names split same.
    unit-come declares behinds outsides source units given foreign names before local x l at rights
    (all-left (λ unit. AreNamesDeclared declares (text_of source units) (declared_names unit)) before (Instance local x ∷ behind) (subst (AllByRecursion (λ unit. AreNamesDeclared declares (text_of source units) (declared_names unit))) split names)) same

pub returns-clause-given : goal.returns-clause-given
returns-clause-given c = outside-given

pub returns-clause-foreign : goal.returns-clause-foreign
returns-clause-foreign c = outside-foreign

pub returns-clause-others : goal.returns-clause-others
returns-clause-others c = λ declares behinds title known view is foreign. record {
  names = is.names;
  behind = view-foreign title known behinds view is.behind foreign;
}
