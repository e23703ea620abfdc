use Rattle.tree_kinds.specs.Expanding.{module_of}
use Rattle.flat_depths.proofs.Replacing.{each-together}
use Rattle.flat_depths.proofs.Definitions.{function-deep, instance-deep, operator-deep, staying-plain}
use Rattle.flat_depths.proofs.definitions_are_as_deep.Goals as goal

pub returns-clause-operators : goal.returns-clause-operators
returns-clause-operators c flat text known named around form l at parts d x orders e there deep = operator-deep flat text known named around form l at parts d x orders e there deep

pub returns-clause-functions : goal.returns-clause-functions
returns-clause-functions c flat text known named around l at parts d x orders there deep = function-deep flat text known named around l at parts d x orders there deep

pub returns-clause-instances : goal.returns-clause-instances
returns-clause-instances c flat text known named around own at parts j x orders staying made l rights inner there behind none first deep kept =
    instance-deep flat text known named around own at parts j x orders staying made l rights inner there behind none first deep kept

pub returns-clause-staying : goal.returns-clause-staying
returns-clause-staying c flat r node place ordered there e none = staying-plain flat r node place ordered there e none

pub returns-clause-replacements : goal.returns-clause-replacements
returns-clause-replacements c flat text known named around made l rights sides each = each-together flat text known named around rights (module_of text known named l).view.parameters made sides each
