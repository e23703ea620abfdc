use Rattle.flat_trees.proofs.Agreeing.{all-grown, before-agrees, behind-agrees, declared-agrees, front-stand, scope-agrees, with-agrees}
use Rattle.flat_trees.proofs.Instances.{brought-agrees, extended-stand}
use Rattle.flat_trees.proofs.agreement_is_kept.Goals as goal

pub returns-clause-scopes : goal.returns-clause-scopes
returns-clause-scopes c flat text known named layout frame around form parts agrees = scope-agrees flat text known named layout frame around agrees form parts

pub returns-clause-before : goal.returns-clause-before
returns-clause-before c flat text known named layout frame around form parts agrees = before-agrees flat text known named layout frame around agrees form parts

pub returns-clause-parameters : goal.returns-clause-parameters
returns-clause-parameters c flat text known named layout frame around form parts made arguments agrees fits =
    with-agrees flat text known named layout frame around agrees form parts made arguments fits

pub returns-clause-definitions : goal.returns-clause-definitions
returns-clause-definitions c flat text known named layout frame around x stand value agrees stands =
    behind-agrees flat text known named layout frame around agrees x stand value stands

pub returns-clause-olds : goal.returns-clause-olds
returns-clause-olds c flat layout frame around olds old agrees same =
    record { context = agrees.context; places = agrees.places; standing = agrees.standing; old = same }

pub returns-clause-brought : goal.returns-clause-brought
returns-clause-brought c flat text known named layout frame around j x l at rights staying made base inner entries is behind kept stays put agrees =
    brought-agrees flat text known named layout frame around j x l at rights staying made base inner entries is behind kept stays put agrees

pub returns-clause-longer : goal.returns-clause-longer
returns-clause-longer c flat frame more stands standing all = all-grown flat frame more stands standing all

pub returns-clause-extended : goal.returns-clause-extended
returns-clause-extended c flat layout frame standing parameters j x outside stands here places inner entries is many kept stays room symbols others =
    extended-stand flat layout frame standing parameters j x outside stands here places inner entries is many kept stays room symbols others

pub returns-clause-declared : goal.returns-clause-declared
returns-clause-declared c flat layout frame around context next x agrees each = declared-agrees flat layout frame around context next x agrees each

pub returns-clause-shorter : goal.returns-clause-shorter
returns-clause-shorter c flat frame more stands standing before all = front-stand flat frame more stands standing before all
