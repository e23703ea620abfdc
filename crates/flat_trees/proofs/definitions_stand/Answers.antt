use Rattle.tla_tree.specs.declared.form.Form.TheVariants as Form
use Rattle.tla_tree.specs.Syntax.{Node}
use Rattle.tree_kinds.specs.Expanding.{defined_value}
use Rattle.flat_trees.proofs.Definitions.{definition-stands, function-stands}
use Rattle.flat_trees.proofs.Instances.{instance-stands}
use Rattle.flat_trees.proofs.definitions_stand.Goals as goal

pub returns-clause-operators : goal.returns-clause-operators
returns-clause-operators c flat text known named layout form l at parts d x defines there outer body =
    definition-stands flat text known named layout form l at parts d x defines there outer body

pub returns-clause-functions : goal.returns-clause-functions
returns-clause-functions c flat text known named layout l at parts d x there outer gives =
    function-stands flat text known named layout d x (λ around. defined_value text known named around (Node (Form.FunctionDefinition l) at parts)) there outer gives

pub returns-clause-instances : goal.returns-clause-instances
returns-clause-instances c flat text known named layout own at parts j x l rights staying made base inner is behind first kept stays put =
    instance-stands flat text known named layout own at parts j x l rights staying made base inner is behind first kept stays put
