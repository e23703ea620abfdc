use Rattle.std.proofs.Common.{◌+◌, ◌*◌, drop}
use Rattle.tree_flattener.specs.Flattens.{LinksSome, ReadsSome, operands_of, updates_of}
use Rattle.tree_flattener.specs.Righting.{RightsSome}
use Rattle.tree_flattener.specs.Worlds.{setting_of, world_of}
use Rattle.tree_flattener.proofs.Walking.{at_nodes}
use Rattle.tree_flattener.proofs.flattening.+flatten.Given as goal

abbrev pub decreases-flatten : goal.decreases-flatten
decreases-flatten g l = 16 * l.node + 9

abbrev pub decreases-plain : goal.decreases-plain
decreases-plain g l = 16 * l.node + 8

abbrev pub decreases-operands : goal.decreases-operands
decreases-operands g l = 16 * l.node + 4

abbrev pub decreases-operand : goal.decreases-operand
decreases-operand g l = 16 * l.child + 12

abbrev pub decreases-except : goal.decreases-except
decreases-except g l = 16 * l.node + 8

abbrev pub decreases-change : goal.decreases-change
decreases-change g l = 16 * l.update + 12

abbrev pub decreases-chain : goal.decreases-chain
decreases-chain g l = 16 * l.node + 8

abbrev pub decreases-link : goal.decreases-link
decreases-link g l = 16 * l.child + 12

abbrev pub decreases-definition : goal.decreases-definition
decreases-definition g l = 16 * l.node + 10

abbrev pub decreases-operator : goal.decreases-operator
decreases-operator g l = 16 * l.node + 8

abbrev pub decreases-function : goal.decreases-function
decreases-function g l = 16 * l.node + 8

abbrev pub invariant-operands-loop-child : goal.invariant-operands-loop-child
invariant-operands-loop-child g l =
    let w = world_of (g.N.Names.leads l.names) (g.N.Names.faces l.names) l.written in
    ReadsSome (operands_of w (setting_of w l.fn.state l.frame l.olds) l.which) l.fn.state l.state (at_nodes w.nodes l.children) (at_nodes w.nodes (drop l.child-index l.children)) l.fn.is.items l.is.items

abbrev pub invariant-except-loop-update : goal.invariant-except-loop-update
invariant-except-loop-update g l =
    let w = world_of (g.N.Names.leads l.names) (g.N.Names.faces l.names) l.written in
    ReadsSome (updates_of w (setting_of w l.initial.state l.frame l.olds) l.f) l.initial.state l.state (at_nodes w.nodes l.updates) (at_nodes w.nodes (drop l.update-index l.updates)) l.initial.is.items l.is.items

abbrev pub invariant-chain-loop-child : goal.invariant-chain-loop-child
invariant-chain-loop-child g l =
    let w = world_of (g.N.Names.leads l.names) (g.N.Names.faces l.names) l.written in
    LinksSome w l.fn.state l.state l.frame l.olds (at_nodes w.nodes l.children) (at_nodes w.nodes (drop l.child-index l.children)) l.body l.roots.items

abbrev pub decreases-module_definition : goal.decreases-module_definition
decreases-module_definition g l = 16 * l.node + 8

abbrev pub decreases-instance_definition : goal.decreases-instance_definition
decreases-instance_definition g l = 16 * l.node + 7

abbrev pub decreases-right_sides : goal.decreases-right_sides
decreases-right_sides g l = 16 * l.node + 4

abbrev pub decreases-right_side : goal.decreases-right_side
decreases-right_side g l = 16 * l.child + 12

abbrev pub invariant-right_sides-loop-child : goal.invariant-right_sides-loop-child
invariant-right_sides-loop-child g l =
    let w = world_of (g.N.Names.leads l.names) (g.N.Names.faces l.names) l.written in
    RightsSome w l.fn.state l.state l.frame l.olds l.«module» (at_nodes w.nodes l.children) (at_nodes w.nodes (drop l.child-index l.children)) l.found.items l.fn.roots.items l.roots.items
