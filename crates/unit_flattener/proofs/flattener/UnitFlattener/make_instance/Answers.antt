use Rattle.std.proofs.Common.{[], ◌<◌, arith, false, length, subst, sym}
use Rattle.std.specs.List.{AllByRecursion}
use Rattle.declared_names.specs.Nodes.{parts_at}
use Rattle.tree_flattener.specs.Replacing.{Instantiates, rights_in}
use Rattle.tree_flattener.specs.Worlds.{frame_at, setting_of}
use Rattle.tree_flattener.proofs.Stepping.{ready-on}
use Rattle.tree_flattener.proofs.Within.{longer}
use Rattle.unit_flattener.specs.Walking.{world_at}
use Rattle.unit_flattener.proofs.PlacedInstances.{instance-placed}
use Rattle.unit_flattener.proofs.Places.{ready-here}
use Rattle.unit_flattener.proofs.flattener.UnitFlattener.make_instance.Goals as goal

pub right_sides-requires-clause-ready : goal.right_sides-requires-clause-ready
right_sides-requires-clause-ready c =
    let before = c.requires.within.before in
    ready-here c.args.written.now before.walk before.before c.requires.within.rest c.args.self.now before.reader before.at

pub instantiate-requires-clause-ready : goal.instantiate-requires-clause-ready
instantiate-requires-clause-ready c =
    let before = c.requires.within.before in
    let righted = c.in_ok-right_sides.ensures in
    ready-on (world_at c.args.written.now c.args.self.now) c.args.self.now.state c.right_sides.new.state c.args.self.now.frame [] righted.steps.extends righted.steps.frames righted.locals
    (ready-here c.args.written.now before.walk before.before c.requires.within.rest c.args.self.now before.reader before.at)

pub instantiate-requires-clause-outside : goal.instantiate-requires-clause-outside
instantiate-requires-clause-outside c =
    let there = c.requires.within.before.at.setting.there in
    let long = longer c.args.self.now.state.frames.items c.right_sides.new.state.frames.items c.in_ok-right_sides.ensures.steps.frames in
    omega (arith, there, long)

pub instantiate-requires-clause-rights : goal.instantiate-requires-clause-rights
instantiate-requires-clause-rights c =
    subst (AllByRecursion (λ right. right.node < length c.right_sides.new.state.flat.nodes)) (sym c.as_slice.ensures.value) c.in_ok-right_sides.ensures.rights_there

pub returns-clause-made : goal.returns-clause-made
returns-clause-made c =
    let w = world_at c.args.written.now c.args.self.now in
    let mid = c.right_sides.new.state in
    let frame = c.args.self.now.frame in
    let new = record c.args.self.now { state = c.instantiate.new.state } in
    instance-placed w c.args.self.now new mid c.args.«module» (parts_at c.args.written.now.tree.now c.args.node) c.right_sides.new.found.items c.new-roots.result.items c.right_sides.new.roots.items c.in_ok-j.j
    c.requires.within.before.at.setting.there c.in_ok-right_sides.ensures
    (subst (λ rights. Instantiates w (setting_of w mid frame []) (length (frame_at mid.frames.items frame)) 0 false c.args.«module» (rights_in rights) mid new.state c.in_ok-j.j) c.as_slice.ensures.value c.in_ok-j.ensures)
