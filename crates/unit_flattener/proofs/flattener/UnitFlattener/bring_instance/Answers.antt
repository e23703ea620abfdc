use Rattle.std.proofs.Common.{◌∙◌, ap, refl, subst, sym}
use Rattle.tree_names.specs.Parameters.{entries_in}
use Rattle.brought_entries.specs.Entries.{IsInstantiated}
use Rattle.unit_flattener.specs.Walking.{face_number}
use Rattle.unit_flattener.specs.declared.flattener.UnitFlattener.{UnitFlattener}
use Rattle.unit_flattener.proofs.PlacedInstances.{instance-walked, walked-as}
use Rattle.unit_flattener.proofs.flattener.UnitFlattener.bring_instance.Goals as goal

pub returns : goal.returns
returns c =
    let written = c.args.written.now in
    let l = c.args.«module» in
    let old = c.args.self.now in
    let mid = c.make_instance.new.self in
    let new : UnitFlattener = record mid { reader = c.pass.new.self; leads = c.bring.new.self } in
    walked-as written c.args.unit.now c.args.local c.args.node old mid new c.requires.unit
    (instance-walked written c.args.node c.args.local old new mid l c.in_ok-instance.instance (entries_in c.as_slice.result.now) c.face-face.result c.requires.form c.requires.whole c.in_ok-instance.ensures.made c.in_ok-instance.ensures.others
    (subst (λ found. IsInstantiated written.text.now mid.reader l (entries_in found)) (sym c.as_slice.ensures) c.in_ok-entries.ensures)
    (c.face-face.ensures ∙ ap (face_number mid) c.spelled.ensures)
    (record { files = refl; modules = refl; own = refl; frame = refl; round = refl; state = refl; known = c.in_ok-bring.ensures.known; sound = c.in_ok-bring.ensures.sound }))
    c.in_ok-pass.ensures.state
