use Rattle.std.proofs.Common.{Option, Some, nat_eq, sym}
use Rattle.std.specs.Arc.{arc_value}
use Rattle.std.proofs.lemmas.Bool.{eqb-true}
use Rattle.module_model.specs.Parts.{InText}
use Rattle.tla_model.specs.Tables.{lookup}
use Rattle.face_views.specs.Found.{IsWithin}
use Rattle.face_views.proofs.Looking.{holds-next, one-too-many, shown-none, within-shown}
use Rattle.face_views.proofs.instances.are_within.Goals as goal

pub returns-then-is_none : goal.returns-then-is_none
returns-then-is_none c =
    one-too-many c.loop-index.index c.args.part.now c.in-Some.place
    (arc_value c.in-Some.field-0-1.now) (Some c.args.other.now) (sym c.in-Some.ensures)
    (shown-none c.get.result (lookup nat_eq c.args.other.now c.in-Some.place) c.get.ensures
    c.if-is_none.ensures)

pub loop-index-preserved : goal.loop-index-preserved
loop-index-preserved c =
    let part : Option InText = Some c.args.part.now in
    let other : Option InText = Some c.args.other.now in
    holds-next nat_eq eqb-true (IsWithin part other) c.loop-index.index c.args.part.now
    c.in-Some.place (arc_value c.in-Some.field-0-1.now) (sym c.in-Some.ensures)
    (within-shown c.get.result part other c.in-Some.place c.get.ensures c.if-is_none.ensures)
    c.loop-index.invariant
