use Rattle.std.proofs.Common.{◌≡◌, sym, ◌∙◌}
use Rattle.std.specs.Arc.{arc_value}
use Rattle.tla_model.specs.Entities.{Meaning}
use Rattle.tla_model.specs.Tables.{Table}
use Rattle.face_views.specs.Same.{IsSameFace}
use Rattle.face_views.proofs.Exactly.{tells-false}
use Rattle.face_views.proofs.Exporting.{table-told}
use Rattle.face_views.proofs.face.are_same.Goals as goal

pub returns-else-are_same_names : goal.returns-else-are_same_names
returns-else-are_same_names c =
    tells-false c.are_same_names.result (IsSameFace c.args.one.now c.args.other.now)
    c.if-are_same_names.false
    (λ same.
    let one : Table Meaning = arc_value c.args.one.now.exports in
    let other : Table Meaning = arc_value c.args.other.now.exports in
    let tables : one ≡ other = table-told one other same.exports in
    c.if-are_same_names.ensures (c.deref.ensures ∙ tables ∙ sym c.deref-2.ensures))
