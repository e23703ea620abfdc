use Rattle.std.proofs.Common.{sym, ◌∙◌}
use Rattle.std.specs.Arc.{arc_value}
use Rattle.std.specs.Str.{bytes_eq}
use Rattle.face_views.proofs.Looking.{first-here, first-later}
use Rattle.exact_faces.proofs.parts.part_of.Goals as goal

pub returns-then-eq : goal.returns-then-eq
returns-then-eq c =
    first-here c.loop-index.index c.args.parts.now c.args.title.now c.in-Some.text.now (arc_value c.in-Some.part.now) (sym c.in-Some.ensures) (sym (λ i. bytes_eq (c.as_bytes.ensures.value i) (c.as_bytes-in-loop-index.ensures.value i)) ∙ sym c.eq.ensures ∙ c.if-eq.true) c.loop-index.invariant

pub loop-index-preserved : goal.loop-index-preserved
loop-index-preserved c =
    first-later c.loop-index.index c.args.parts.now c.args.title.now c.in-Some.text.now (arc_value c.in-Some.part.now) (sym c.in-Some.ensures) (sym (λ i. bytes_eq (c.as_bytes.ensures.value i) (c.as_bytes-in-loop-index.ensures.value i)) ∙ sym c.eq.ensures ∙ c.if-eq.false) c.loop-index.invariant
