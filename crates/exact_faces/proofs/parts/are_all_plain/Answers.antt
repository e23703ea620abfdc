use Rattle.std.proofs.Common.{refl, subst, sym, arith}
use Rattle.std.specs.Arc.{arc_value}
use Rattle.std.proofs.lemmas.Bool.Decides.{nat_tests}
use Rattle.exact_faces.proofs.Parting.{ArePlain, texts-all, texts-next}
use Rattle.exact_faces.proofs.parts.are_all_plain.Goals as goal

pub loop-index-preserved : goal.loop-index-preserved
loop-index-preserved c =
    texts-next c.args.found.now c.args.parts.now c.loop-index.index c.in-Some.title.now (arc_value c.in-Some.part.now)
    (sym c.in-Some.ensures) (subst (λ part. ArePlain c.args.found.now c.in-Some.title.now part) c.deref.ensures (c.if-not-are_plain.ensures refl)) c.loop-index.invariant

pub returns : goal.returns
returns c = λ all.
    texts-all c.args.found.now c.args.parts.now c.loop-index.index (grind (arith, nat_tests, c.loop-index-test.false, c.len-index-end.ensures)) c.loop-index.invariant
