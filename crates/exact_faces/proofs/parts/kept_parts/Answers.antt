use Rattle.std.proofs.Common.{subst, sym, arith}
use Rattle.std.specs.Arc.{arc_value}
use Rattle.std.proofs.lemmas.Bool.Decides.{nat_tests}
use Rattle.exact_faces.specs.Kept.{IsKeptPart}
use Rattle.exact_faces.proofs.Parting.{put-all, put-next}
use Rattle.exact_faces.proofs.parts.kept_parts.Goals as goal

pub loop-index-preserved : goal.loop-index-preserved
loop-index-preserved c =
    put-next c.args.found.now c.args.parts.now c.loop-index.new c.add.new.self c.loop-index.index c.in-Some.title.now (arc_value c.in-Some.part.now) c.in_ok-part.part
    (sym c.in-Some.ensures) (subst (λ part. IsKeptPart c.args.found.now c.in-Some.title.now part c.in_ok-part.part) c.deref.ensures c.in_ok-part.ensures) c.in_ok-add.ensures c.loop-index.invariant

pub returns : goal.returns
returns c =
    put-all c.args.found.now c.args.parts.now c.loop-index.new c.loop-index.index (grind (arith, nat_tests, c.loop-index-test.false, c.len-index-end.ensures)) c.requires c.loop-index.invariant
