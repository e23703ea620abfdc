use Rattle.std.proofs.Common.{subst, sym}
use Rattle.exact_faces.proofs.Exacting.{made-exact-of, stand-in}
use Rattle.exact_faces.specs.Kept.{AreKept}
use Rattle.exact_faces.proofs.face.cut.Goals as goal

pub exact_parts-requires : goal.exact_parts-requires
exact_parts-requires c = stand-in c.args.face.now c.in_ok-found.found c.in_ok-found.ensures.found

pub returns : goal.returns
returns c =
    made-exact-of c.args.face.now c.in_ok-made.made c.in_ok-found.found c.in_ok-found.ensures.found c.in_ok-found.ensures.all
    (subst (AreKept c.in_ok-found.found) (sym c.in_ok-made.ensures.parts) c.in_ok-parts.ensures) c.in_ok-made.ensures.exports c.in_ok-made.ensures.named
