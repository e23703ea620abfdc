use Rattle.std.proofs.Common.{subst, sym}
use Rattle.exact_faces.proofs.Exacting.{stand-in}
use Rattle.exact_faces.proofs.Owning.{own-exact-of}
use Rattle.exact_faces.specs.Kept.{AreOwnKept}
use Rattle.exact_faces.proofs.face.own_cut.Goals as goal

pub own_kept-requires-clause-stand : goal.own_kept-requires-clause-stand
own_kept-requires-clause-stand c = stand-in c.args.face.now c.args.found.now c.requires.found

pub returns : goal.returns
returns c =
    let face = c.args.face.now in
    let made = c.in_ok-made.made in
    own-exact-of face c.args.found.now c.requires.found c.requires.all made
    (subst (λ parts. AreOwnKept c.args.found.now face.«module» face.parts parts) (sym c.in_ok-made.ensures.parts)
    (subst (λ title. AreOwnKept c.args.found.now title face.parts c.in_ok-parts.parts) c.as_str.ensures c.in_ok-parts.ensures))
    c.requires.whole c.in_ok-made.ensures.exports c.in_ok-made.ensures.named
