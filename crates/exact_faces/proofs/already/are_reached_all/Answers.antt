use Rattle.std.proofs.Common.{refl, subst}
use Rattle.exact_faces.specs.Kept.{AreOwnFound}
use Rattle.exact_faces.proofs.Exactly.{reached-all}
use Rattle.exact_faces.proofs.already.are_reached_all.Goals as goal

pub returns : goal.returns
returns c = λ is.
    let face = c.args.face.now in
    reached-all face c.args.imports.now c.args.names.now c.args.found.now c.requires.over c.requires.faces c.requires.exact c.requires.names c.requires.found
    (subst (λ title. AreOwnFound c.args.found.now title face.parts) c.as_str.ensures (c.if-not-are_own_found.ensures refl)) (c.in_ok-are.ensures is)
