use Rattle.std.proofs.Common.{subst}
use Rattle.std.specs.Prelude.{[], ◌∷◌}
use Rattle.module_model.specs.Parts.{AreJoined}
use Rattle.exact_faces.proofs.Owning.{own-joined}
use Rattle.exact_faces.proofs.parts.own_kept.Goals as goal

pub returns : goal.returns
returns c =
    own-joined c.args.found.now c.args.title.now c.args.parts.now c.add.new.self c.join.new.self c.in_ok-part.part c.requires.stand c.requires.own c.in_ok-part.ensures
    (subst (λ none. AreJoined c.add.new.self none ((c.args.title.now, c.in_ok-part.part) ∷ [])) c.new-new.ensures c.in_ok-add.ensures) c.in_ok-join.ensures
