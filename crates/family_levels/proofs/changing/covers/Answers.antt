use Rattle.std.proofs.Common.{◌∙◌, Some, ap, sym}
use Rattle.std.proofs.lemmas.Bool.{OnTrue_at, OnTrue_from}
use Rattle.family_levels.proofs.Telling.{found-among, found-of-some}
use Rattle.family_levels.proofs.changing.covers.Goals as goal

pub returns-in-Some : goal.returns-in-Some
returns-in-Some c =
    OnTrue_from c.are_among.result _ (λ yes. found-among c.args.found.now c.as_slice.result.now (c.in-Some.is ∙ ap (λ ns. Some ns) (sym c.as_slice.ensures)) c.args.names.now (OnTrue_at yes c.are_among.ensures))

pub returns-in-None : goal.returns-in-None
returns-in-None c = found-of-some c.args.found.now c.in-None.is c.args.names.now
