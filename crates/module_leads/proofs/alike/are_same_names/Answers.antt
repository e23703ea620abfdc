use Rattle.std.proofs.Common.{sym}
use Rattle.name_context.specs.AsTables.{meant_by}
use Rattle.face_views.proofs.Comparing.{same-next}
use Rattle.module_leads.specs.Alike.{module_at, names_at}
use Rattle.module_leads.proofs.alike.are_same_names.Goals as goal

pub loop-index-preserved : goal.loop-index-preserved
loop-index-preserved c =
    same-next c.loop-index.index (names_at c.args.sort (module_at c.args.faces.now c.args.one)) (names_at c.args.sort (module_at c.args.faces.now c.args.other)) (meant_by c.in-Some.first) (meant_by c.in-Some-name_at.second)
    (sym c.in-Some.ensures) (sym c.in-Some-name_at.ensures) c.if-not-is_same_name.ensures c.loop-index.invariant
