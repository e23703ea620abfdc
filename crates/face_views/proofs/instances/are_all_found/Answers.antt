use Rattle.std.proofs.Common.{ℕ, List, sym}
use Rattle.std.specs.Arc.{arc_value}
use Rattle.std.specs.Str.{bytes_eq}
use Rattle.list_laws.proofs.Texts.{same-text}
use Rattle.module_model.specs.Parts.{ByText}
use Rattle.tla_model.specs.Tables.{lookup}
use Rattle.face_views.specs.Found.{AreFound}
use Rattle.face_views.proofs.Looking.{holds-next, not-all-found}
use Rattle.face_views.proofs.instances.are_all_found.Goals as goal

pub returns-then-not-is_found : goal.returns-then-not-is_found
returns-then-not-is_found c =
    not-all-found c.args.parts.now c.args.others.now c.in-Some.title.now c.if-not-is_found.ensures

pub loop-index-preserved : goal.loop-index-preserved
loop-index-preserved c =
    let parts : ByText = c.args.parts.now in
    let others : ByText = c.args.others.now in
    holds-next bytes_eq same-text
    (λ (title : List ℕ). AreFound (lookup bytes_eq parts title) (lookup bytes_eq others title))
    c.loop-index.index parts c.in-Some.title.now (arc_value c.in-Some.field-0-1.now)
    (sym c.in-Some.ensures) c.if-not-is_found.ensures c.loop-index.invariant
