use Rattle.std.proofs.Common.{sym, ◌∙◌}
use Rattle.tla_model.specs.Entities.{same_units}
use Rattle.face_views.proofs.Exactly.{told-by-units}
use Rattle.face_views.proofs.meaning.is_same_callee.Goals as goal

pub returns-then-same_decl : goal.returns-then-same_decl
returns-then-same_decl c =
    told-by-units c.same_units.result c.args.one.now c.args.other.now c.if-one-other.false
    (sym c.if-same_decl.ensures)
    (c.same_units.ensures
    ∙ (λ i. same_units (c.as_slice.ensures i) (c.as_slice-then-same_decl.ensures i)))
