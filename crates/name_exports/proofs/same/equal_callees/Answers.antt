use Rattle.std.proofs.Common.{◌∙◌, sym}
use Rattle.tla_model.specs.Entities.{same_units}
use Rattle.tla_model.specs.Same.{callee-equal}
use Rattle.name_exports.proofs.same.equal_callees.Goals as goal

pub returns-then-same_decl : goal.returns-then-same_decl
returns-then-same_decl c = λ yes.
    callee-equal c.args.left.now c.args.right.now c.if-left-right.false (sym c.if-same_decl.ensures)
    (sym (c.same_units.ensures ∙ (λ i. same_units (c.as_slice.ensures i) (c.as_slice-then-same_decl.ensures i))) ∙ yes)
