use Rattle.std.proofs.Common.{◌∙◌, refl, subst}
use Rattle.std.proofs.lemmas.Result.{IfOk-weaker}
use Rattle.module_faces.proofs.Refused.{refused-over}
use Rattle.module_model.specs.Given.{IsFaceOver}
use Rattle.unit_grammar.specs.UnitNodes.{module_of}
use Rattle.check_core.proofs.Checking.{both, none-long, refused-checked, refused-faulty, resolved-checked, some-long}
use Rattle.check_core.proofs.checked.check_module.Goals as goal

pub named_modules-requires-clause-placed : goal.named_modules-requires-clause-placed
named_modules-requires-clause-placed g c = c.lexemes_lie_names.ensures _ _ c.requires.readable.lie

pub returns-then-not-is_empty-clause-facts : goal.returns-then-not-is_empty-clause-facts
returns-then-not-is_empty-clause-facts g c =
    IfOk-weaker c.refused.result _ _
    (λ made. refused-checked c.args.imported.now c.args.tree.now.source (module_of c.args.tree.now) c.in_ok-faults.faults made.0 c.in_ok-faults.ensures (some-long c.in_ok-faults.faults c.if-not-is_empty.ensures.1))
    c.refused.ensures.found

pub returns-then-not-is_empty-clause-face : goal.returns-then-not-is_empty-clause-face
returns-then-not-is_empty-clause-face g c =
    IfOk-weaker c.refused.result _ _ (λ made is. refused-over c.args.name.now made.0.face is c.args.imported.now) c.refused.ensures.face

pub returns-then-not-is_empty-clause-names : goal.returns-then-not-is_empty-clause-names
returns-then-not-is_empty-clause-names g c =
    IfOk-weaker c.refused.result _ _
    (λ made refused none. absurd (refused-faulty c.in_ok-faults.faults made.0 (some-long c.in_ok-faults.faults (c.if-not-is_empty.ensures.1)) refused none))
    c.refused.ensures.found

pub returns-clause-facts : goal.returns-clause-facts
returns-clause-facts g c =
    both c.resolved.result _ _ _
    (λ made names face. resolved-checked c.args.imported.now c.args.tree.now.source (module_of c.args.tree.now) made.0 (none-long c.in_ok-faults.faults (c.if-not-is_empty.ensures.0 refl) ∙ c.in_ok-faults.ensures) names face)
    c.resolved.ensures.found c.resolved.ensures.face

pub returns-clause-face : goal.returns-clause-face
returns-clause-face g c =
    IfOk-weaker c.resolved.result _ _ (λ made face. subst (λ z. IsFaceOver c.args.imported.now z made.0.face) c.requires.name face.over) c.resolved.ensures.face

pub returns-clause-names : goal.returns-clause-names
returns-clause-names g c = IfOk-weaker c.resolved.result _ _ (λ made names none. names) c.resolved.ensures.names
