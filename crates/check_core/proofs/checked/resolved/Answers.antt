use Rattle.std.proofs.Common.{◌∙◌, subst, sym}
use Rattle.module_model.specs.Bindings.{AreInOrder}
use Rattle.module_model.specs.Given.{AreFaces}
use Rattle.module_faces.specs.Faces.{IsOwnOrRefused}
use Rattle.unit_grammar.specs.UnitNodes.{module_of}
use Rattle.check_core.specs.Outcomes.{IsFaceWith}
use Rattle.check_core.proofs.Checking.{face-with}
use Rattle.check_core.proofs.checked.resolved.Goals as goal

pub judged-requires-clause-faces : goal.judged-requires-clause-faces
judged-requires-clause-faces c = subst (AreFaces c.args.imported.now) (sym c.requires.name) c.requires.faces

pub returns-clause-found : goal.returns-clause-found
returns-clause-found c =
    let found = c.in_ok-found.found in
    record {
      faults = subst (AreInOrder _) (sym c.with_names.ensures.faults) c.in_ok-found.ensures.judged.faults;
      uses = c.with_names.ensures.uses ∙ c.in_ok-found.ensures.judged.uses;
      decls = c.with_names.ensures.decls ∙ c.in_ok-found.ensures.judged.decls;
    }

pub returns-clause-face : goal.returns-clause-face
returns-clause-face c =
    let imports = c.args.imported.now in
    let source = c.args.tree.now.source in
    let units = module_of c.args.tree.now in
    let found = c.in_ok-found.found in
    subst (λ faults. IsFaceWith imports source units faults c.with_names.result.face) (sym c.with_names.ensures.faults)
    (face-with imports source units c.args.name.now found.bound.faults found.face c.with_names.result.face c.requires.name c.in_ok-found.ensures.judged.shown
    (subst (λ face. IsOwnOrRefused c.args.name.now found.face face) (sym c.with_names.ensures.face) c.in_ok-face.ensures))
