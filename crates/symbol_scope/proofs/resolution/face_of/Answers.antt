use Rattle.std.proofs.Common.{◌∙◌, ap, subst, sym}
use Rattle.module_model.specs.Exports.{exports_of}
use Rattle.module_model.specs.Given.{AreReached}
use Rattle.module_model.specs.Modules.{Reading}
use Rattle.symbol_scope.proofs.Faces.{is-face}
use Rattle.symbol_scope.proofs.resolution.face_of.Goals as goal

pub reached_from-requires-clause-reached : goal.reached_from-requires-clause-reached
reached_from-requires-clause-reached c =
    let at = c.requires.at in
    let state = c.requires.state in
    subst (λ known. AreReached known (exports_of c.in_ok-exports.exports)) (sym at.known)
    (subst (λ table. AreReached state.known (exports_of table)) (sym (c.in_ok-exports.ensures ∙ ap (λ (r : Reading). r.exports) at.here)) c.requires.settled.here)

pub returns : goal.returns
returns c = λ over state at.
    is-face c.args.text.now over c.args.reader.now state at (record { «module» = c.in_ok-from_str.field-0; exports = c.in_ok-new.field-0; parts = c.in_ok-parts.parts })
    (c.in_ok-from_str.ensures ∙ c.file.ensures) c.in_ok-exports.exports c.in_ok-new.ensures.ok c.in_ok-exports.ensures c.in_ok-parts.ensures
