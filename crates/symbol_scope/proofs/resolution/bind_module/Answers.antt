use Rattle.std.proofs.Common.{ap, subst}
use Rattle.unit_grammar.specs.UnitNodes.{module_of}
use Rattle.tla_model.specs.Entities.{Text}
use Rattle.model_laws.proofs.Settling.{settled-last}
use Rattle.module_model.specs.Exports.{files_of}
use Rattle.module_model.specs.Resolution.{last}
use Rattle.symbol_scope.specs.Exporting.{IsFaceUnless}
use Rattle.unit_scope.specs.Steps.{outside_at, over_for}
use Rattle.symbol_scope.proofs.resolution.bind_module.Goals as goal

pub face_unless-requires : goal.face_unless-requires
face_unless-requires c =
    let imports = c.args.reader.now.scope.imported.now in
    let units = module_of c.args.tree.now in
    record {
      over = over_for imports units;
      state = last (files_of imports) c.args.tree.now.source units;
      at = c.in_ok-names.ensures.state;
      settled = settled-last (files_of imports) c.args.tree.now.source units;
    }

pub returns-clause-face : goal.returns-clause-face
returns-clause-face c =
    let imports = c.args.reader.now.scope.imported.now in
    let units = module_of c.args.tree.now in
    let state = last (files_of imports) c.args.tree.now.source units in
    subst (λ title. IsFaceUnless c.bind_uses.new.bound.faults imports title (outside_at state) c.in_ok-face.face) (ap (λ (t : Text). t.file) c.requires.text)
    (subst (λ faults. IsFaceUnless faults imports c.args.text.now.file (outside_at state) c.in_ok-face.face) c.as_slice.ensures (c.in_ok-face.ensures (over_for imports units) state c.in_ok-names.ensures.state))
