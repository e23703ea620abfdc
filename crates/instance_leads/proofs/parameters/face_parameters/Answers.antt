use Rattle.std.proofs.Common.{◌≡◌, ◌∙◌, ◌++◌, List, ap, map}
use Rattle.tla_model.specs.EntityKinds.{stands_for_parameter}
use Rattle.tla_model.specs.Stretches.{shown}
use Rattle.module_model.specs.Exports.{exports_of, face_exports, of_symbols, of_words, parameters_in}
use Rattle.tree_names.specs.Parameters.{entries_in}
use Rattle.tree_names.specs.declared.parameter.Parameter.{Parameter}
use Rattle.instance_leads.proofs.Naming.{listed-kept, ok-so, symbols_meant}
use Rattle.instance_leads.proofs.parameters.face_parameters.Goals as goal

pub returns : goal.returns
returns c =
    ok-so (λ (found : List Parameter). entries_in found ≡ of_words (map shown c.as_slice.result.now) ++ of_symbols (symbols_meant stands_for_parameter c.symbols.result.now)) (λ (found : List Parameter). entries_in found ≡ parameters_in (face_exports c.args.face.now)) c.listed.result
    (λ found is.
    is
    ∙ listed-kept stands_for_parameter c.exports_in-table.result.now (map shown c.as_slice.result.now) c.symbols.result.now (ap (map shown) c.as_slice.ensures.value ∙ c.in_ok-words.ensures) c.symbols.ensures
    ∙ ap (λ z. parameters_in (exports_of z)) c.exports_in-table.ensures)
    c.listed.ensures
