use Rattle.std.proofs.Common.{◌≡◌, ◌∙◌, ◌++◌, List, ap, map}
use Rattle.tla_model.specs.EntityKinds.{stands_for_parameter}
use Rattle.tla_model.specs.Stretches.{shown}
use Rattle.module_model.specs.Exports.{exports_of, of_symbols, of_words, parameters_in}
use Rattle.tree_names.specs.Parameters.{entries_in}
use Rattle.tree_names.specs.declared.parameter.Parameter.{Parameter}
use Rattle.instance_leads.proofs.Naming.{listed-kept, ok-so, symbols_meant}
use Rattle.instance_leads.proofs.parameters.nested_parameters.Goals as goal

pub returns : goal.returns
returns c =
    ok-so (λ (found : List Parameter). entries_in found ≡ of_words (map shown c.as_slice.result.now) ++ of_symbols (symbols_meant stands_for_parameter c.symbols.result.now)) (λ (found : List Parameter). entries_in found ≡ parameters_in (exports_of c.args.exports.now)) c.listed.result
    (λ found is.
    is ∙ listed-kept stands_for_parameter c.args.exports.now (map shown c.as_slice.result.now) c.symbols.result.now (ap (map shown) c.as_slice.ensures.value ∙ c.in_ok-words.ensures) c.symbols.ensures.symbols)
    c.listed.ensures
