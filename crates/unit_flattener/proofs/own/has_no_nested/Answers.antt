use Rattle.std.proofs.Common.{◌≡◌, false, subst, sym}
use Rattle.std.specs.List.{All}
use Rattle.std.proofs.lemmas.Bool.{OnTrue_at, OnTrue_from}
use Rattle.unit_grammar.specs.UnitNodes.{module_of}
use Rattle.module_model.specs.Exports.{files_of}
use Rattle.module_model.specs.Resolution.{words_of, first as first_read}
use Rattle.unit_flattener.specs.Ahead.{begins}
use Rattle.unit_flattener.proofs.Ahead.{none-begun}
use Rattle.unit_flattener.proofs.own.has_no_nested.Goals as goal

pub returns : goal.returns
returns c =
    let tree = c.args.tree.now in
    let units = module_of tree in
    OnTrue_from c.begins_none.result _ (λ none text imports.
    sym (none-begun text (files_of imports) (words_of units) tree.tree (first_read (files_of imports) tree.source units) tree.units
    (subst (All (λ x. begins x ≡ false)) c.as_slice.ensures (OnTrue_at none c.begins_none.ensures))))
