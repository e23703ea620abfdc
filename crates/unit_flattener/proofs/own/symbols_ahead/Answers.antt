use Rattle.std.proofs.Common.{◌∙◌, ap, map}
use Rattle.unit_grammar.specs.UnitNodes.{module_of, unit_at}
use Rattle.tla_model.specs.Lexemes.{LiesIn}
use Rattle.module_model.specs.Exports.{files_of}
use Rattle.module_model.specs.Resolution.{words_of, first as first_read}
use Rattle.unit_scope.specs.Steps.{over_for}
use Rattle.unit_scope.proofs.Onward.{units-lie}
use Rattle.own_symbols.specs.Ahead.{own_ahead}
use Rattle.unit_flattener.proofs.own.symbols_ahead.Goals as goal

pub own_symbols-requires-clause-lie : goal.own_symbols-requires-clause-lie
own_symbols-requires-clause-lie c = units-lie (LiesIn c.args.text.now.source) c.args.tree.now c.as_slice-units.result.now c.as_slice-units.ensures c.requires.lie

pub returns : goal.returns
returns c =
    let imports = c.args.reader.scope.imported.now in
    let units = module_of c.args.tree.now in
    let first = first_read (files_of imports) c.args.tree.now.source units in
    c.in_ok-own.ensures (over_for imports units) first c.in_ok-pass_extended.ensures.state
    ∙ ap (λ us. (own_ahead c.args.text.now (files_of imports) (words_of units) first (map (unit_at c.args.tree.now.tree) us)).begun) c.as_slice-units.ensures
