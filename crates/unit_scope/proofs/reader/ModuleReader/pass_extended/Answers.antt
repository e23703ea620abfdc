use Rattle.std.proofs.Common.{◌∙◌, ap, subst, sym}
use Rattle.std.specs.List.{AllByRecursion}
use Rattle.tla_model.specs.Lexemes.{LiesIn, units_lexemes}
use Rattle.unit_grammar.specs.UnitNodes.{module_of}
use Rattle.list_laws.proofs.Lists.{all-left}
use Rattle.model_laws.proofs.Settling.{settled-first}
use Rattle.module_model.specs.Exports.{files_of}
use Rattle.module_model.specs.Resolution.{first}
use Rattle.unit_scope.specs.EnclosingReadings.{IsAt}
use Rattle.unit_scope.specs.Steps.{extended_with, over_for, unread_state}
use Rattle.unit_scope.proofs.Wholes.{at-first}
use Rattle.unit_scope.proofs.reader.ModuleReader.pass_extended.Goals as goal

pub extend-requires-clause-lie : goal.extend-requires-clause-lie
extend-requires-clause-lie c =
    let units = module_of c.args.tree.now in
    let lies = LiesIn c.args.text.now.source in
    subst (AllByRecursion lies) (sym c.as_slice.ensures) (all-left lies units.extends (units_lexemes units.units) c.requires.lie.1)

pub extend-requires-clause-placed : goal.extend-requires-clause-placed
extend-requires-clause-placed c = record { over = over_for c.args.self.now.scope.imported.now (module_of c.args.tree.now); state = unread_state c.args.text.now; at = c.requires.unread }

pub returns-clause-state : goal.returns-clause-state
returns-clause-state c =
    let text = c.args.text.now in
    let imports = c.args.self.now.scope.imported.now in
    let source = c.args.tree.now.source in
    let units = module_of c.args.tree.now in
    let over = over_for imports units in
    subst (IsAt text over c.extend.new.self) (ap (λ names. extended_with text names over (unread_state text)) c.as_slice.ensures ∙ at-first text imports source units c.requires.text)
    (c.in_ok-extend.ensures.state over (unread_state text) c.requires.unread)

pub returns-clause-somewhere : goal.returns-clause-somewhere
returns-clause-somewhere c =
    let text = c.args.text.now in
    let imports = c.args.self.now.scope.imported.now in
    let source = c.args.tree.now.source in
    let units = module_of c.args.tree.now in
    let over = over_for imports units in
    record {
      over = over;
      state = first (files_of imports) source units;
      at = subst (IsAt text over c.extend.new.self) (ap (λ names. extended_with text names over (unread_state text)) c.as_slice.ensures ∙ at-first text imports source units c.requires.text)
          (c.in_ok-extend.ensures.state over (unread_state text) c.requires.unread);
      settled = settled-first (files_of imports) source units;
    }
