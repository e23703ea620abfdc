use Rattle.std.proofs.Common.{◌∙◌, ◌++◌, append_assoc, ap, subst, sym}
use Rattle.std.specs.Prelude.{map}
use Rattle.std.specs.List.{AllByRecursion}
use Rattle.tla_model.specs.Lexemes.{LiesIn, units_lexemes}
use Rattle.unit_grammar.specs.UnitNodes.{module_of, unit_at}
use Rattle.list_laws.proofs.Lists.{all-left}
use Rattle.model_laws.proofs.Settling.{settled-first}
use Rattle.module_model.specs.Exports.{exports_by, files_of}
use Rattle.module_model.specs.Instances.{paths_in}
use Rattle.module_model.specs.Modules.{all_clashing, unread}
use Rattle.module_model.specs.Resolution.{first, found_from, words_of}
use Rattle.unit_scope.specs.EnclosingReadings.{IsAt}
use Rattle.unit_scope.specs.Steps.{behind_units, clashing, extended_with, found_along, over_for, unread_state}
use Rattle.unit_scope.proofs.Onward.{units-lie}
use Rattle.unit_scope.proofs.Wholes.{at-first, at-last}
use Rattle.unit_scope.proofs.reader.ModuleReader.read_module.Goals as goal

pub extend-requires-clause-lie : goal.extend-requires-clause-lie
extend-requires-clause-lie c =
    let units = module_of c.args.tree.now in
    let lies = LiesIn c.args.text.now.source in
    subst (AllByRecursion lies) (sym c.as_slice.ensures) (all-left lies units.extends (units_lexemes units.units) c.requires.lie.1)

pub extend-requires-clause-placed : goal.extend-requires-clause-placed
extend-requires-clause-placed c = record { over = over_for c.args.self.now.scope.imported.now (module_of c.args.tree.now); state = unread_state c.args.text.now; at = c.requires.unread }

pub read_all-requires-clause-there : goal.read_all-requires-clause-there
read_all-requires-clause-there c = subst (AllByRecursion _) (sym c.as_slice-units.ensures) c.requires.nodes

pub read_all-requires-clause-lie : goal.read_all-requires-clause-lie
read_all-requires-clause-lie c = units-lie (LiesIn c.args.text.now.source) c.args.tree.now c.as_slice-units.result.now c.as_slice-units.ensures c.requires.lie

pub read_all-requires-clause-somewhere : goal.read_all-requires-clause-somewhere
read_all-requires-clause-somewhere c =
    let text = c.args.text.now in
    let imports = c.args.self.now.scope.imported.now in
    let source = c.args.tree.now.source in
    let units = module_of c.args.tree.now in
    let over = over_for imports units in
    record {
      over = over;
      state = first (files_of imports) source units;
      at = subst (IsAt text over c.extend.new.self) (ap (λ names. extended_with text names over (unread_state text)) c.as_slice.ensures ∙ at-first text imports source units c.requires.text)
          (c.in_ok-extend.ensures.state over (unread_state text) c.requires.unread);
      settled = settled-first (files_of imports) source units;
    }

pub returns-clause-state : goal.returns-clause-state
returns-clause-state c =
    let text = c.args.text.now in
    let imports = c.args.self.now.scope.imported.now in
    let source = c.args.tree.now.source in
    let units = module_of c.args.tree.now in
    let over = over_for imports units in
    let began = first (files_of imports) source units in
    let at = subst (IsAt text over c.extend.new.self) (ap (λ names. extended_with text names over (unread_state text)) c.as_slice.ensures ∙ at-first text imports source units c.requires.text)
    (c.in_ok-extend.ensures.state over (unread_state text) c.requires.unread) in
    subst (IsAt text over c.read_all.new.self) (ap (λ us. behind_units text (map (unit_at c.args.tree.now.tree) us) over began) c.as_slice-units.ensures ∙ at-last text imports source units c.requires.text)
    (c.in_ok-read_all.ensures.state over began at)

pub returns-clause-findings : goal.returns-clause-findings
returns-clause-findings c =
    let text = c.args.text.now in
    let is = c.requires.text in
    let imports = c.args.self.now.scope.imported.now in
    let files = files_of imports in
    let source = c.args.tree.now.source in
    let units = module_of c.args.tree.now in
    let over = over_for imports units in
    let old = c.args.findings.now in
    let began = first files source units in
    let at = subst (IsAt text over c.extend.new.self) (ap (λ names. extended_with text names over (unread_state text)) c.as_slice.ensures ∙ at-first text imports source units is)
    (c.in_ok-extend.ensures.state over (unread_state text) c.requires.unread) in
    let clashes = c.in_ok-extend.ensures.findings over (unread_state text) c.requires.unread ∙ ap (λ names. old ++ clashing text names over (unread_state text)) c.as_slice.ensures in
    c.in_ok-read_all.ensures.findings over began at
    ∙ (λ i. clashes i ++ found_along text (map (unit_at c.args.tree.now.tree) (c.as_slice-units.ensures i)) over began)
    ∙ append_assoc old (clashing text units.extends over (unread_state text)) (found_along text units.units over began)
    ∙ (λ i. old ++ (all_clashing (is i) (exports_by files) (unread (is i)) units.extends ++ found_from (is i) files (words_of units) (paths_in units.units) began units.units))
