use Rattle.std.proofs.Common.{ap, subst, sym}
use Rattle.std.specs.Prelude.{IfOk, OnOk}
use Rattle.sorted_findings.specs.Sorting.{IsSorted}
use Rattle.unit_grammar.specs.UnitNodes.{module_of}
use Rattle.module_model.specs.Exports.{files_of}
use Rattle.module_model.specs.Resolution.{findings}
use Rattle.symbol_scope.specs.Exporting.{IsShown}
use Rattle.unit_scope.specs.Readings.{Over}
use Rattle.unit_scope.specs.Steps.{IsUnread}
use Rattle.written_names.specs.Names.{AreNamesOf}
use Rattle.symbol_scope.proofs.resolution.bind_text.Goals as goal

pub bind_module-requires-clause-unread : goal.bind_module-requires-clause-unread
bind_module-requires-clause-unread c =
    let at = c.in_ok-reader.ensures in
    subst (λ imports. IsUnread c.args.text.now imports (module_of c.args.tree.now) c.in_ok-reader.reader) (sym (ap (λ (over : Over). over.imports) at.kept)) at

pub returns-clause-sorted : goal.returns-clause-sorted
returns-clause-sorted c =
    subst (λ imports. OnOk c.bind_module.result (IsSorted (findings (files_of imports) c.args.tree.now.source (module_of c.args.tree.now)) c.bind_module.new.bound)) (ap (λ (over : Over). over.imports) c.in_ok-reader.ensures.kept) c.bind_module.ensures.sorted

pub returns-clause-names : goal.returns-clause-names
returns-clause-names c =
    subst (λ imports. IfOk c.bind_module.result (λ made. AreNamesOf (findings (files_of imports) c.args.tree.now.source (module_of c.args.tree.now)) made.0)) (ap (λ (over : Over). over.imports) c.in_ok-reader.ensures.kept) c.bind_module.ensures.names

pub returns-clause-face : goal.returns-clause-face
returns-clause-face c =
    subst (λ imports. IfOk c.bind_module.result (λ made. IsShown imports c.args.tree.now.source (module_of c.args.tree.now) c.bind_module.new.bound.faults made.1)) (ap (λ (over : Over). over.imports) c.in_ok-reader.ensures.kept) c.bind_module.ensures.face
