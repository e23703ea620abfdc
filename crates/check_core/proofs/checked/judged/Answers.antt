use Rattle.std.proofs.Common.{subst, sym}
use Rattle.std.proofs.lemmas.Result.{IfOk-weaker}
use Rattle.module_model.specs.Exports.{files_of}
use Rattle.module_model.specs.Resolution.{findings}
use Rattle.unit_grammar.specs.UnitNodes.{module_of}
use Rattle.written_names.specs.Names.{AreNamesOf}
use Rattle.check_core.proofs.Checking.{judged-with}
use Rattle.check_core.proofs.checked.judged.Goals as goal

pub returns-clause-judged : goal.returns-clause-judged
returns-clause-judged c =
    let found = c.in_ok-found.found in
    IfOk-weaker c.with_arities.result _ _
    (λ judged. judged-with c.args.imported.now c.args.tree.now.source (module_of c.args.tree.now) found.bound judged.bound found.face judged.face c.in_ok-arities.arities
    c.in_ok-found.ensures.bound c.in_ok-found.ensures.face (c.in_ok-arities.ensures _ c.args.tree.now.source c.in_ok-found.ensures.bound))
    c.with_arities.ensures.arities

pub returns-clause-names : goal.returns-clause-names
returns-clause-names c =
    let found = findings (files_of c.args.imported.now) c.args.tree.now.source (module_of c.args.tree.now) in
    IfOk-weaker c.with_arities.result _ _ (λ judged same. subst (AreNamesOf found) (sym same) c.in_ok-found.ensures.names) c.with_arities.ensures.names
