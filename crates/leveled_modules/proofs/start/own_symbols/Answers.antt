use Rattle.std.proofs.Common.{◌∙◌, ap, reverse, subst, sym}
use Rattle.std.proofs.lemmas.Bool.{OnTrue_at}
use Rattle.std.proofs.lemmas.Result.{IfOk-weaker}
use Rattle.unit_grammar.specs.UnitNodes.{module_of}
use Rattle.unit_scope.specs.Readings.{Over}
use Rattle.unit_scope.specs.Steps.{IsUnread}
use Rattle.module_levels.specs.Passed.{AreOwnOf}
use Rattle.leveled_modules.proofs.start.own_symbols.Goals as goal

pub returns-then-has_no_nested : goal.returns-then-has_no_nested
returns-then-has_no_nested c =
    subst (AreOwnOf c.args.text.now c.args.imported.now c.args.tree.now.source (module_of c.args.tree.now)) (sym (ap reverse c.new.ensures.items))
    (OnTrue_at c.if-has_no_nested.true c.has_no_nested.ensures c.args.text.now c.args.imported.now)

pub symbols_ahead-requires-clause-unread : goal.symbols_ahead-requires-clause-unread
symbols_ahead-requires-clause-unread c =
    let at = c.in_ok-ahead.ensures in
    subst (λ imports. IsUnread c.args.text.now imports (module_of c.args.tree.now) c.in_ok-ahead.ahead) (sym (ap (λ (over : Over). over.imports) at.kept)) at

pub returns : goal.returns
returns c =
    subst (λ imports. AreOwnOf c.args.text.now imports c.args.tree.now.source (module_of c.args.tree.now) (reverse c.in_ok-own.own.items)) (ap (λ (over : Over). over.imports) c.in_ok-ahead.ensures.kept) c.in_ok-own.ensures
