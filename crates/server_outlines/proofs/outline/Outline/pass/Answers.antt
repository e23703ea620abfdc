use Rattle.std.proofs.Common.{reverse, ap, sym, ◌∙◌}
use Rattle.unit_grammar.specs.UnitNodes.{unit_at}
use Rattle.server_outlines.specs.Outlines.{unit_symbols}
use Rattle.server_outlines.specs.Passing.{names_round}
use Rattle.server_outlines.proofs.Leading.{names-more, other-unit}
use Rattle.server_outlines.proofs.outline.Outline.pass.Goals as goal

pub returns-in_ok-push_unit-in_default : goal.returns-in_ok-push_unit-in_default
returns-in_ok-push_unit-in_default c =
    let text = c.args.walk.now in
    let nodes = c.args.tree.now in
    let unit = c.args.unit.now in
    let old = c.args.self.now in
    let round = reverse old.begun.items in
    record {
      names = λ levels. names-more text round old.symbols (unit_symbols text (unit_at nodes unit)) c.push_unit.new.symbols c.in_ok-push_unit-in_default.ensures.symbols levels
          ∙ ap (λ z. names_round text round old.symbols z) (sym (other-unit text nodes unit c.in_default.not-ModuleBegin c.in_default.not-ModuleEnd levels));
      text = c.push_unit.ensures.text;
    }
