use Rattle.std.proofs.Common.{ap, ◌∙◌}
use Rattle.expr_grammar.specs.Tables.{or_finish}
use Rattle.expr_parts.proofs.parts.at_part.Goals as goal

pub returns : goal.returns
returns c = c.or_finish.ensures ∙ (ap (λ move. or_finish move c.finishes.result) c.after.ensures ∙ ap (or_finish _) c.finishes.ensures)
