use Rattle.std.proofs.Common.{ap, ◌∙◌}
use Rattle.std.specs.Prelude.{reverse}
use Rattle.expr_parse.specs.Ending.{all_end}
use Rattle.expr_parse.proofs.Closing.{due-whole, due-stays}
use Rattle.expr_parse.proofs.ending.is_whole_due.Goals as goal

pub returns-in_default-endable : goal.returns-in_default-endable
returns-in_default-endable c nodes frames stands = due-stays c.args.goal frames c.in-Some.wait (c.in-Some.ensures.top nodes frames stands) c.in_default-endable.ensures

pub returns : goal.returns
returns c nodes frames stands =
    due-whole c.args.goal nodes (reverse c.args.stack.now.frames.items) (reverse c.outer.result.now) _ frames c.in-Some-endable.form c.in-Some.wait _ (c.in-Some.ensures.top nodes frames stands) stands
    (λ last below q. c.outer.ensures last below (ap reverse c.frames.ensures ∙ q)) c.in-Some-endable.ensures
    (c.all_end.ensures ∙ ap (all_end c.args.goal (reverse c.outer.result.now)) c.shape_of_form.ensures)
