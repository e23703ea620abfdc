use Rattle.std.proofs.Common.{ap, ◌∙◌, add-one}
use Rattle.std.specs.Prelude.{max}
use Rattle.expr_grammar.specs.Machine as Machine
use Rattle.expr_stack.proofs.stack.inside.Goals as goal

pub returns-in-None : goal.returns-in-None
returns-in-None c = ap (λ z. Machine.inside_list z c.args.inner) c.in-None.ensures

pub returns-in-Some : goal.returns-in-Some
returns-in-Some c =
    c.max.ensures
    ∙ (ap (λ z. max c.args.inner z) (add-one c.in-Some.bullet.col)
    ∙ ap (λ z. Machine.inside_list z c.args.inner) c.in-Some.ensures)
