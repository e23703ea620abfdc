use Rattle.std.proofs.Common.{◌≡◌, IfOk, false, ap, ◌∙◌, subst}
use Rattle.family_facts.specs.Verdicts.{after_checks, checks_of}
use Rattle.leveled_facts.specs.Families.{uses_on}
use Rattle.fact_lines.specs.Reports.{reports_on}
use Rattle.sany_run.specs.Program as program
use Rattle.sany_run.proofs.RunLemmas.{of-ok}
use Rattle.sany_run.proofs.generate.outcome_of_generated.Goals as goal

pub returns-clause-outcome : goal.returns-clause-outcome
returns-clause-outcome g c =
    let files = c.as_slice.ensures ∙ c.in_ok-files.ensures.files in
    let found : program.counted c.in_ok-found.found.reports c.in_ok-found.found.use_count ≡ program.counted (reports_on false c.as_slice.result.now) (uses_on c.as_slice.result.now) =
    λ i. program.counted (c.in_ok-found.ensures.reports i) (c.in_ok-found.ensures.use_count i) in
    subst (λ x. IfOk c.counted.result (λ outcome. outcome ≡ x)) (found ∙ ap (λ fs. program.counted (reports_on false fs) (uses_on fs)) files) c.counted.ensures.outcome

pub returns-clause-ticks : goal.returns-clause-ticks
returns-clause-ticks g c =
    let files = c.as_slice.ensures ∙ c.in_ok-files.ensures.files in
    of-ok c.counted.result (c.in_ok-found.ensures.steps ∙ ap (λ fs. after_checks (checks_of fs) c.args.steps.now) files)
