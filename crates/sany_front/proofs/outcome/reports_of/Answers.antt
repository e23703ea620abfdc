use Rattle.std.proofs.Common.{◌∙◌, ◌++◌, ◌∷◌, [], ap, sym}
use Rattle.sany_front.proofs.Alone.{alone-said, reports-said}
use Rattle.sany_front.proofs.outcome.reports_of.Goals as goal

pub returns-clause-fault : goal.returns-clause-fault
returns-clause-fault c =
    reports-said c.args.file c.args.fault c.as_str.result.now c.in_ok-found.found c.as_slice.result.now c.in_ok-verdicts.verdicts c.in_ok-reports.reports
    c.as_str.ensures c.in_ok-found.ensures
    (c.as_slice.ensures ∙ c.in_ok-push.ensures.ok ∙ ap (λ files. files ++ c.args.file ∷ []) c.new-files.ensures)
    c.in_ok-verdicts.ensures c.in_ok-reports.ensures

pub returns-clause-said : goal.returns-clause-said
returns-clause-said c =
    returns-clause-fault c ∙ sym (alone-said c.args.file c.args.fault c.names_differ.ensures c.leveled_is.ensures.front c.requires.front)
