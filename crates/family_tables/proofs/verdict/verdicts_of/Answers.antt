use Rattle.std.proofs.Common.{subst, sym, take, ◌+◌}
use Rattle.std.specs.List.{AllZip}
use Rattle.family_tables.specs.Outcomes.{IsSaid}
use Rattle.family_facts.specs.declared.verdict.File.{File}
use Rattle.family_facts.proofs.Lists.{zip-more}
use Rattle.family_tables.proofs.verdict.verdicts_of.Goals as goal

pub loop-file-preserved : goal.loop-file-preserved
loop-file-preserved c =
    let files = c.args.files.now in
    let i = c.loop-file.file-index in
    let said = IsSaid c.args.outcomes.now in
    subst (λ verdicts. AllZip said (take (i + 1) files) verdicts) (sym c.in_ok-push.ensures.ok)
    (zip-more said files c.loop-file.verdicts i c.file-item.result c.in_ok-verdict_of.field-0 c.loop-file-test.true c.loop-file.invariant
    (subst (λ (f : File). said f c.in_ok-verdict_of.field-0) c.file-item.is c.in_ok-verdict_of.ensures))
