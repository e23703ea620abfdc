use Rattle.std.proofs.Common.{sym, subst}
use Rattle.lsp_wire.specs.declared.types.Notice.{Notice}
use Rattle.lsp_session.specs.SessionOutput.{IsDone, told_running}
use Rattle.lsp_session.proofs.notices.told_running.Goals as goal

pub returns-in-Open-clause-goes : goal.returns-in-Open-clause-goes
returns-in-Open-clause-goes g c =
    let P : Notice → Type 0 = λ n. IsDone (told_running g.A.Answers.meaning (g.A.Answers.state c.args.answers.now) n) c.args.out.now c.opened.new.out (g.A.Answers.state c.opened.new.answers) c.opened.result in
    λ t. subst P (sym c.in-Open.is) c.opened.ensures.goes

pub returns-in-Change-clause-goes : goal.returns-in-Change-clause-goes
returns-in-Change-clause-goes g c =
    let P : Notice → Type 0 = λ n. IsDone (told_running g.A.Answers.meaning (g.A.Answers.state c.args.answers.now) n) c.args.out.now c.changed.new.out (g.A.Answers.state c.changed.new.answers) c.changed.result in
    λ t. subst P (sym c.in-Change.is) c.changed.ensures.goes
