use Rattle.std.proofs.Common.{lit<}
use Rattle.lsp_answers.specs.States.{judged}
use Rattle.message_samples.specs.Silent.{silent_state, too_many}
use Rattle.message_samples.proofs.TooLong.{limit_is}
use Rattle.message_samples.proofs.sessions.silent.SilentAnswers.change.Goals as goal

pub returns-clause-goes : goal.returns-clause-goes
returns-clause-goes g c =
    limit_is (silent_state c.args.self.now.due) (judged (silent_state c.args.self.now.due)) too_many (lit< tt)
