use Rattle.std.proofs.Common.{◌++◌}
use Rattle.lsp_serve.proofs.Waiting.{answered_fed}
use Rattle.lsp_serve.proofs.messages.take_piece.Goals as goal

pub returns-in-Ok-clause-takes : goal.returns-in-Ok-clause-takes
returns-in-Ok-clause-takes g c = λ s read first h.
    c.answer_waiting.ensures.takes s (read ++ c.args.piece.now) first
    (answered_fed g.A.Answers.meaning s read c.args.framer.now c.args.session.now.phase (g.A.Answers.state c.args.session.now.answers) first (g.K.Sink.taken c.args.output.now) c.args.piece.now c.feed.new.self c.in-Ok.ensures.ok h)
