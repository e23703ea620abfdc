use Rattle.lsp_serve.proofs.Inputs.{nothing_serves, nothing_in_time}
use Rattle.lsp_serve.proofs.pieces.serve_session.Goals as goal

pub returns-in-Err-clause-answers : goal.returns-in-Err-clause-answers
returns-in-Err-clause-answers g c =
    nothing_serves g.A.Answers.meaning (g.A.Answers.state c.args.session.now.answers) (g.S.Source.left c.args.input.now) (g.K.Sink.taken c.args.output.now)

pub returns-in-Err-clause-in_time : goal.returns-in-Err-clause-in_time
returns-in-Err-clause-in_time g c =
    nothing_in_time g.A.Answers.meaning (g.A.Answers.state c.args.session.now.answers) (g.S.Source.left c.args.input.now) (g.K.Sink.taken c.args.output.now) (g.S.Source.last c.args.input.now)
