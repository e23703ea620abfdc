use Rattle.lsp_serve.proofs.OneMessage.{written_met, written_ends, fault_met, unspent}
use Rattle.lsp_serve.proofs.messages.answer.Goals as goal

pub returns-in-Ok-clause-meets : goal.returns-in-Ok-clause-meets
returns-in-Ok-clause-meets g c = λ tells.
    written_met g.A.Answers.meaning c.args.session.now.phase (g.A.Answers.state c.args.session.now.answers) c.args.content.now c.in-Ok.turn c.new-out.result c.message.new.out c.as_slice.result.now c.message.new.self.phase (g.A.Answers.state c.message.new.self.answers) (g.K.Sink.taken c.args.output.now) (g.K.Sink.taken c.write_answer.new.output) c.write_answer.result
    c.new-out.ensures (c.in-Ok.ensures.goes c.requires) (c.in-Ok.ensures.turn c.requires) c.as_slice.ensures c.write_answer.ensures.written tells

pub returns-in-Ok-clause-ends : goal.returns-in-Ok-clause-ends
returns-in-Ok-clause-ends g c =
    written_ends g.A.Answers.meaning c.args.session.now.phase (g.A.Answers.state c.args.session.now.answers) c.args.content.now c.as_slice.result.now c.in-Ok.turn c.message.new.self.phase (g.K.Sink.taken c.args.output.now) (g.K.Sink.taken c.write_answer.new.output) c.write_answer.result (c.in-Ok.ensures.turn c.requires) c.write_answer.ensures.written

pub returns-clause-meets : goal.returns-clause-meets
returns-clause-meets g c = λ tells.
    fault_met g.A.Answers.meaning c.args.session.now.phase (g.A.Answers.state c.args.session.now.answers) c.args.content.now c.in-Err.fault c.new-out.result c.message.new.out c.message.new.self.phase (g.A.Answers.state c.message.new.self.answers) (g.K.Sink.taken c.args.output.now) c.end_of_fault.result
    (c.in-Err.ensures.goes c.requires) (unspent _ _ c.in-Err.fault (c.in-Err.ensures.cause c.requires)) c.end_of_fault.ensures tells
