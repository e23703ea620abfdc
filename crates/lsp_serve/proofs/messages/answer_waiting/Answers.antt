use Rattle.std.proofs.Common.{inl, inr, ◌∙◌}
use Rattle.lsp_serve.proofs.Waiting.{adds_both, answered_more, ended_at, behind_bad}
use Rattle.lsp_serve.proofs.messages.answer_waiting.Goals as goal

pub returns-in-Some-clause-takes : goal.returns-in-Some-clause-takes
returns-in-Some-clause-takes g c = λ s read first h.
    inl
    (ended_at g.A.Answers.meaning s read c.frames.framer c.next.new.self c.frames.session.phase c.answer.new.session.phase (g.A.Answers.state c.frames.session.answers) (g.A.Answers.state c.answer.new.session.answers) first (g.K.Sink.taken c.frames.output) (g.K.Sink.taken c.answer.new.output) c.content.result.now
    c.in-Message.ensures c.content.ensures (c.frames.invariant.answered s read first h) c.in-Some.end c.in-Some.ensures.meets)

pub returns-in-Some-clause-adds : goal.returns-in-Some-clause-adds
returns-in-Some-clause-adds g c =
    adds_both (g.K.Sink.taken c.args.output.now) (g.K.Sink.taken c.frames.output) (g.K.Sink.taken c.answer.new.output) c.frames.invariant.adds c.answer.ensures.adds

pub frames-preserved : goal.frames-preserved
frames-preserved g c = record {
  answered = λ s read first h.
      answered_more g.A.Answers.meaning s read c.frames.framer c.next.new.self c.frames.session.phase c.answer.new.session.phase (g.A.Answers.state c.frames.session.answers) (g.A.Answers.state c.answer.new.session.answers) first (g.K.Sink.taken c.frames.output) (g.K.Sink.taken c.answer.new.output) c.content.result.now
      c.in-Message.ensures c.content.ensures (c.frames.invariant.answered s read first h) c.in_default.ensures.meets;
  adds = adds_both (g.K.Sink.taken c.args.output.now) (g.K.Sink.taken c.frames.output) (g.K.Sink.taken c.answer.new.output) c.frames.invariant.adds c.answer.ensures.adds;
  awake = c.in_default.ensures.goes_on;
  folder = c.in_default.ensures.folder_fault ∙ c.frames.invariant.folder;
  output = c.in_default.ensures.output_fault ∙ c.frames.invariant.output;
}

pub returns-in-BadHeader-clause-takes : goal.returns-in-BadHeader-clause-takes
returns-in-BadHeader-clause-takes g c = λ s read first h.
    inr
    (inl
    (behind_bad g.A.Answers.meaning s read c.frames.framer c.frames.session.phase (g.A.Answers.state c.frames.session.answers) first (g.K.Sink.taken c.frames.output) c.next.new.self c.in-BadHeader.at c.in-BadHeader.ensures (c.frames.invariant.answered s read first h)))
