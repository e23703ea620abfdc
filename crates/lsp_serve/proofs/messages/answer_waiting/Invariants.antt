use Rattle.std.proofs.Common.{◌≡◌, ℕ, false, List, [], length, Option}
use Rattle.lsp_answers.specs.States.{State}
use Rattle.lsp_serve.specs.InTime.{AppendsMore}
use Rattle.lsp_serve.specs.Walk.{HasAnswered}
use Rattle.lsp_serve.proofs.messages.answer_waiting.Given as goal

abbrev pub invariant-frames : goal.invariant-frames
invariant-frames g l = record {
  answered : (s : State) (read : List ℕ) (first : Option (List ℕ)) → HasAnswered g.A.Answers.meaning s read l.fn.framer l.fn.session.phase (g.A.Answers.state l.fn.session.answers) first (g.K.Sink.taken l.fn.output) → HasAnswered g.A.Answers.meaning s read l.framer l.session.phase (g.A.Answers.state l.session.answers) first (g.K.Sink.taken l.output);
  adds : AppendsMore (g.K.Sink.taken l.fn.output) (g.K.Sink.taken l.output) [];
  awake : l.session.spent ≡ false;
  folder : g.A.Answers.fault_count l.session.answers ≡ g.A.Answers.fault_count l.fn.session.answers;
  output : g.K.Sink.fault_count l.output ≡ g.K.Sink.fault_count l.fn.output;
}

abbrev pub decreases-frames : goal.decreases-frames
decreases-frames g l = length l.framer.waiting
