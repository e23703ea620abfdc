use Rattle.std.proofs.Common.{◌≡◌, ℕ, ◌-◌, ◌≤◌, false, List, length}
use Rattle.std.specs.Io.KnownBytes.{Consumes}
use Rattle.lsp_serve.specs.Serving.{most_input}
use Rattle.lsp_serve.specs.Walk.{HasAnswered, IsPart}
use Rattle.lsp_serve.proofs.pieces.read_on.Given as goal

abbrev pub invariant-pieces : goal.invariant-pieces
invariant-pieces g l = record {
  read : (front : List ℕ) × Consumes (g.S.Source.left l.fn.input) (g.S.Source.left l.input) front × (l.read ≡ length front) × HasAnswered g.A.Answers.meaning (g.A.Answers.state l.fn.session.answers) front l.framer l.session.phase (g.A.Answers.state l.session.answers) (g.K.Sink.taken l.fn.output) (g.K.Sink.taken l.output);
  part : IsPart l.framer.waiting;
  within : l.read ≤ most_input;
  awake : l.session.spent ≡ false;
  folder : g.A.Answers.fault_count l.session.answers ≡ g.A.Answers.fault_count l.fn.session.answers;
  input : g.S.Source.fault_count l.input ≡ g.S.Source.fault_count l.fn.input;
  output : g.K.Sink.fault_count l.output ≡ g.K.Sink.fault_count l.fn.output;
}

abbrev pub decreases-pieces : goal.decreases-pieces
decreases-pieces g l = most_input - l.read
