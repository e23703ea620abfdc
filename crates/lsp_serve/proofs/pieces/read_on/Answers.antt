use Rattle.std.proofs.Common.{◌≡◌, ◌<◌, ◌++◌, [], length, take, refl, sym, subst, ◌∙◌, length-append, arith}
use Rattle.std.proofs.KnownBytes.{Consumes-nil}
use Rattle.lsp_serve.specs.declared.ends.End.{End}
use Rattle.lsp_serve.specs.Ends.{status_of}
use Rattle.lsp_serve.proofs.Ended.{Closing, closes}
use Rattle.lsp_serve.proofs.Inputs.{starts, end_serves, end_in_time, fault_serves, fault_in_time, over_serves, over_in_time, taken_serves_input, taken_in_time, end_read, gave_as, piece_long, read_more, plain_end, some_count, part_short}
use Rattle.lsp_serve.proofs.pieces.read_on.Goals as goal

pub pieces-init : goal.pieces-init
pieces-init g c =
    let start = starts g.A.Answers.meaning (g.A.Answers.state c.args.session.now.answers) (g.S.Source.left c.args.input.now) (g.K.Sink.taken c.args.output.now) c.new-framer.result c.args.session.now.phase c.new-framer.ensures c.requires.fresh in
    record {
      read = ([], Consumes-nil (g.S.Source.left c.args.input.now), refl, start.0);
      part = start.1;
      within = omega arith;
      awake = c.requires.awake;
      folder = refl;
      input = refl;
      output = refl;
    }

pub returns-in-Ok-eq0-clause-answers : goal.returns-in-Ok-eq0-clause-answers
returns-in-Ok-eq0-clause-answers g c =
    let zero : c.in-Ok-eq0.field-0 ≡ 0 = omega (arith, c.in-Ok-eq0.field-0-test) in
    let bytes = end_read c.in-Ok-eq0.field-0 (g.S.Source.left c.pieces.input) (g.S.Source.left c.read_piece.new.input) c.read_piece.new.buffer zero (omega arith) c.in-Ok-eq0.ensures.bytes in
    let P : End → Type 0 = λ e. Closing c.pieces.framer.waiting c.pieces.session.phase (status_of e) in
    let closing = subst P (sym c.end_of_input.ensures) (closes c.pieces.framer.waiting c.shut.result c.inside.result c.pieces.session.phase c.pieces.invariant.part c.shut.ensures c.inside.ensures) in
    end_serves g.A.Answers.meaning (g.A.Answers.state c.args.session.now.answers) (g.S.Source.left c.args.input.now) (g.S.Source.left c.pieces.input) c.pieces.invariant.read.0 c.pieces.framer c.pieces.session.phase (g.A.Answers.state c.pieces.session.answers) (g.K.Sink.taken c.args.output.now) (g.K.Sink.taken c.pieces.output) c.pieces.invariant.read.1 c.pieces.invariant.read.3 (omega (arith, c.pieces.invariant.read.2))
    (g.S.Source.left c.read_piece.new.input) (status_of c.end_of_input.result) bytes.0 bytes.1 closing

pub returns-in-Ok-eq0-clause-in_time : goal.returns-in-Ok-eq0-clause-in_time
returns-in-Ok-eq0-clause-in_time g c =
    let zero : c.in-Ok-eq0.field-0 ≡ 0 = omega (arith, c.in-Ok-eq0.field-0-test) in
    let bytes = end_read c.in-Ok-eq0.field-0 (g.S.Source.left c.pieces.input) (g.S.Source.left c.read_piece.new.input) c.read_piece.new.buffer zero (omega arith) c.in-Ok-eq0.ensures.bytes in
    let P : End → Type 0 = λ e. status_of e < 3 in
    end_in_time g.A.Answers.meaning (g.A.Answers.state c.args.session.now.answers) (g.S.Source.left c.args.input.now) (g.S.Source.left c.pieces.input) c.pieces.invariant.read.0 c.pieces.framer c.pieces.session.phase (g.A.Answers.state c.pieces.session.answers) (g.K.Sink.taken c.args.output.now) (g.K.Sink.taken c.pieces.output) c.pieces.invariant.read.1 c.pieces.invariant.read.3 (omega (arith, c.pieces.invariant.read.2)) c.pieces.invariant.part
    (g.S.Source.left c.read_piece.new.input) (status_of c.end_of_input.result) (g.S.Source.last c.read_piece.new.input) bytes.0 (gave_as (g.S.Source.left c.read_piece.new.input) (g.S.Source.last c.read_piece.new.input) c.in-Ok-eq0.field-0 0 zero c.in-Ok-eq0.ensures.gave) (subst P (sym c.end_of_input.ensures) (plain_end c.shut.result c.inside.result))

pub returns-in-Err-clause-answers : goal.returns-in-Err-clause-answers
returns-in-Err-clause-answers g c =
    fault_serves g.A.Answers.meaning (g.A.Answers.state c.args.session.now.answers) (g.S.Source.left c.args.input.now) (g.S.Source.left c.pieces.input) c.pieces.invariant.read.0 c.pieces.framer c.pieces.session.phase (g.A.Answers.state c.pieces.session.answers) (g.K.Sink.taken c.args.output.now) (g.K.Sink.taken c.pieces.output) c.pieces.invariant.read.1 c.pieces.invariant.read.3 (omega (arith, c.pieces.invariant.read.2))
    (g.S.Source.left c.read_piece.new.input) c.in-Err.ensures.bytes

pub returns-in-Err-clause-in_time : goal.returns-in-Err-clause-in_time
returns-in-Err-clause-in_time g c =
    fault_in_time g.A.Answers.meaning (g.A.Answers.state c.args.session.now.answers) (g.S.Source.left c.args.input.now) (g.S.Source.left c.pieces.input) c.pieces.invariant.read.0 c.pieces.framer c.pieces.session.phase (g.A.Answers.state c.pieces.session.answers) (g.K.Sink.taken c.args.output.now) (g.K.Sink.taken c.pieces.output) c.pieces.invariant.read.1 c.pieces.invariant.read.3 (omega (arith, c.pieces.invariant.read.2)) c.pieces.invariant.part
    (g.S.Source.left c.read_piece.new.input) (g.S.Source.last c.read_piece.new.input) c.in-Err.ensures.bytes c.in-Err.ensures.gave

pub returns-then-read-eq-MOST_INPUT-clause-answers :
    goal.returns-then-read-eq-MOST_INPUT-clause-answers
returns-then-read-eq-MOST_INPUT-clause-answers g c =
    let piece = take c.in-Ok.count c.read_piece.new.buffer in
    let long : c.in-Ok.count ≡ length piece = piece_long c.in-Ok.count c.read_piece.new.buffer (omega (arith, c.in-Ok.ensures.bound)) in
    let some = some_count c.in-Ok.count c.in-Ok.count-test.1 in
    over_serves g.A.Answers.meaning (g.A.Answers.state c.args.session.now.answers) (g.S.Source.left c.args.input.now) (g.S.Source.left c.pieces.input) c.pieces.invariant.read.0 c.pieces.framer c.pieces.session.phase (g.A.Answers.state c.pieces.session.answers) (g.K.Sink.taken c.args.output.now) (g.K.Sink.taken c.pieces.output) c.pieces.invariant.read.1 c.pieces.invariant.read.3 (omega (arith, c.pieces.invariant.read.2))
    (g.S.Source.left c.read_piece.new.input) piece c.in-Ok.ensures.bytes.0 (omega (arith, long, some)) (omega (arith, c.pieces.invariant.read.2)) c.pieces.invariant.part

pub returns-then-read-eq-MOST_INPUT-clause-in_time :
    goal.returns-then-read-eq-MOST_INPUT-clause-in_time
returns-then-read-eq-MOST_INPUT-clause-in_time g c =
    let piece = take c.in-Ok.count c.read_piece.new.buffer in
    let long : c.in-Ok.count ≡ length piece = piece_long c.in-Ok.count c.read_piece.new.buffer (omega (arith, c.in-Ok.ensures.bound)) in
    over_in_time g.A.Answers.meaning (g.A.Answers.state c.args.session.now.answers) (g.S.Source.left c.args.input.now) (g.S.Source.left c.pieces.input) c.pieces.invariant.read.0 c.pieces.framer c.pieces.session.phase (g.A.Answers.state c.pieces.session.answers) (g.K.Sink.taken c.args.output.now) (g.K.Sink.taken c.pieces.output) c.pieces.invariant.read.1 c.pieces.invariant.read.3 (omega (arith, c.pieces.invariant.read.2)) c.pieces.invariant.part
    (g.S.Source.left c.read_piece.new.input) piece (g.S.Source.last c.read_piece.new.input) c.in-Ok.ensures.bytes.0 (gave_as (g.S.Source.left c.read_piece.new.input) (g.S.Source.last c.read_piece.new.input) c.in-Ok.count (length piece) long c.in-Ok.ensures.gave)

pub take_piece-requires-clause-waiting : goal.take_piece-requires-clause-waiting
take_piece-requires-clause-waiting g c =
    let piece = take c.in-Ok.count c.read_piece.new.buffer in
    let long : c.in-Ok.count ≡ length piece = piece_long c.in-Ok.count c.read_piece.new.buffer (omega (arith, c.in-Ok.ensures.bound)) in
    omega (arith, long, c.in-Ok.ensures.bound, part_short c.pieces.framer.waiting c.pieces.invariant.part)

pub returns-in-Some-clause-answers : goal.returns-in-Some-clause-answers
returns-in-Some-clause-answers g c =
    let piece = take c.in-Ok.count c.read_piece.new.buffer in
    let long : c.in-Ok.count ≡ length piece = piece_long c.in-Ok.count c.read_piece.new.buffer (omega (arith, c.in-Ok.ensures.bound)) in
    taken_serves_input g.A.Answers.meaning (g.A.Answers.state c.args.session.now.answers) (g.S.Source.left c.args.input.now) (g.S.Source.left c.pieces.input) c.pieces.invariant.read.0 c.pieces.framer c.pieces.session.phase (g.A.Answers.state c.pieces.session.answers) (g.K.Sink.taken c.args.output.now) (g.K.Sink.taken c.pieces.output) c.pieces.invariant.read.1 c.pieces.invariant.read.3 (omega (arith, c.pieces.invariant.read.2))
    (g.S.Source.left c.read_piece.new.input) piece c.take_piece.new.framer c.take_piece.new.session.phase (g.A.Answers.state c.take_piece.new.session.answers) (g.K.Sink.taken c.take_piece.new.output) c.in-Some.end c.in-Ok.ensures.bytes.0 (omega (arith, long, c.pieces.invariant.read.2, length-append c.pieces.invariant.read.0 piece, c.room_after-room.ensures.most, c.in-Ok.ensures.bound)) (c.in-Some.ensures.takes (g.A.Answers.state c.args.session.now.answers) c.pieces.invariant.read.0 (g.K.Sink.taken c.args.output.now) c.pieces.invariant.read.3)

pub returns-in-Some-clause-in_time : goal.returns-in-Some-clause-in_time
returns-in-Some-clause-in_time g c =
    let piece = take c.in-Ok.count c.read_piece.new.buffer in
    let long : c.in-Ok.count ≡ length piece = piece_long c.in-Ok.count c.read_piece.new.buffer (omega (arith, c.in-Ok.ensures.bound)) in
    taken_in_time g.A.Answers.meaning (g.A.Answers.state c.args.session.now.answers) (g.S.Source.left c.args.input.now) (g.S.Source.left c.pieces.input) c.pieces.invariant.read.0 c.pieces.framer c.pieces.session.phase (g.A.Answers.state c.pieces.session.answers) (g.K.Sink.taken c.args.output.now) (g.K.Sink.taken c.pieces.output) c.pieces.invariant.read.1 c.pieces.invariant.read.3 (omega (arith, c.pieces.invariant.read.2)) c.pieces.invariant.part
    (g.S.Source.left c.read_piece.new.input) piece (g.S.Source.last c.read_piece.new.input) c.take_piece.new.framer c.take_piece.new.session.phase (g.A.Answers.state c.take_piece.new.session.answers) (g.K.Sink.taken c.take_piece.new.output) c.in-Some.end c.in-Ok.ensures.bytes.0 (gave_as (g.S.Source.left c.read_piece.new.input) (g.S.Source.last c.read_piece.new.input) c.in-Ok.count (length piece) long c.in-Ok.ensures.gave) c.in-Some.ensures.adds (omega (arith, long, c.pieces.invariant.read.2, length-append c.pieces.invariant.read.0 piece, c.room_after-room.ensures.most, c.in-Ok.ensures.bound)) c.in-Some.ensures.ends (c.in-Some.ensures.takes (g.A.Answers.state c.args.session.now.answers) c.pieces.invariant.read.0 (g.K.Sink.taken c.args.output.now) c.pieces.invariant.read.3)

pub pieces-preserved : goal.pieces-preserved
pieces-preserved g c =
    let piece = take c.in-Ok.count c.read_piece.new.buffer in
    let long : c.in-Ok.count ≡ length piece = piece_long c.in-Ok.count c.read_piece.new.buffer (omega (arith, c.in-Ok.ensures.bound)) in
    let front = c.pieces.invariant.read.0 in
    let taken = c.in-None.ensures.takes (g.A.Answers.state c.args.session.now.answers) c.pieces.invariant.read.0 (g.K.Sink.taken c.args.output.now) c.pieces.invariant.read.3 in
    record {
      read = (front ++ piece, read_more (g.S.Source.left c.args.input.now) (g.S.Source.left c.pieces.input) (g.S.Source.left c.read_piece.new.input) front piece c.pieces.invariant.read.1 c.in-Ok.ensures.bytes.0, omega (arith, long, c.pieces.invariant.read.2, length-append front piece), taken.0);
      part = taken.1;
      within = omega (arith, c.room_after-room.ensures.most, c.in-Ok.ensures.bound);
      awake = c.in-None.ensures.goes_on;
      folder = c.in-None.ensures.folder_fault ∙ c.pieces.invariant.folder;
      input = c.in-Ok.ensures.cause ∙ c.pieces.invariant.input;
      output = c.in-None.ensures.output_fault ∙ c.pieces.invariant.output;
    }
