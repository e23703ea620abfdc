use Rattle.std.proofs.Common.{inr, arith, ◌≤◌, ◌+◌, length}
use Rattle.rpc_frame.proofs.Fronts.{whole_from_said, too_long_found, content_lacking, frame_found, some_read}
use Rattle.rpc_frame.proofs.header.Progress.behind_header.Goals as goal

pub returns-then-said-gt-MOST_CONTENT : goal.returns-then-said-gt-MOST_CONTENT
returns-then-said-gt-MOST_CONTENT c =
    too_long_found c.args.bytes.now c.args.self.read c.args.said c.args.self.header c.requires.read (whole_from_said c.args.self.header c.args.said c.requires.says) (omega (arith, c.if-said-gt-MOST_CONTENT.true))

pub returns-then-bytes-self : goal.returns-then-bytes-self
returns-then-bytes-self c =
    inr
    (inr
    (content_lacking c.args.bytes.now c.args.self.read c.args.said c.args.self.header c.requires.read (whole_from_said c.args.self.header c.args.said c.requires.says) (omega (arith, c.if-said-gt-MOST_CONTENT.false)) (omega (arith, c.if-bytes-self.true, c.requires.read.0))))

pub returns : goal.returns
returns c =
    let within : c.args.self.read + c.args.said ≤ length c.args.bytes.now = omega (arith, c.if-bytes-self.false, c.requires.read.0) in
    (some_read c.args.bytes.now c.args.self c.args.said c.requires.read c.requires.says, within, frame_found c.args.bytes.now c.args.self.read c.args.said c.args.self.header c.requires.read (whole_from_said c.args.self.header c.args.said c.requires.says) (omega (arith, c.if-said-gt-MOST_CONTENT.false)) within)
