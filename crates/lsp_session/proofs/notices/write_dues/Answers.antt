use Rattle.std.proofs.Common.{◌∙◌, Result, Ok, Err}
use Rattle.std.specs.Result.{OnErr}
use Rattle.list_laws.proofs.Options.{holds-on-err}
use Rattle.lsp_session.proofs.Frames.{frames_cut, frames_pushed}
use Rattle.lsp_session.proofs.notices.write_dues.Goals as goal

pub dues-preserved : goal.dues-preserved
dues-preserved c =
    frames_pushed c.args.out.now c.dues.out c.write_notes.new.out c.args.dues.now c.dues.due-index c.due-item.result c.dues-test.true c.due-item.is c.dues.invariant c.in_ok-write_notes.ensures.ok

pub returns-in_err-write_notes-clause-err : goal.returns-in_err-write_notes-clause-err
returns-in_err-write_notes-clause-err c =
    holds-on-err c.from_residual.result (frames_cut c.args.out.now c.write_notes.new.out c.args.dues.now c.dues.due-index (c.in_err-write_notes.ensures.err ∙ c.dues.invariant))
