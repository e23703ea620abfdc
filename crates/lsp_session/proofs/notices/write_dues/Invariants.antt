use Rattle.std.proofs.Common.{◌≡◌, ◌++◌, take}
use Rattle.lsp_session.specs.SessionOutput.{notice_frames}
use Rattle.lsp_session.proofs.notices.write_dues.Given as goal

abbrev pub invariant-dues : goal.invariant-dues
invariant-dues l = l.out ≡ l.fn.out ++ notice_frames (take l.due-index l.dues)
