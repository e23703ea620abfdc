use Rattle.std.proofs.Common.{subst}
use Rattle.std.specs.Str.{IsUtf8}
use Rattle.doc_edit.specs.Edits.{offset_of}
use Rattle.server_locations.proofs.Placing.{nothing-named}
use Rattle.server_locations.proofs.replies.named_in_place.Goals as goal

pub returns-in_default : goal.returns-in_default
returns-in_default c =
    nothing-named c.args.module.now (offset_of c.args.module.now.bytes c.args.at) c.requires (subst (λ bytes. ¬ (IsUtf8 bytes)) c.bytes.ensures (rw c.in_default.is at c.in_ok-offset.ensures))
