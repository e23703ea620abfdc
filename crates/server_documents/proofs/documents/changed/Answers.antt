use Rattle.std.proofs.Common.{subst, sym, ◌<◌, ℕ, List, length}
use Rattle.server_documents.proofs.documents.changed.Goals as goal

pub from_utf8-requires-clause-short : goal.from_utf8-requires-clause-short
from_utf8-requires-clause-short c = subst (λ (t : List ℕ). length t < 2147483648) (sym c.bytes.ensures.value) c.requires
