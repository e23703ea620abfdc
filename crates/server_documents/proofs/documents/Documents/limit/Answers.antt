use Rattle.std.proofs.Common.{arith}
use Rattle.server_documents.proofs.Limits.{few-bytes}
use Rattle.server_documents.proofs.documents.Documents.limit.Goals as goal

pub byte_count-bytes-requires : goal.byte_count-bytes-requires
byte_count-bytes-requires c =
    let few = few-bytes c.self.inside.texts.entries c.self.invariant.short in
    omega (arith, few, c.if-count-gt-MOST_MODULES.false, c.len-count.ensures.len)
