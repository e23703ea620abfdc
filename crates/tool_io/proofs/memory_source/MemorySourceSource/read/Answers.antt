use Rattle.std.proofs.Common.{◌-◌, List, ℕ, length, take, drop, ap, ◌∙◌}
use Rattle.std.proofs.lemmas.List.{take_rest}
use Rattle.tool_io.proofs.ReadLemmas.{read_by}
use Rattle.tool_io.proofs.memory_source.MemorySourceSource.read.Goals as goal

pub returns-clause-bytes : goal.returns-clause-bytes
returns-clause-bytes c =
    let xs = c.args.self.now.bytes in
    let at = c.args.self.now.at in
    let ys = c.as_slice.result.now in
    read_by xs (take (length ys - at) (drop at ys)) c.give-count.new.buf at c.give-count.result c.most-most.result (ap (λ (l : List ℕ). take (length l - at) (drop at l)) c.as_slice.ensures ∙ take_rest xs at) c.most-most.ensures.some c.give-count.ensures.count c.give-count.ensures.front
