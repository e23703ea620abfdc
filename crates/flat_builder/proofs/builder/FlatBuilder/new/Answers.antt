use Rattle.kind_table.specs.declared.flat.FlatModule.{FlatModule}
use Rattle.flat_builder.proofs.Growing.{built-empty, flat-empty}
use Rattle.flat_builder.proofs.builder.FlatBuilder.new.Goals as goal

pub invariant_of-result : goal.invariant_of-result
invariant_of-result c =
    let t : FlatModule = record { nodes = c.new.result; definitions = c.new-2.result; instances = c.new-3.result; paths = c.new-4.result } in
    built-empty t c.new.ensures.items c.new-2.ensures.items c.new-3.ensures.items

pub returns : goal.returns
returns c =
    let t : FlatModule = record { nodes = c.new.result; definitions = c.new-2.result; instances = c.new-3.result; paths = c.new-4.result } in
    flat-empty t c.new.ensures.items c.new-2.ensures.items c.new-3.ensures.items
