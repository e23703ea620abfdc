use Rattle.family_tables.specs.Modules.{Entry}
use Rattle.fact_lines.proofs.Growing.{entry-read, row-fresh, row-more}
use Rattle.fact_lines.proofs.places.declared_places.Goals as goal

pub places_of_module-requires : goal.places_of_module-requires
places_of_module-requires c =
    let entry : Entry = (c.at.result.0.now, c.at.result.1.now) in
    (entry.0, entry-read c.args.modules.now c.loop-index.index entry c.at.ensures c.requires.read)

pub add-requires : goal.add-requires
add-requires c =
    let entry : Entry = (c.at.result.0.now, c.at.result.1.now) in
    row-fresh c.args.modules.now c.loop-index.index entry c.at.ensures c.loop-index.places c.loop-index.invariant c.requires.once

pub loop-index-preserved : goal.loop-index-preserved
loop-index-preserved c =
    let entry : Entry = (c.at.result.0.now, c.at.result.1.now) in
    row-more c.args.modules.now c.loop-index.index entry c.at.ensures c.loop-index.places c.loop-index.invariant c.add.new.self c.in_ok-places_of_module.field-0 c.in_ok-places_of_module.ensures c.in_ok-add.ensures
