use Rattle.std.proofs.Common.{◌∙◌}
use Rattle.file_names.proofs.Listing.{modules-more}
use Rattle.file_names.proofs.names.modules_of.Goals as goal

pub loop-name-preserved : goal.loop-name-preserved
loop-name-preserved c =
    modules-more c.args.names.now c.loop-name.name-index c.name-item.result c.as_str.result.now c.loop-name.found c.add_module.new.found c.loop-name-test.true
    (c.as_str.ensures ∙ c.name-item.is) c.loop-name.invariant c.in_ok-add_module.ensures
