use Rattle.std.proofs.Common.{◌∙◌, refl}
use Rattle.std.specs.Prelude.{map}
use Rattle.unit_grammar.specs.UnitNodes.{unit_at}
use Rattle.module_model.specs.Instances.{paths_in}
use Rattle.instance_names.proofs.Collecting.{no-paths, paths-next}
use Rattle.instance_names.proofs.starts.all_paths.Goals as goal

pub returns-then-not-may_hold_path : goal.returns-then-not-may_hold_path
returns-then-not-may_hold_path c = c.new-starts.ensures.items ∙ no-paths c.args.tree.now.tree c.args.tree.now.units (c.if-not-may_hold_path.ensures refl) c.requires

pub loop-unit-preserved : goal.loop-unit-preserved
loop-unit-preserved c =
    paths-next c.args.tree.now.tree c.args.tree.now.units c.as_slice-unit-items.result.now c.as_slice-unit-items.ensures c.loop-unit.unit-index c.unit-item.result c.loop-unit.starts.items c.push_paths.new.starts.items
    (paths_in (map (unit_at c.args.tree.now.tree) c.args.tree.now.units)) c.loop-unit-test.true c.unit-item.is c.in_ok-push_paths.ensures c.loop-unit.invariant
