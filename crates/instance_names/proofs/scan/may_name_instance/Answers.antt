use Rattle.std.proofs.Common.{◌∙◌, sym}
use Rattle.unit_grammar.specs.UnitNodes.{unit_at}
use Rattle.module_model.specs.Instances.{named_instance, unit_trees}
use Rattle.instance_names.proofs.Collecting.{all-named-collected, unit-none}
use Rattle.instance_names.proofs.scan.may_name_instance.Goals as goal

pub returns : goal.returns
returns c = λ none u there.
    sym (all-named-collected (unit_trees (unit_at c.args.tree.now u))) ∙ unit-none named_instance c.args.tree.now u (c.may_hold_definition.ensures none) there
