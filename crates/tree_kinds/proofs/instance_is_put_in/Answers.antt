use Rattle.std.specs.Prelude.{map}
use Rattle.kind_text.proofs.Unfolding.{kind-guard}
use Rattle.tree_kinds.specs.Expanding.{guard_of, module_of, put_into}
use Rattle.tree_kinds.proofs.instance_is_put_in.Goals as goal

pub returns : goal.returns
returns c text known named around l rs path = kind-guard (map (guard_of (module_of text known named l).is_constant) rs) (put_into text known named around l rs path)
