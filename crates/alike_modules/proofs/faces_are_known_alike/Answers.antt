use Rattle.alike_modules.proofs.Faces.{known-alike}
use Rattle.alike_modules.proofs.faces_are_known_alike.Goals as goal

pub returns : goal.returns
returns c then declares flat before knowledge face other was file first is same = known-alike then declares flat before knowledge face other was file (c.trees_tell_expansions.ensures flat) (c.trees_tell_depths.ensures flat) first is same
