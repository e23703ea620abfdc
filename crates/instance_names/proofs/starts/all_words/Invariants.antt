use Rattle.std.proofs.Common.{◌≡◌, ◌++◌, drop}
use Rattle.std.specs.Prelude.{map}
use Rattle.unit_grammar.specs.UnitNodes.{unit_at}
use Rattle.instance_names.proofs.Collecting.{words_from}
use Rattle.instance_names.proofs.starts.all_words.Given as goal

abbrev pub invariant-loop-unit : goal.invariant-loop-unit
invariant-loop-unit l = l.starts.items ++ words_from (map (unit_at l.tree.tree) (drop l.unit-index l.tree.units)) ≡ words_from (map (unit_at l.tree.tree) l.tree.units)
