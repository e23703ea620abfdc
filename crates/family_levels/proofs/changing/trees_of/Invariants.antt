use Rattle.std.proofs.Common.{take}
use Rattle.family_tables.specs.Keeping.{AreRead}
use Rattle.family_tables.specs.Tables.{names_in}
use Rattle.family_levels.proofs.Trees.{AreNamesOf}
use Rattle.family_levels.proofs.changing.trees_of.Given as goal

abbrev pub invariant-loop-index : goal.invariant-loop-index
invariant-loop-index l = record {
  read : AreRead l.trees;
  named : AreNamesOf (take l.index (names_in l.modules)) l.trees;
}
