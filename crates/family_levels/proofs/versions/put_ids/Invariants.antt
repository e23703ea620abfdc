use Rattle.std.proofs.Common.{take}
use Rattle.family_levels.specs.Again.{HasIdsOf, HasMoreIds}
use Rattle.family_levels.proofs.versions.put_ids.Given as goal

abbrev pub invariant-loop-index : goal.invariant-loop-index
invariant-loop-index l = record {
  kept : HasMoreIds l.ids.keys l.initial.ids.keys;
  put : HasIdsOf (take l.index l.needs) l.ids.keys;
}
