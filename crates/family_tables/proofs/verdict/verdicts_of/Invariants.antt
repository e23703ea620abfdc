use Rattle.std.proofs.Common.{take}
use Rattle.std.specs.List.{AllZip}
use Rattle.family_tables.specs.Outcomes.{IsSaid}
use Rattle.family_tables.proofs.verdict.verdicts_of.Given as goal

abbrev pub invariant-loop-file : goal.invariant-loop-file
invariant-loop-file l = AllZip (IsSaid l.outcomes) (take l.file-index l.files) l.verdicts
