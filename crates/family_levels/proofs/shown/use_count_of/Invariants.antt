use Rattle.std.proofs.Common.{◌≡◌, length, sum_by, take}
use Rattle.family_levels.specs.Findings.{shown_in}
use Rattle.family_levels.proofs.shown.use_count_of.Given as goal

abbrev pub invariant-loop-file : goal.invariant-loop-file
invariant-loop-file l = l.total ≡ sum_by (λ file. length (shown_in l.found file.name)) (take l.file-index l.files)
