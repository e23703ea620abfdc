use Rattle.std.proofs.Common.{◌≡◌}
use Rattle.family_facts.specs.Verdicts.{after_checks, checks_of}
use Rattle.sany_files.proofs.CallLemmas.{part-whole}
use Rattle.sany_run.specs.Program.{outcome_of_files}
use Rattle.sany_run.proofs.FolderLemmas.{of_folder}
use Rattle.sany_run.proofs.check.outcome_of_folder.Goals as goal

pub returns-in-Ok-clause-outcome : goal.returns-in-Ok-clause-outcome
returns-in-Ok-clause-outcome g c =
    of_folder (λ files. c.in-Ok.outcome ≡ outcome_of_files c.args.facts files) (g.F.Folder.told c.args.folder.now) c.args.path.now c.in-Some.files
    (rw c.in-Some.is at c.in_ok-files.ensures.files) (rw c.as_slice.ensures at c.in-Ok.ensures.outcome)

pub returns-in-Ok-clause-ticks : goal.returns-in-Ok-clause-ticks
returns-in-Ok-clause-ticks g c =
    of_folder (λ files. c.outcome_of_files.new.steps ≡ after_checks (checks_of files) c.args.steps.now) (g.F.Folder.told c.args.folder.now) c.args.path.now c.in-Some.files
    (rw c.in-Some.is at c.in_ok-files.ensures.files) (rw c.as_slice.ensures at c.in-Ok.ensures.ticks)

pub returns-clause-part : goal.returns-clause-part
returns-clause-part g c = part-whole (g.F.Folder.told c.args.folder.now) (g.F.Folder.told c.files_of_folder.new.folder) c.args.path.now c.in_ok-files.ensures.told
