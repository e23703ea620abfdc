use Rattle.std.proofs.Common.{refl}
use Rattle.sany_files.specs.Calls.{IsLeftAfter, calls_of_folder}
use Rattle.sany_files.proofs.CallLemmas.{part-whole}
use Rattle.sany_run.proofs.RunLemmas.{answers-folder, answers-limit, answers-nothing, on-told}
use Rattle.sany_run.proofs.program.status_of_check.Goals as goal

pub returns-in-Ok-None-clause-answers : goal.returns-in-Ok-None-clause-answers
returns-in-Ok-None-clause-answers g c = answers-limit c.args.path.now c.args.facts (g.F.Folder.told c.args.folder.now) (g.K.Sink.taken c.args.output.now) (rw c.in-Ok-None.field-0-is at c.in-Ok-None.ensures.limit)

pub returns-in-Err-Failed-clause-answers : goal.returns-in-Err-Failed-clause-answers
returns-in-Err-Failed-clause-answers g c = answers-nothing c.args.path.now c.args.facts (g.F.Folder.told c.args.folder.now) 3 (g.K.Sink.taken c.args.output.now) refl

pub returns-in-Err-Memory-clause-answers : goal.returns-in-Err-Memory-clause-answers
returns-in-Err-Memory-clause-answers g c = answers-nothing c.args.path.now c.args.facts (g.F.Folder.told c.args.folder.now) 6 (g.K.Sink.taken c.args.output.now) refl

pub returns-clause-answers : goal.returns-clause-answers
returns-clause-answers g c =
    answers-folder c.args.path.now c.args.facts (g.F.Folder.told c.args.folder.now) c.in-Ok-Some.outcome c.status_of_outcome.result (g.K.Sink.taken c.args.output.now) (g.K.Sink.taken c.status_of_outcome.new.output)
    (rw c.in-Ok-Some.field-0-is at c.in-Ok-Some.ensures.limit) (rw c.in-Ok-Some.field-0-is at c.in-Ok-Some.ensures.outcome) c.status_of_outcome.ensures.answers

pub returns-clause-part : goal.returns-clause-part
returns-clause-part g c =
    on-told (g.F.Folder.told c.args.folder.now) _ (λ t. IsLeftAfter 1 (calls_of_folder t c.args.path.now) t (g.F.Folder.told c.outcome_of_folder.new.folder))
    (part-whole (g.F.Folder.told c.args.folder.now) (g.F.Folder.told c.outcome_of_folder.new.folder) c.args.path.now c.in-Ok-Some.ensures.told)
