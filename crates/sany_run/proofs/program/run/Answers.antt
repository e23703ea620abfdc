use Rattle.std.proofs.Common.{refl}
use Rattle.sany_files.specs.Calls.{calls_made}
use Rattle.sany_words.specs.Texts.{texts}
use Rattle.sany_run.specs.Answers.{Answers}
use Rattle.sany_run.specs.Program.{program}
use Rattle.sany_run.proofs.RunLemmas.{left-alone, on_false, on_true, told-all, wrote-nothing}
use Rattle.sany_run.proofs.ServeLemmas.{serves-nothing}
use Rattle.sany_run.proofs.program.run.Goals as goal

-- there was no room to know what the words ask for

pub returns-in-Err-clause-answers : goal.returns-in-Err-clause-answers
returns-in-Err-clause-answers g c =
    let written = g.K.Sink.taken c.args.output.now in
    on_false _ _ (told-all (g.F.Folder.told c.args.folder) (λ t. Answers (program (texts c.args.words.now) t) 6 written written) (λ t. wrote-nothing (program (texts c.args.words.now) t) 6 written refl))

pub returns-in-Err-clause-server : goal.returns-in-Err-clause-server
returns-in-Err-clause-server g c = on_true _ _ (serves-nothing (g.F.Folder.told c.args.folder) (g.S.Source.left c.args.input.now) (g.K.Sink.taken c.args.output.now))

pub returns-in-Err-clause-in_time : goal.returns-in-Err-clause-in_time
returns-in-Err-clause-in_time g c = on_true _ _ tt

pub returns-in-Err-clause-some : goal.returns-in-Err-clause-some
returns-in-Err-clause-some g c = on_false _ _ tt

pub returns-in-Err-clause-status : goal.returns-in-Err-clause-status
returns-in-Err-clause-status g c = on_false _ _ refl

pub returns-in-Err-clause-server_status : goal.returns-in-Err-clause-server_status
returns-in-Err-clause-server_status g c = on_true _ _ refl

pub returns-in-Err-clause-usage : goal.returns-in-Err-clause-usage
returns-in-Err-clause-usage g c = on_false _ _ tt

pub returns-in-Err-clause-limit : goal.returns-in-Err-clause-limit
returns-in-Err-clause-limit g c = on_false _ _ (told-all (g.F.Folder.told c.args.folder) _ (λ t. tt))

pub returns-in-Err-clause-folder_after : goal.returns-in-Err-clause-folder_after
returns-in-Err-clause-folder_after g c = on_false _ _ tt

pub returns-in-Err-clause-folder_part : goal.returns-in-Err-clause-folder_part
returns-in-Err-clause-folder_part g c = on_false _ _ (left-alone (g.F.Folder.told c.args.folder) (calls_made (texts c.args.words.now)))

pub returns-in-Err-clause-silent : goal.returns-in-Err-clause-silent
returns-in-Err-clause-silent g c = on_false _ _ tt

pub returns-in-Err-clause-ticks : goal.returns-in-Err-clause-ticks
returns-in-Err-clause-ticks g c = on_false _ _ (told-all (g.F.Folder.told c.args.folder) _ (λ t. tt))

pub returns-in-Err-clause-input_after : goal.returns-in-Err-clause-input_after
returns-in-Err-clause-input_after g c = on_false _ _ refl
