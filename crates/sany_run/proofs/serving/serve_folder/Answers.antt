use Rattle.std.proofs.Common.{◌≡◌, ap, subst}
use Rattle.lsp_answers.specs.States.{State}
use Rattle.lsp_serve.specs.Ends.{ServesInput}
use Rattle.lsp_serve.specs.InTime.{ReadsInTime}
use Rattle.server_folder.specs.Folders.{with_told}
use Rattle.server_texts.specs.Server.{server_meaning}
use Rattle.sany_run.specs.Serving.{started}
use Rattle.sany_run.proofs.ServeLemmas.{serves-folder, serves-in-time}
use Rattle.sany_run.proofs.serving.serve_folder.Goals as goal

pub returns-clause-answers : goal.returns-clause-answers
returns-clause-answers g c =
    let after : State = with_told c.serve-status.result.1.documents (g.F.Folder.told c.serve-status.result.1.folder) in
    let same : with_told c.new-workspace.result.documents (g.F.Folder.told c.new-workspace.result.folder) ≡ started (g.F.Folder.told c.args.folder) =
    λ i. with_told (c.new-workspace.ensures.documents i) (g.F.Folder.told (c.new-workspace.ensures.folder i)) in
    let answers = subst (λ (s : State). ServesInput server_meaning s (g.S.Source.left c.args.input.now) c.serve-status.result.0 after (g.K.Sink.taken c.args.output.now) (g.K.Sink.taken c.serve-status.new.output)) same c.serve-status.ensures.answers in
    serves-folder c.folder_goes_on_telling.ensures (g.F.Folder.told c.args.folder) (g.F.Folder.told c.into_folder.result) (g.S.Source.left c.args.input.now) c.serve-status.result.0 after (g.K.Sink.taken c.args.output.now) (g.K.Sink.taken c.serve-status.new.output)
    (ap g.F.Folder.told c.into_folder.ensures) answers

pub returns-clause-in_time : goal.returns-clause-in_time
returns-clause-in_time g c =
    let same : with_told c.new-workspace.result.documents (g.F.Folder.told c.new-workspace.result.folder) ≡ started (g.F.Folder.told c.args.folder) =
    λ i. with_told (c.new-workspace.ensures.documents i) (g.F.Folder.told (c.new-workspace.ensures.folder i)) in
    let in_time = subst (λ (s : State). ReadsInTime server_meaning s (g.S.Source.left c.args.input.now) (g.S.Source.left c.serve-status.new.input) (g.S.Source.last c.serve-status.new.input) c.serve-status.result.0 (g.K.Sink.taken c.args.output.now) (g.K.Sink.taken c.serve-status.new.output)) same c.serve-status.ensures.in_time in
    serves-in-time c.folder_goes_on_telling.ensures (g.F.Folder.told c.args.folder) (g.S.Source.left c.args.input.now) (g.S.Source.left c.serve-status.new.input) (g.S.Source.last c.serve-status.new.input) c.serve-status.result.0 (g.K.Sink.taken c.args.output.now) (g.K.Sink.taken c.serve-status.new.output) in_time
