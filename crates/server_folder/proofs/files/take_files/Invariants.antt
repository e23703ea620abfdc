use Rattle.std.proofs.Common.{◌≡◌, IsSome, drop}
use Rattle.server_documents.specs.Documents.{after_files}
use Rattle.server_folder.specs.Folders.{with_told}
use Rattle.server_folder.proofs.files.take_files.Given as goal

abbrev pub invariant-loop-event : goal.invariant-loop-event
invariant-loop-event g l = record {
  goes : IsSome (g.F.Folder.told l.fn.folder) → after_files (with_told l.documents (g.F.Folder.told l.folder)) (drop l.event-index l.events) ≡ after_files (with_told l.fn.documents (g.F.Folder.told l.fn.folder)) l.events;
  tells : IsSome (g.F.Folder.told l.fn.folder) → IsSome (g.F.Folder.told l.folder);
  count : g.F.Folder.fault_count l.folder ≡ g.F.Folder.fault_count l.fn.folder;
}
