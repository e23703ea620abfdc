use Rattle.std.proofs.Common.{◌≡◌, IsSome, drop}
use Rattle.lsp_answers.specs.States.{judged_reads}
use Rattle.server_documents.specs.Documents.{with_file}
use Rattle.server_folder.specs.Folders.{with_told}
use Rattle.server_folder.proofs.files.read_all.Given as goal

abbrev pub invariant-loop-name : goal.invariant-loop-name
invariant-loop-name g l = record {
  goes : IsSome (g.F.Folder.told l.fn.folder) → judged_reads with_file (with_told l.documents (g.F.Folder.told l.folder)) (drop l.name-index l.names) ≡ judged_reads with_file (with_told l.fn.documents (g.F.Folder.told l.fn.folder)) l.names;
  tells : IsSome (g.F.Folder.told l.fn.folder) → IsSome (g.F.Folder.told l.folder);
  count : g.F.Folder.fault_count l.folder ≡ g.F.Folder.fault_count l.fn.folder;
}
