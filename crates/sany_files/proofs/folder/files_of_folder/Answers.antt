use Rattle.std.proofs.Common.{length, ap, arith, sym, subst, ◌∙◌}
use Rattle.name_graph.specs.Family.{AreOnce}
use Rattle.file_names.specs.Files.{modules_of_listing}
use Rattle.sany_files.proofs.CallLemmas.{on-err-map, part-few}
use Rattle.sany_files.proofs.NamedLemmas.{modules-distinct}
use Rattle.sany_files.proofs.folder.files_of_folder.Goals as goal

pub read_files-requires : goal.read_files-requires
read_files-requires g c =
    subst AreOnce (sym (c.as_slice-2.ensures ∙ (c.in-Ok.ensures ∙ ap modules_of_listing c.as_slice.ensures)))
    (modules-distinct c.in_ok-listed.listed c.in_ok-listed.ensures.order)

pub returns-clause-part : goal.returns-clause-part
returns-clause-part g c =
    let names = ap (λ ns. length ns) c.as_slice-2.ensures in
    on-err-map c.read_files.result _ _
    (part-few (g.F.Folder.told c.args.folder.now) (g.F.Folder.told c.names.new.self) (g.F.Folder.told c.read_files.new.folder) c.args.path.now c.in_ok-listed.listed c.as_slice-2.result.now
    c.in_ok-listed.ensures.goes c.in_ok-listed.ensures.names (c.as_slice-2.ensures ∙ (c.in-Ok.ensures ∙ ap modules_of_listing c.as_slice.ensures))
    (omega (arith, names, c.len.ensures, c.if-len-gt-MOST_MODULES.false)))
    c.read_files.ensures.part
