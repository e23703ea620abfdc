use Rattle.std.proofs.Common.{◌≡◌, ◌≤◌, take, IfSome}
use Rattle.std.specs.Option.{option_map}
use Rattle.family_facts.specs.Verdicts.{AreDistinct}
use Rattle.sany_files.specs.Calls.{after_calls}
use Rattle.sany_files.specs.Files.{byte_count, reads, MOST_BYTES}
use Rattle.sany_files.specs.Reading.{AreNamed}
use Rattle.sany_files.proofs.files.read_files.Given as goal

abbrev pub invariant-loop-name : goal.invariant-loop-name
invariant-loop-name g l = record {
  told : g.F.Folder.told l.folder ≡ option_map (λ t. after_calls l.name-index t) (g.F.Folder.told l.fn.folder);
  files : IfSome (g.F.Folder.told l.fn.folder) (λ t. l.files ≡ reads t l.path (take l.name-index l.names));
  named : AreNamed l.files l.names l.name-index;
  distinct : AreDistinct l.files;
  total : l.total ≡ byte_count l.files;
  small : l.total ≤ MOST_BYTES;
  count : g.F.Folder.fault_count l.folder ≡ g.F.Folder.fault_count l.fn.folder;
}
