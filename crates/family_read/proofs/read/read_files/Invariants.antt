use Rattle.std.proofs.Common.{take, map}
use Rattle.family_facts.specs.Verdicts.{member_of}
use Rattle.family_tables.specs.Modules.{AreModules}
use Rattle.family_read.proofs.read.read_files.Given as goal

abbrev pub invariant-loop-file : goal.invariant-loop-file
invariant-loop-file l = AreModules (map member_of (take l.file-index l.files)) l.modules
