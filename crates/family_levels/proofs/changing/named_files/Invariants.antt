use Rattle.std.proofs.Common.{◌≡◌, filter, take}
use Rattle.family_facts.specs.declared.verdict.File.{File}
use Rattle.family_tables.specs.Tables.{has_name}
use Rattle.family_levels.proofs.changing.named_files.Given as goal

abbrev pub invariant-loop-file : goal.invariant-loop-file
invariant-loop-file l = l.part ≡ filter (λ (file : File). has_name l.names file.name) (take l.file-index l.files)
