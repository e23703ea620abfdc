use Rattle.std.proofs.Common.{◌≡◌, take}
use Rattle.file_names.specs.Files.{modules_of_listing}
use Rattle.file_names.proofs.names.modules_of.Given as goal

abbrev pub invariant-loop-name : goal.invariant-loop-name
invariant-loop-name l = l.found ≡ modules_of_listing (take l.name-index l.names)
