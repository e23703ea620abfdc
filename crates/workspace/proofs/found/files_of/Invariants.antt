use Rattle.std.proofs.Common.{◌≡◌, take}
use Rattle.server_texts.specs.Notes as in_notes
use Rattle.workspace.proofs.found.files_of.Given as goal

abbrev pub invariant-loop-text : goal.invariant-loop-text
invariant-loop-text l = l.files ≡ in_notes.files_of (take l.text-index l.texts)
