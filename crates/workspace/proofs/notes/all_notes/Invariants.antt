use Rattle.std.proofs.Common.{◌≡◌, map, take}
use Rattle.server_texts.specs.Notes as in_notes
use Rattle.workspace.proofs.notes.all_notes.Given as goal

abbrev pub invariant-loop-name : goal.invariant-loop-name
invariant-loop-name l = l.notes ≡ map (in_notes.notes_of l.documents) (take l.name-index l.names)
