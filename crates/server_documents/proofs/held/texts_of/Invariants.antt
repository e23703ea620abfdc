use Rattle.std.proofs.Common.{◌≡◌, ◌++◌, map}
use Rattle.server_documents.specs.Held.{text_as}
use Rattle.server_documents.proofs.held.texts_of.Given as goal

abbrev pub invariant-loop-name : goal.invariant-loop-name
invariant-loop-name l = l.found ++ map text_as l.name-iterator ≡ map text_as l.fn.texts.entries
