use Rattle.std.proofs.Common.{drop}
use Rattle.module_model.specs.Parts.{by_text}
use Rattle.module_model.proofs.PartTables.{IsJoining}
use Rattle.module_model.proofs.parts.Parts.join.Given as goal

abbrev pub invariant-loop-index : goal.invariant-loop-index
invariant-loop-index l = IsJoining l.self l.initial.self (by_text (drop l.index l.other-inside.texts.entries)) l.other
