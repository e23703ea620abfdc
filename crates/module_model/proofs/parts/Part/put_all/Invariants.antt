use Rattle.std.proofs.Common.{drop}
use Rattle.module_model.specs.Parts.{in_text}
use Rattle.module_model.proofs.PartTables.{IsUniting}
use Rattle.module_model.proofs.parts.Part.put_all.Given as goal

abbrev pub invariant-loop-index : goal.invariant-loop-index
invariant-loop-index l = IsUniting l.self l.initial.self (in_text (drop l.index l.other-inside.instances.entries)) l.other
