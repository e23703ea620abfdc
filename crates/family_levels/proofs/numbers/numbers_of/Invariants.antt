use Rattle.std.proofs.Common.{take}
use Rattle.indexmap.specs.IndexMap.{get_by_text}
use Rattle.module_model.specs.Imports.{import_of}
use Rattle.family_tables.specs.Tables.{entry_of}
use Rattle.family_levels.specs.Numbers.{number_by}
use Rattle.family_levels.proofs.Numbering.{AreNumbered}
use Rattle.family_levels.proofs.numbers.numbers_of.Given as goal

abbrev pub invariant-loop-need : goal.invariant-loop-need
invariant-loop-need l = AreNumbered (λ name. number_by (import_of l.imports name) (entry_of l.numbers name)) (take l.need-index l.needs) (get_by_text l.files)
