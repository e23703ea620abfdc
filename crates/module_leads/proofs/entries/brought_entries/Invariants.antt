use Rattle.std.proofs.Common.{◌≡◌, ◌++◌, drop}
use Rattle.std.specs.Option.{option_copied}
use Rattle.name_exports.specs.Brought.{behind_through}
use Rattle.tree_names.specs.Parameters.{entries_in}
use Rattle.module_leads.proofs.entries.brought_entries.Given as goal

abbrev pub invariant-loop-entry : goal.invariant-loop-entry
invariant-loop-entry l =
    entries_in l.brought ++ behind_through (option_copied l.unit) (entries_in (drop l.entry-index l.entries)) ≡ behind_through (option_copied l.unit) (entries_in l.entries)
