use Rattle.lsp_wire.specs.Params.{change_of}
use Rattle.lsp_wire.proofs.Items.{GoesOn}
use Rattle.lsp_wire.proofs.params.all_changes.Given as goal

abbrev pub invariant-changes : goal.invariant-changes
invariant-changes l = GoesOn change_of l.items l.item-index l.changes
