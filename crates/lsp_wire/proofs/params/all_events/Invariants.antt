use Rattle.lsp_wire.specs.Params.{event_of}
use Rattle.lsp_wire.proofs.Items.{GoesOn}
use Rattle.lsp_wire.proofs.params.all_events.Given as goal

abbrev pub invariant-events : goal.invariant-events
invariant-events l = GoesOn event_of l.items l.item-index l.events
