use Rattle.std.proofs.Common.{sym, ◌∙◌}
use Rattle.server_outlines.proofs.Nodes.{span-at}
use Rattle.server_outlines.proofs.units.span_of.Goals as goal

pub returns : goal.returns
returns c = c.span.ensures ∙ sym (span-at c.args.tree.now c.args.node c.requires)
