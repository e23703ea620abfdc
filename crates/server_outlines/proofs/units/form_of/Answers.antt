use Rattle.std.proofs.Common.{sym, ◌∙◌}
use Rattle.server_outlines.proofs.Nodes.{form-at}
use Rattle.server_outlines.proofs.units.form_of.Goals as goal

pub returns : goal.returns
returns c = c.form.ensures ∙ sym (form-at c.args.tree.now c.args.node c.requires)
