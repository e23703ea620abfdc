use Rattle.std.proofs.Common.{sym}
use Rattle.expr_parse.proofs.Renaming.{renamed-leaf}
use Rattle.expr_parse.proofs.convert.name_node.Goals as goal

pub returns : goal.returns
returns c = renamed-leaf _ _ _ c.args.node c.in-Plain.name c.in_ok-name.ensures.ok c.in_ok-name.ensures.number (sym c.in-Plain.ensures)
