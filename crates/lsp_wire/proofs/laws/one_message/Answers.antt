use Rattle.lsp_wire.proofs.OneMessage.{is_message, no_other}
use Rattle.lsp_wire.proofs.laws.one_message.Goals as goal

pub returns-clause-is : goal.returns-clause-is
returns-clause-is c = is_message

pub returns-clause-no_other : goal.returns-clause-no_other
returns-clause-no_other c = no_other
