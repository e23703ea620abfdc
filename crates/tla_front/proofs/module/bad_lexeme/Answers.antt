use Rattle.tla_front.proofs.FrontSteps.{fault-behind}
use Rattle.tla_front.proofs.module.bad_lexeme.Goals as goal

pub returns : goal.returns
returns c = fault-behind c.args.lexemes.now c.args.index _ c.syntax_fault.result c.requires c.syntax_fault.ensures
