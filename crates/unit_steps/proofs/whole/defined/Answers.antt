use Rattle.std.proofs.Common.{sym}
use Rattle.unit_steps.proofs.Reaching.{defined-function, defined-module, defined-operator}
use Rattle.unit_steps.proofs.whole.defined.Goals as goal

pub returns-in-FunctionDefinition : goal.returns-in-FunctionDefinition
returns-in-FunctionDefinition c = defined-function _ c.args.local c.args.node _ c.requires (sym c.in-FunctionDefinition.ensures)

pub returns-in-ModuleDefinition : goal.returns-in-ModuleDefinition
returns-in-ModuleDefinition c = defined-module _ c.args.local c.args.node _ c.requires (sym c.in-ModuleDefinition.ensures)

pub returns-in_default : goal.returns-in_default
returns-in_default c = defined-operator _ c.args.local c.args.node c.form.result c.requires c.form.ensures c.in_default.not-FunctionDefinition c.in_default.not-ModuleDefinition
