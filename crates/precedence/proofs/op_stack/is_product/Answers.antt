use Rattle.std.proofs.Common.{rules}
use Rattle.precedence.specs.Choices.{same_edge, same_op, op_number, fix_number}
use Rattle.precedence.proofs.op_stack.is_product.Goals as goal

pub returns-in-Product : goal.returns-in-Product
unfolding same_edge same_op op_number fix_number
returns-in-Product c = search rules

pub returns-in_default : goal.returns-in_default
unfolding same_edge same_op op_number fix_number
returns-in_default c = search rules

pub returns-in_default-2 : goal.returns-in_default-2
unfolding same_edge same_op op_number fix_number
returns-in_default-2 c = search rules
