use Rattle.std.proofs.Common.{refl}
use Rattle.expr_grammar.specs.Tables.{handed}
use Rattle.expr_kinds.proofs.Rows.{row, taken, passed}
use Rattle.expr_kinds.proofs.frames.handed_wait.Goals as goal

pub returns-in-Segment : goal.returns-in-Segment
returns-in-Segment c = row (λ h. (handed h c.args.lexeme).wait) c.in-Segment.is refl

pub returns-then-is_name : goal.returns-then-is_name
returns-then-is_name c = row (λ h. (handed h c.args.lexeme).wait) c.in-Definition.is (taken _ _ c.is_name.ensures c.if-is_name.true refl)

pub returns-else-is_name : goal.returns-else-is_name
returns-else-is_name c = row (λ h. (handed h c.args.lexeme).wait) c.in-Definition.is (passed _ _ c.is_name.ensures c.if-is_name.false refl)
