use Rattle.std.proofs.Common.{sym}
use Rattle.tla_lexeme.proofs.CommentLemmas.{begins_lexeme}
use Rattle.tla_lexeme.proofs.begin.what_begins.Goals as goal

pub returns : goal.returns
returns c = begins_lexeme c.in-Some.first c.in-Some.field-0-1.now c.args.text.now c.lexeme.result c.in-Some.ensures (sym c.if-has.ensures) (sym c.if-begins.ensures) (sym c.if-begins-2.ensures) c.lexeme.ensures
