use Rattle.std.proofs.Common.{sym}
use Rattle.tla_lexeme.proofs.StringLemmas.{string-some_is, string-none_is}
use Rattle.tla_lexeme.proofs.string.string_lexeme.Goals as goal

pub returns-in_default : goal.returns-in_default
returns-in_default c = sym (string-none_is c.args.text.now c.requires.quote (sym c.in_default.ensures))

pub returns : goal.returns
returns c = sym (string-some_is c.args.text.now c.in-Some.len c.requires.quote (sym c.in-Some.ensures))
