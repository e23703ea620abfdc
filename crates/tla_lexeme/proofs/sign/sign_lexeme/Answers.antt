use Rattle.std.proofs.Common.{◌∙◌}
use Rattle.tla_lexeme.proofs.SignLemmas.{open_is, spelled_is}
use Rattle.tla_lexeme.proofs.sign.sign_lexeme.Goals as goal

pub returns-then-open-gt0 : goal.returns-then-open-gt0
returns-then-open-gt0 c = open_is c.args.text.now c.open_sign-open.result c.requires.filled c.requires.sign c.requires.no_quote c.open_sign-open.ensures.value c.if-open-gt0.true c.open_sign-open.ensures.within

pub returns : goal.returns
returns c = c.longest_spelled.ensures ∙ spelled_is c.args.text.now c.open_sign-open.result c.most_len.result c.requires.filled c.requires.sign c.requires.no_quote c.open_sign-open.ensures.value c.if-open-gt0.false c.most_len.ensures.value
