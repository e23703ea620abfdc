use Rattle.tla_lexeme.proofs.SignLemmas.{most_short}
use Rattle.tla_lexeme.proofs.sign.most_len.Goals as goal

pub returns-clause-value : goal.returns-clause-value
returns-clause-value c = most_short c.args.text.now c.skip-more.result.now c.prefix-few.result.now c.most_further.result c.min.result c.goes_on_len.result c.requires c.most_further.ensures c.skip-more.ensures c.min.ensures c.prefix-few.ensures c.goes_on_len.ensures.value
