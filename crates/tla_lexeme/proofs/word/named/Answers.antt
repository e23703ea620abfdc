use Rattle.tla_lexeme.proofs.WordLemmas.{named_by_run}
use Rattle.tla_lexeme.proofs.word.named.Goals as goal

pub returns : goal.returns
returns c = named_by_run c.args.text.now c.prefix-run.result.now c.named_len.result c.table_kind.result c.unwrap_or.result c.requires.word c.requires.letter c.named_len.ensures.value c.named_len.ensures.within c.prefix-run.ensures c.table_kind.ensures c.unwrap_or.ensures
