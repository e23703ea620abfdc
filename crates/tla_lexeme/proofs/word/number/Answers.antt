use Rattle.tla_lexeme.proofs.WordLemmas.{number_by_parts}
use Rattle.tla_lexeme.proofs.word.number.Goals as goal

pub returns : goal.returns
returns c = number_by_parts c.args.text.now c.run_len-digits.result c.fraction_len.result c.skip.result.now c.requires.digit c.requires.bare c.run_len-digits.ensures.value c.run_len-digits.ensures.within c.skip.ensures c.fraction_len.ensures.value c.fraction_len.ensures.within
