use Rattle.span_laws.proofs.LyingWords.{front-words-lie}
use Rattle.span_laws.proofs.front_words_lie.Goals as goal

pub returns : goal.returns
returns c = front-words-lie c.reads_longest.ensures
