use Rattle.tla_lexeme.proofs.ReadsLemmas as lemmas
use Rattle.tla_lexeme.proofs.reads_longest.Goals as goal

pub returns : goal.returns
returns c = lemmas.reads_longest
