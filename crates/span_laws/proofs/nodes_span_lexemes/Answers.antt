use Rattle.span_laws.proofs.CoversUnits.{nodes-span-lexemes}
use Rattle.span_laws.proofs.nodes_span_lexemes.Goals as goal

pub returns : goal.returns
returns c = nodes-span-lexemes
