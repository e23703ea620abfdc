use Rattle.module_facts.proofs.Standing.{all-stand}
use Rattle.module_facts.proofs.laws.faults_stand_in_text.Goals as goal

pub returns : goal.returns
returns c = λ given source units lie spans. all-stand given source units lie spans (c.imports_are_lexemes.ensures source units) (c.enclosing_are_lexemes.ensures source units)
