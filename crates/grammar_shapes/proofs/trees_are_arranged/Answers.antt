use Rattle.flattened_depths.specs.Rounds.{LeadsBehind}
use Rattle.grammar_shapes.proofs.Arranged.{definition-arranged, expression-arranged, instance-arranged}
use Rattle.grammar_shapes.proofs.trees_are_arranged.Goals as goal

pub returns-clause-expressions : goal.returns-clause-expressions
returns-clause-expressions c = λ flat text known named faces inside. expression-arranged (LeadsBehind flat text known named faces inside)

pub returns-clause-definitions : goal.returns-clause-definitions
returns-clause-definitions c = λ flat text known named faces inside. definition-arranged (LeadsBehind flat text known named faces inside)

pub returns-clause-instances : goal.returns-clause-instances
returns-clause-instances c = λ flat text known named faces inside. instance-arranged (LeadsBehind flat text known named faces inside)
