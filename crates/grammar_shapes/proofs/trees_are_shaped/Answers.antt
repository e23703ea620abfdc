use Rattle.grammar_shapes.proofs.Trees.{definition-in, expression-in, instance-in}
use Rattle.grammar_shapes.proofs.trees_are_shaped.Goals as goal

pub returns-clause-expressions : goal.returns-clause-expressions
returns-clause-expressions c = λ x a inner next derives. (expression-in (λ own l. Unit {0}) derives).shaped

pub returns-clause-definitions : goal.returns-clause-definitions
returns-clause-definitions c = λ x a inner next derives. (definition-in (λ own l. Unit {0}) derives).shaped

pub returns-clause-instances : goal.returns-clause-instances
returns-clause-instances c = λ x a inner next derives. (instance-in (λ own l. Unit {0}) derives).ends
