use Rattle.list_laws.proofs.Lists.{all-weaker}
use Rattle.flattened_depths.specs.Rounds.{LeadsBehind}
use Rattle.grammar_shapes.specs.Units.{IsShapedUnit}
use Rattle.grammar_shapes.proofs.Arranged.{front-arranged}
use Rattle.grammar_shapes.proofs.Units.{IsGood, front-good}
use Rattle.grammar_shapes.proofs.fronts_are_shaped.Goals as goal

pub returns-clause-shaped : goal.returns-clause-shaped
returns-clause-shaped c = λ name bytes found front.
    all-weaker (IsGood (λ own l. Unit {0})) IsShapedUnit (λ unit good. good.shaped) found.units (front-good (λ own l. Unit {0}) name bytes found front)

pub returns-clause-arranged : goal.returns-clause-arranged
returns-clause-arranged c = λ flat text known named faces inside. front-arranged (LeadsBehind flat text known named faces inside)
