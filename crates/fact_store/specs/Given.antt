-- What was given, and what is answered, as states.
use Rattle.std.specs.Prelude.{ℕ, List, map}
use Rattle.std.specs.Arc.{arc_value}
use Rattle.fact_store.specs.declared.given.Input.{Input}
use Rattle.fact_store.specs.declared.given.Input.TheVariants as input
use Rattle.fact_store.specs.declared.given.Answer.{Answer}
use Rattle.fact_store.specs.declared.given.Answer.TheVariants as answer
use Rattle.fact_values.specs.States.{State, no_text, cyclic, broken, fact}

module _ {F : Type 0} where
  -- what a need gave, as a state
  abbrev pub input_state : Input F → State F
  input_state input.NoText = no_text
  input_state input.Cyclic = cyclic
  input_state input.Broken = broken
  input_state (input.Fact shared) = fact (arc_value shared)

  -- what is answered about a text, as a state
  abbrev pub answer_state : Answer F → State F
  answer_state answer.NoText = no_text
  answer_state answer.Broken = broken
  answer_state (answer.Fact shared) = fact (arc_value shared)

  -- each name with what it gave
  abbrev pub states : List (List ℕ × Input F) → List (List ℕ × State F)
  states given = map (λ g. (g.0, input_state g.1)) given
