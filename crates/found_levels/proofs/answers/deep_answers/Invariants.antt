use Rattle.std.proofs.Common.{◌≡◌, List, take}
use Rattle.tla_model.specs.Entities.{Meaning}
use Rattle.kind_table.specs.Flattened.{flat_of}
use Rattle.flattened_trees.specs.Answers as answering
use Rattle.flattened_trees.specs.Questions as questions
use Rattle.tree_flattener.specs.Steps.{AreAsked}
use Rattle.found_levels.proofs.answers.deep_answers.Given as goal

abbrev pub invariant-loop-question : goal.invariant-loop-question
invariant-loop-question l = (frames : List (List Meaning)) (xs : List questions.Question) → AreAsked frames (take l.question-index l.asked) xs → l.deep ≡ answering.deep_answers (flat_of l.flat) xs
