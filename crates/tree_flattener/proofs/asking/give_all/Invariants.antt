use Rattle.std.proofs.Common.{◌≡◌, ◌++◌, map, take, drop}
use Rattle.tree_flattener.specs.Steps.{question_about}
use Rattle.tree_flattener.proofs.asking.give_all.Given as goal

abbrev pub invariant-loop-question : goal.invariant-loop-question
invariant-loop-question l = l.asked ≡ map (question_about l.number) (take l.question-index l.initial.asked) ++ drop l.question-index l.initial.asked
