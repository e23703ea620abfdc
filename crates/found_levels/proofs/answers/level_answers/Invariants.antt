use Rattle.std.proofs.Common.{◌≡◌, List, take}
use Rattle.kind_table.specs.Flattened.{flat_of}
use Rattle.level_facts.specs.Facts.{IsFacts}
use Rattle.flattened_trees.specs.Answers as answering
use Rattle.flattened_trees.specs.Questions as questions
use Rattle.tree_flattener.specs.Steps.{AreAsked}
use Rattle.found_levels.specs.Findings.{findings_of}
use Rattle.found_levels.specs.Stretches.{AreKept}
use Rattle.found_levels.proofs.answers.level_answers.Given as goal

abbrev pub invariant-loop-question : goal.invariant-loop-question
invariant-loop-question l = record {
  facts : IsFacts (flat_of l.flat) l.facts;
  kept : AreKept (flat_of l.flat) l.frames l.kept.items;
  found : (xs : List questions.Question) → AreAsked l.frames (take l.question-index l.asked) xs → findings_of l.found ≡ answering.level_answers (flat_of l.flat) xs;
}
