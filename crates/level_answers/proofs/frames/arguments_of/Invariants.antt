use Rattle.std.proofs.Common.{◌≡◌, map, take}
use Rattle.kind_text.specs.FlatModule.{FlatModule}
use Rattle.level_facts.specs.Facts.{argument_item}
use Rattle.flattened_trees.specs.Answers.{items_of}
use Rattle.level_answers.proofs.frames.arguments_of.Given as goal

abbrev pub invariant-loop-meaning : goal.invariant-loop-meaning
invariant-loop-meaning l = (flat : FlatModule) → map (argument_item flat) l.arguments.items ≡ items_of (take l.meaning-index l.frame)
