use Rattle.std.proofs.Common.{ap, ◌∙◌}
use Rattle.std.proofs.lemmas.List.{take_all}
use Rattle.flattened_trees.specs.Answers.{items_of}
use Rattle.level_answers.proofs.Answering.{frame_more}
use Rattle.level_answers.proofs.frames.arguments_of.Goals as goal

pub loop-meaning-preserved : goal.loop-meaning-preserved
loop-meaning-preserved c = λ flat.
    frame_more flat c.loop-meaning.arguments.items c.push.new.self.items c.argument_of.result c.args.frame.now c.loop-meaning.meaning-index c.meaning-item.result
    c.loop-meaning-test.true c.meaning-item.is (c.loop-meaning.invariant flat) (c.argument_of.ensures flat) c.in_ok-push.ensures.items

pub returns : goal.returns
returns c = λ flat. c.loop-meaning.invariant flat ∙ ap items_of (take_all c.loop-meaning.meaning-index c.args.frame.now c.loop-meaning-test.false)
