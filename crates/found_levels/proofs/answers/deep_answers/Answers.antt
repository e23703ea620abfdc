use Rattle.kind_table.specs.Flattened.{flat_of}
use Rattle.found_levels.specs.Findings.{maybe_name}
use Rattle.found_levels.proofs.Asking.{deep_on}
use Rattle.found_levels.proofs.answers.deep_answers.Goals as goal

pub loop-question-preserved : goal.loop-question-preserved
loop-question-preserved c = λ frames. deep_on (flat_of c.args.flat.now) frames c.args.asked.now c.loop-question.question-index _ c.loop-question.deep (maybe_name c.deep_answer-answer.result) c.put_name.new.deep c.loop-question-test.true (c.loop-question.invariant frames) c.deep_answer-answer.ensures c.in_ok-put_name.ensures
