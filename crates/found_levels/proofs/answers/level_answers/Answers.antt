use Rattle.std.proofs.Common.{ap, ◌∙◌, refl}
use Rattle.kind_table.specs.Flattened.{flat_of}
use Rattle.found_levels.specs.Findings.{findings_of, maybe_found}
use Rattle.found_levels.proofs.Asking.{levels_on, none-asked}
use Rattle.found_levels.proofs.answers.level_answers.Goals as goal

pub loop-question-init : goal.loop-question-init
loop-question-init c = record {
  facts = c.requires.facts;
  kept = c.in_ok-kept.ensures (flat_of c.args.flat.now) c.args.frames.now refl;
  found = λ xs h. ap findings_of c.new-found.ensures ∙ none-asked (flat_of c.args.flat.now) c.args.frames.now xs h;
}

pub loop-question-preserved : goal.loop-question-preserved
loop-question-preserved c = record {
  facts = c.in_ok-answer.ensures.facts;
  kept = c.in_ok-answer.ensures.kept;
  found = levels_on (flat_of c.args.flat.now) c.args.frames.now c.args.asked.now c.loop-question.question-index _ (findings_of c.loop-question.found) (maybe_found c.in_ok-answer.answer) (findings_of c.put.new.found) c.loop-question-test.true c.loop-question.invariant.found c.in_ok-answer.ensures.found c.in_ok-put.ensures;
}
