use Rattle.std.proofs.Common.{◌∙◌, refl}
use Rattle.std.specs.Prelude.{map}
use Rattle.unit_grammar.specs.UnitNodes.{unit_at}
use Rattle.instance_names.proofs.Collecting.{words_from}
use Rattle.instance_names.proofs.Collecting.{no-words, words-next}
use Rattle.instance_names.proofs.starts.all_words.Goals as goal

pub returns-then-not-may_hold_word : goal.returns-then-not-may_hold_word
returns-then-not-may_hold_word c = c.new-starts.ensures.items ∙ no-words c.args.tree.now.tree c.args.tree.now.units (c.if-not-may_hold_word.ensures refl) c.requires

pub loop-unit-preserved : goal.loop-unit-preserved
loop-unit-preserved c =
    words-next c.args.tree.now.tree c.args.tree.now.units c.as_slice-unit-items.result.now c.as_slice-unit-items.ensures c.loop-unit.unit-index c.unit-item.result c.loop-unit.starts.items c.push_words.new.starts.items
    (words_from (map (unit_at c.args.tree.now.tree) c.args.tree.now.units)) c.loop-unit-test.true c.unit-item.is c.in_ok-push_words.ensures c.loop-unit.invariant
