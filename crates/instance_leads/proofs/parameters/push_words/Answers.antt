use Rattle.std.proofs.Common.{◌++◌, ap, arith, ◌∙◌, ◌∷◌, [], map}
use Rattle.tla_model.specs.Stretches.{shown}
use Rattle.tla_model.specs.Tables.{Word}
use Rattle.module_model.specs.Exports.{of_words}
use Rattle.tree_names.specs.Parameters.{entries_in}
use Rattle.instance_leads.proofs.Naming.{grown-by, shown-append}
use Rattle.instance_leads.proofs.parameters.push_words.Goals as goal

pub loop-word-preserved : goal.loop-word-preserved
loop-word-preserved c =
    grown-by (λ words. of_words (map shown words)) shown-append (entries_in c.args.found.now) (entries_in c.loop-word.found) (entries_in c.push.new.found) c.args.words.now c.loop-word.word-index c.loop-word-item.result (omega arith)
    c.loop-word-item.is c.loop-word.invariant (c.in_ok-push.ensures ∙ ap (λ z. entries_in c.loop-word.found ++ (Word z, c.loop-word-item.result.1.now) ∷ []) c.in_ok-from_str.ensures)
