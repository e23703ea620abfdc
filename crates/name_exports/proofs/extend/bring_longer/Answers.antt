use Rattle.std.proofs.Common.{drop, refl, subst}
use Rattle.module_model.specs.Exports.{of_words}
use Rattle.name_exports.specs.Brought.{IsBrought}
use Rattle.name_exports.proofs.There.{others-brought}
use Rattle.name_exports.proofs.extend.bring_longer.Goals as goal

pub returns : goal.returns
returns c =
    let words = c.args.table.now.words in
    others-brought c.args.names.now words c.args.count c.requires c.bring_words.new.names c.in_ok-clash.clash
    (subst (λ names. IsBrought names c.bring_words.new.names c.in_ok-clash.clash (of_words (drop c.args.count words))) (c.if-take_longer.ensures.left refl) c.in_ok-clash.ensures)
