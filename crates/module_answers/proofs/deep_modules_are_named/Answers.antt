use Rattle.module_answers.proofs.Deepening.{module-led}
use Rattle.module_answers.proofs.deep_modules_are_named.Goals as goal

pub returns : goal.returns
returns c flat outsides source units symbols final text known named faces l held deep same leads takes =
    module-led flat outsides source units symbols final text known named faces l held deep same leads takes
