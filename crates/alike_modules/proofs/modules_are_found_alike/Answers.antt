use Rattle.std.proofs.Common.{sym, ◌∙◌}
use Rattle.leveled_facts.specs.Modules.{outsides}
use Rattle.alike_modules.proofs.Finding.{module-alike}
use Rattle.alike_modules.proofs.modules_are_found_alike.Goals as goal

pub returns : goal.returns
returns c given others one two flat before now files name source units symbols last asked same over other =
    module-alike given others source units same
    (sym (c.made_modules_answer.ensures.levels one flat before files (outsides given) name source units symbols last asked over)
    ∙ c.made_modules_answer.ensures.levels two flat now files (outsides others) name source units symbols last asked other)
    (sym (c.made_modules_answer.ensures.depths one flat before files (outsides given) name source units symbols last asked over)
    ∙ c.made_modules_answer.ensures.depths two flat now files (outsides others) name source units symbols last asked other)
    (c.views_are_given.ensures.itself given source units) (c.views_are_given.ensures.itself others source units)
