use Rattle.std.proofs.Common.{sym, ◌∙◌}
use Rattle.leveled_facts.specs.Modules.{outsides}
use Rattle.alike_modules.proofs.Constant.{face-alike}
use Rattle.alike_modules.proofs.faces_are_made_alike.Goals as goal

pub returns-clause-shown : goal.returns-clause-shown
returns-clause-shown c = λ given others source units last views constant. face-alike (outsides given) (outsides others) source units views constant last

pub returns-clause-made : goal.returns-clause-made
returns-clause-made c = λ given others one two flat before now files name source units symbols last asked views over other.
    face-alike (outsides given) (outsides others) source units views (λ title. sym (over.known.each title).good.reads.constant ∙ (other.known.each title).good.reads.constant) last
