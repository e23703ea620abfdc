use Rattle.std.proofs.Common.{◌∙◌, ap}
use Rattle.module_kinds.specs.ModuleKinds.{depth_faults, level_faults, level_of, or_levels}
use Rattle.leveled_modules.proofs.answers.answers_are_levels.Goals as goal

pub returns : goal.returns
returns c = λ flat asked outsides source units found answered levels depths.
    record {
      faults = answered.faults ∙ (λ i. or_levels (depth_faults (depths i)) (level_faults (levels i)));
      levels = λ none start. answered.levels none start ∙ ap (λ findings. level_of findings start) levels;
    }
