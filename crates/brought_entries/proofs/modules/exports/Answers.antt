use Rattle.std.proofs.Common.{◌∙◌, ap}
use Rattle.module_model.specs.Modules.{Reading}
use Rattle.brought_entries.proofs.modules.exports.Goals as goal

pub returns : goal.returns
returns c = λ text over state at. c.in_ok-table.ensures ∙ ap (λ (r : Reading). r.exports) at.here
