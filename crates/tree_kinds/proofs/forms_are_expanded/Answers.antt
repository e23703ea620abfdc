use Rattle.std.proofs.Common.{◌∙◌}
use Rattle.kind_text.specs.Expansion.{text as text_at}
use Rattle.kind_text.proofs.Unfolding.{text-step}
use Rattle.tree_kinds.proofs.MadeNodes.{made-form}
use Rattle.tree_kinds.proofs.forms_are_expanded.Goals as goal

pub returns : goal.returns
returns c flat i node s text known named around x ordered there made =
    text-step flat i node s ordered there ∙ made-form flat (text_at flat) node.form node.parts s text known named around x made
