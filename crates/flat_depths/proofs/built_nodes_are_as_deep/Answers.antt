use Rattle.std.proofs.Common.{◌∙◌}
use Rattle.level_text.proofs.Depths.{depth-step}
use Rattle.flat_depths.proofs.Nodes.{node-deep, path-deep}
use Rattle.flat_depths.proofs.built_nodes_are_as_deep.Goals as goal

pub returns-clause-trees : goal.returns-clause-trees
returns-clause-trees c flat i node made text known named stands around beneath x ordered there same have built parts =
    depth-step flat i node ordered there ∙ node-deep flat stands beneath have node.form node.parts made text known named around same x built parts

pub returns-clause-names : goal.returns-clause-names
returns-clause-names c flat i node made stands beneath places path n ordered there have built counts =
    depth-step flat i node ordered there ∙ path-deep flat stands beneath have node.form node.parts made places path n built counts
