use Rattle.std.proofs.Common.{sym, ◌∙◌}
use Rattle.level_text.proofs.Depths.{depth-kept}
use Rattle.flat_depths.proofs.Growing.{agrees-kept, has-kept, module-kept}
use Rattle.flat_depths.proofs.depths_are_kept.Goals as goal

pub returns-clause-names : goal.returns-clause-names
returns-clause-names c flat more replaced stand depths extends ordered within has = has-kept flat more extends ordered stand replaced depths within has

pub returns-clause-layouts : goal.returns-clause-layouts
returns-clause-layouts c flat more layout around extends ordered within agrees = agrees-kept flat more extends ordered layout around within agrees

pub returns-clause-modules : goal.returns-clause-modules
returns-clause-modules c flat more inner outside extends ordered within deep = module-kept flat more extends ordered inner outside within deep

pub returns-clause-trees : goal.returns-clause-trees
returns-clause-trees c flat more text known named around i x extends ordered here deep = sym (depth-kept flat more extends ordered i here) ∙ deep
