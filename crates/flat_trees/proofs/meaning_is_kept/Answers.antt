use Rattle.flat_trees.proofs.Growing.{gives-kept, layout-kept, meant-kept, module-kept, stands-kept}
use Rattle.flat_trees.proofs.meaning_is_kept.Goals as goal

pub returns-clause-trees : goal.returns-clause-trees
returns-clause-trees c flat more text known named layout i x extends ordered within here meant = meant-kept flat more extends ordered text known named layout i x within here meant

pub returns-clause-expressions : goal.returns-clause-expressions
returns-clause-expressions c flat more layout i gives extends ordered within here holds = gives-kept flat more extends ordered layout i gives within here holds

pub returns-clause-names : goal.returns-clause-names
returns-clause-names c flat more layout stand value extends ordered within there holds = stands-kept flat more extends ordered layout stand value within there holds

pub returns-clause-modules : goal.returns-clause-modules
returns-clause-modules c flat more stands places inner outside extends ordered within there holds = module-kept flat more extends ordered stands places inner outside within there holds

pub returns-clause-within : goal.returns-clause-within
returns-clause-within c flat more layout extends within = layout-kept flat more extends layout within
