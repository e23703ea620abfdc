use Rattle.module_meanings.proofs.Growing.{extended-grows, face-grows, meant-grows}
use Rattle.module_meanings.proofs.meanings_grow.Goals as goal

pub returns-clause-means : goal.returns-clause-means
returns-clause-means c flat more outsides source units symbols final extends ordered there is = meant-grows flat more extends ordered outsides source units symbols final there is

pub returns-clause-faces : goal.returns-clause-faces
returns-clause-faces c flat more new leads face outside extends ordered there is = face-grows flat more extends ordered new leads face outside there is

pub returns-clause-extended : goal.returns-clause-extended
returns-clause-extended c flat more leads symbols face outside extends ordered there is = extended-grows flat more extends ordered leads symbols face outside there is
