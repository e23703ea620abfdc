use Rattle.module_answers.proofs.Growing.{deep-grows}
use Rattle.module_answers.proofs.deep_modules_grow.Goals as goal

pub returns : goal.returns
returns c flat more outsides source units symbols final extends ordered there deep = deep-grows flat more extends ordered outsides source units symbols final there deep
