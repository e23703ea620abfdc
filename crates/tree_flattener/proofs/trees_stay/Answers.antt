use Rattle.tree_flattener.proofs.Growth.{defined-on, flattened-on, instance-on, rights-on}
use Rattle.tree_flattener.proofs.trees_stay.Goals as goal

pub returns-clause-expressions : goal.returns-clause-expressions
returns-clause-expressions c = λ flat more w setting x i asked extends. flattened-on flat more extends w setting x i asked

pub returns-clause-definitions : goal.returns-clause-definitions
returns-clause-definitions c = λ flat more w setting x lead roots asked extends. defined-on flat more extends w setting x lead roots asked

pub returns-clause-rights : goal.returns-clause-rights
returns-clause-rights c = λ flat more w setting l xs rights roots asked extends. rights-on flat more extends w setting l xs rights roots asked

pub returns-clause-instances : goal.returns-clause-instances
returns-clause-instances c = λ flat more w setting outer count guards l rights j asked extends. instance-on flat more extends w setting outer count guards l rights j asked
