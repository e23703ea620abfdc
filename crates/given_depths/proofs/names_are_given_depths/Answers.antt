use Rattle.given_depths.proofs.Coming.{begins-gives, brings-gives, file-gives, first-gives, modules-give, nested-gives}
use Rattle.given_depths.proofs.names_are_given_depths.Goals as goal

pub returns-clause-extended : goal.returns-clause-extended
returns-clause-extended c = first-gives

pub returns-clause-begins : goal.returns-clause-begins
returns-clause-begins c = λ given text files words state dashes name extends files_give all. begins-gives given text files words files_give state dashes name extends all

pub returns-clause-brings : goal.returns-clause-brings
returns-clause-brings c = λ given text files words state local l at rights files_give. brings-gives given text files words files_give state local l at rights

pub returns-clause-ended : goal.returns-clause-ended
returns-clause-ended c = nested-gives

pub returns-clause-exported : goal.returns-clause-exported
returns-clause-exported c = file-gives

pub returns-clause-modules : goal.returns-clause-modules
returns-clause-modules c = modules-give
