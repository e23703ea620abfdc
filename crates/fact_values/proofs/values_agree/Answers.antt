use Rattle.fact_values.proofs.Agreeing.{given-agree, values-agree}
use Rattle.fact_values.proofs.values_agree.Goals as goal

pub returns-clause-values : goal.returns-clause-values
returns-clause-values g c own_of needs_of fact_of texts others among agree name h = values-agree own_of needs_of fact_of texts others among agree name h

pub returns-clause-given : goal.returns-clause-given
returns-clause-given g c own_of needs_of fact_of texts others among agree name h = given-agree own_of needs_of fact_of texts others among agree name h
