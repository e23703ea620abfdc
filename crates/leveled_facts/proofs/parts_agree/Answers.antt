use Rattle.leveled_facts.proofs.Agreeing.{leveled-agree}
use Rattle.leveled_facts.proofs.parts_agree.Goals as goal

pub returns : goal.returns
returns c texts others among agree name h = leveled-agree texts others among agree name h
