use Rattle.std.proofs.Common.{take}
use Rattle.module_leads.specs.Layers.{ArePut}
use Rattle.module_leads.proofs.leads.put_all.Given as goal

abbrev pub invariant-loop-meaning : goal.invariant-loop-meaning
invariant-loop-meaning l = ArePut l.fn.layer l.layer (take l.meaning-index l.meanings) l.way
