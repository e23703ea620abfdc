use Rattle.std.proofs.Common.{drop}
use Rattle.module_model.specs.Exports.{of_words}
use Rattle.module_leads.specs.Layers.{way_by}
use Rattle.module_leads.proofs.Tabled.{Lacks}
use Rattle.module_leads.proofs.leads.put_words.Given as goal

abbrev pub invariant-loop-index : goal.invariant-loop-index
invariant-loop-index l = Lacks l.fn.names l.names (way_by l.round l.here) (of_words (drop l.index l.table.words)) (of_words l.table.words)
