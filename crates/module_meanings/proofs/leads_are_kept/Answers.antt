use Rattle.flattened_trees.specs.Agreeing.{unsaid_stand}
use Rattle.flattened_units.specs.Units.{no_leads}
use Rattle.module_meanings.proofs.Leads.{brought-lead, exported-lead, none-leads, symbols-lead}
use Rattle.module_meanings.proofs.leads_are_kept.Goals as goal

pub returns-clause-first : goal.returns-clause-first
returns-clause-first c symbols = symbols-lead unsaid_stand no_leads symbols 0 none-leads

pub returns-clause-symbols : goal.returns-clause-symbols
returns-clause-symbols c stands leads symbols place all = symbols-lead stands leads symbols place all

pub returns-clause-brought : goal.returns-clause-brought
returns-clause-brought c stands leads entries j face inner all paths = brought-lead stands leads entries j face inner all paths

pub returns-clause-exported : goal.returns-clause-exported
returns-clause-exported c stands leads entries name names all = exported-lead stands leads entries name names all
