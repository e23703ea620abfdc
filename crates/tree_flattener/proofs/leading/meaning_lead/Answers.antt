use Rattle.std.proofs.Common.{sym, ◌∙◌, map}
use Rattle.name_context.specs.AsTables.{meant_by}
use Rattle.tree_flattener.specs.Worlds.{DoesLie, world_of}
use Rattle.tree_flattener.proofs.LocalLeads.{found-holds, leads-away, leads-here}
use Rattle.tree_flattener.proofs.leading.meaning_lead.Goals as goal

pub local_lead-requires : goal.local_lead-requires
local_lead-requires g c =
    found-holds (DoesLie c.args.written.now.text.now.source) c.args.written.now.text.now c.args.meaning.now c.args.locals.now c.in-Some.local c.requires c.in-Some.ensures

pub returns-in_ok-lead-in-Some : goal.returns-in_ok-lead-in-Some
returns-in_ok-lead-in-Some g c =
    c.in_ok-lead-in-Some.ensures
    ∙ sym (leads-here (world_of (g.N.Names.leads c.args.names.now) (g.N.Names.faces c.args.names.now) c.args.written.now) c.args.meaning.now (map meant_by c.args.path.now) c.in-Some.local c.args.locals.now (g.N.Names.leads c.args.names.now) c.in-Some.ensures)

pub returns-in_ok-lead-in-None : goal.returns-in_ok-lead-in-None
returns-in_ok-lead-in-None g c =
    c.in_ok-lead-in-None.ensures
    ∙ sym (leads-away (world_of (g.N.Names.leads c.args.names.now) (g.N.Names.faces c.args.names.now) c.args.written.now) c.args.meaning.now (map meant_by c.args.path.now) c.args.locals.now (g.N.Names.leads c.args.names.now) c.in-None.ensures)
