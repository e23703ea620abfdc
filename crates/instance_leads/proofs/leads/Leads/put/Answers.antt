use Rattle.instance_leads.proofs.Noting.{noted-new, noted-there}
use Rattle.instance_leads.proofs.leads.Leads.put.Goals as goal

pub returns-then-contains_key : goal.returns-then-contains_key
returns-then-contains_key c = noted-there c.args.self.now c.self.inside.entries.entries c.args.module.now c.args.place c.args.held c.self.view_is c.if-contains_key.ensures

pub returns : goal.returns
returns c = noted-new c.args.self.now c.self.inside.entries c.insert.new.self.entries (c.args.module, c.args.place) c.args.held c.self.view_is c.if-contains_key.ensures c.in_ok-insert.ensures.entries
