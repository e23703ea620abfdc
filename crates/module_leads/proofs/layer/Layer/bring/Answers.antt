use Rattle.std.proofs.Common.{refl}
use Rattle.module_leads.proofs.Keyed.{table-brought}
use Rattle.module_leads.proofs.layer.Layer.bring.Goals as goal

pub returns : goal.returns
returns c =
    table-brought c.args.self.now (record c.args.self.now { brought = c.push.new.self }) c.args.brought c.requires refl refl c.in_ok-push.ensures.items
