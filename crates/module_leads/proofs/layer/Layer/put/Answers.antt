use Rattle.std.proofs.Common.{refl}
use Rattle.module_leads.proofs.Keyed.{way-put}
use Rattle.module_leads.proofs.layer.Layer.put.Goals as goal

pub returns : goal.returns
returns c =
    way-put c.args.self.now (record c.args.self.now { others = c.insert.new.self }) c.in_ok-key.key c.args.meaning.now c.args.way c.in_ok-key.ensures refl refl
    c.in_ok-insert.ensures.updates
