use Rattle.std.proofs.Common.{length, subst}
use Rattle.std.specs.List.{AllByRecursion}
use Rattle.module_leads.specs.Layers.{IsLayerWithin}
use Rattle.module_leads.proofs.Placed.{ended}
use Rattle.module_leads.proofs.Within.{all-front}
use Rattle.module_leads.proofs.leads.ModuleLeads.leave.Goals as goal

pub returns-in-Some-clause-known : goal.returns-in-Some-clause-known
returns-in-Some-clause-known c = ended c.args.self.now.faces.items c.args.self.now.round.items c.pop.new.self.items c.args.self.now.here c.in-Some.outer c.in-Some.ensures.items

pub returns-in-Some-clause-sound : goal.returns-in-Some-clause-sound
returns-in-Some-clause-sound c = λ sound.
    let within = IsLayerWithin (length c.args.self.now.faces.items) in
    let all = all-front within c.pop.new.self.items c.in-Some.outer (subst (AllByRecursion within) c.in-Some.ensures.items sound.outer) in
    record { outer = all.0; inner = all.1 }
