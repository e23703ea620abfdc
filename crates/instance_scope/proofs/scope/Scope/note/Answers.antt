use Rattle.std.proofs.Common.{◌≡◌, ap, ◌∙◌}
use Rattle.module_model.specs.Exports.{and_known}
use Rattle.instance_leads.specs.Keys.{joined_leads}
use Rattle.instance_leads.specs.Leading.{known_in}
use Rattle.instance_scope.specs.Scoped.{IsSound, known_of}
use Rattle.instance_leads.proofs.Knowing.{known-joined}
use Rattle.instance_leads.proofs.Naming.{on-so}
use Rattle.instance_scope.proofs.ScopeSoundness.{sound-joined}
use Rattle.instance_scope.proofs.scope.Scope.note.Goals as goal

pub returns-clause-sound : goal.returns-clause-sound
returns-clause-sound c =
    on-so (c.join.new.self ≡ joined_leads c.args.self.now.known c.args.more.now) (IsSound (record c.args.self.now { known = c.join.new.self })) c.join.result
    (sound-joined c.args.self.now c.args.more.now c.join.new.self c.requires.sound c.requires.given) c.join.ensures

pub returns-clause-known : goal.returns-clause-known
returns-clause-known c =
    on-so (c.join.new.self ≡ joined_leads c.args.self.now.known c.args.more.now) (known_of (record c.args.self.now { known = c.join.new.self }) ≡ and_known (known_of c.args.self.now) (known_in c.args.self.now.nested.items c.args.more.now)) c.join.result
    (λ is. ap (known_in c.args.self.now.nested.items) is ∙ known-joined c.args.self.now.nested.items c.args.self.now.known c.args.more.now) c.join.ensures
