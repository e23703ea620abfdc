use Rattle.std.proofs.Common.{◌≡◌, ◌∙◌, List, ap, subst, sym}
use Rattle.module_model.specs.Exports.{and_known}
use Rattle.module_model.specs.NamedModules.{exported_known}
use Rattle.instance_leads.specs.declared.ended.Ended.{Ended}
use Rattle.instance_leads.specs.Found.{AreOfFace}
use Rattle.instance_leads.specs.Leading.{Leads, known_in}
use Rattle.instance_scope.specs.Scoped.{AreGiven, known_of, module_in}
use Rattle.module_model.specs.Exports.{face_outside}
use Rattle.instance_scope.proofs.ExportedInstances.{face-given, nested-known}
use Rattle.instance_leads.proofs.Naming.{ok-so}
use Rattle.instance_scope.proofs.ScopeSoundness.{none-given}
use Rattle.instance_scope.proofs.scope.Scope.leads_exported.Goals as goal

pub returns-in-Imported-clause-given : goal.returns-in-Imported-clause-given
returns-in-Imported-clause-given c =
    ok-so (AreOfFace c.in-Imported.face.now) (AreGiven c.args.self.now) c.face_leads.result (λ more led. face-given c.args.self.now c.args.name.now c.in-Imported.face.now more c.in-Imported.ensures.meant led) c.face_leads.ensures.led

pub returns-in-Imported-clause-known : goal.returns-in-Imported-clause-known
returns-in-Imported-clause-known c =
    ok-so (λ (more : Leads). (nested : List Ended) → known_in nested more ≡ exported_known (face_outside c.in-Imported.face.now))
    (λ (more : Leads). and_known (known_of c.args.self.now) (known_in c.args.self.now.nested.items more) ≡ and_known (known_of c.args.self.now) (exported_known (module_in c.args.self.now c.args.modules.now c.args.name.now))) c.face_leads.result
    (λ more known. ap (and_known (known_of c.args.self.now)) (known c.args.self.now.nested.items ∙ ap exported_known c.in-Imported.ensures.shown)) c.face_leads.ensures.known

pub returns-in-Missing : goal.returns-in-Missing
returns-in-Missing c = record {
  given = subst (AreGiven c.args.self.now) (sym c.new.ensures) (none-given c.args.self.now);
  known = ap (λ z. and_known (known_of c.args.self.now) (known_in c.args.self.now.nested.items z)) c.new.ensures ∙ ap (λ z. and_known (known_of c.args.self.now) (exported_known z)) c.in-Missing.ensures.shown;
}

pub returns-in-Nested : goal.returns-in-Nested
returns-in-Nested c = record {
  given = subst (AreGiven c.args.self.now) (sym c.new-in-Nested.ensures) (none-given c.args.self.now);
  known = ap (λ z. and_known (known_of c.args.self.now) (known_in c.args.self.now.nested.items z)) c.new-in-Nested.ensures ∙ nested-known c.args.self.now c.in-Nested.number c.requires.sound
      ∙ ap (λ z. and_known (known_of c.args.self.now) (exported_known z)) c.in-Nested.ensures.shown;
}
