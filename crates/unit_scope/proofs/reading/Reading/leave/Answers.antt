use Rattle.std.proofs.Common.{◌∙◌, ℕ, List, ap, sym, subst}
use Rattle.std.specs.Borrow.{Bor}
use Rattle.std.proofs.lemmas.List.{take-map}
use Rattle.instance_leads.specs.Leading.{views}
use Rattle.unit_scope.specs.EnclosingReadings.{AreEnded}
use Rattle.unit_scope.proofs.Taking.{ended-taken}
use Rattle.unit_scope.proofs.reading.Reading.leave.Goals as goal

pub returns-clause-left : goal.returns-clause-left
returns-clause-left c =
    let self = c.args.self.now in
    record {
      reads = λ nested reading is.
          let title = ap (λ (b : Bor (List ℕ)). b.now) c.replace-name.ensures.after ∙ sym is.title in
          let context = c.cut.ensures ∙ sym is.names in
          let exports = c.replace-exports.ensures.after ∙ sym is.shown in
          let modules = ap (views nested) c.truncate.ensures ∙ sym (take-map _ c.args.outer.modules self.modules) ∙ sym is.begins in
          λ i. record { name = title i; context = context i; exports = exports i; modules = modules i };
      numbered = λ count all. subst (AreEnded count) (sym c.truncate.ensures) (ended-taken count c.args.outer.modules self.modules all);
    }
