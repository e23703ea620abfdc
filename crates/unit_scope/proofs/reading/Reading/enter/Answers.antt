use Rattle.std.proofs.Common.{◌≡◌, ◌∙◌, List, None, ap, refl, sym, subst}
use Rattle.std.specs.Str.{bytes_eq}
use Rattle.std.proofs.lemmas.List.{length-map}
use Rattle.tla_model.specs.Tables.{added}
use Rattle.instance_leads.specs.Leading.{views}
use Rattle.instance_leads.specs.declared.ended.Ended.{Ended}
use Rattle.name_context.specs.AsTables.{context_of}
use Rattle.unit_scope.specs.EnclosingReadings.{AreEnded}
use Rattle.unit_scope.specs.Modules.{reading_in}
use Rattle.unit_scope.specs.declared.reader.Outer.{Outer}
use Rattle.unit_scope.proofs.Growing.{outer-begun}
use Rattle.unit_scope.proofs.Taking.{ended-added, views-added}
use Rattle.unit_scope.proofs.reading.Reading.enter.Goals as goal

pub returns : goal.returns
returns c =
    let self = c.args.self.now in
    let name = c.args.name.now in
    let outer : Outer = record { name = self.name; exports = c.replace-exports.result; mark = c.in_ok-mark.mark; modules = c.len-modules.result } in
    let modules : (nested : List Ended) → views nested c.add.new.self ≡ added bytes_eq (views nested self.modules) name None = λ nested. ap (views nested) c.in_ok-add.ensures ∙ views-added nested self.modules name None in
    let exports = c.replace-exports.ensures.after ∙ c.new.ensures in
    record {
      reads = λ nested i. record { name = name; context = context_of self.names.context; exports = exports i; modules = modules nested i };
      keeps = λ nested. outer-begun (reading_in nested self) name outer refl (sym c.replace-exports.ensures.value) c.in_ok-mark.ensures (c.len-modules.ensures ∙ sym (length-map self.modules _));
      numbered = λ count all. subst (AreEnded count) (sym c.in_ok-add.ensures) (ended-added count self.modules name None tt all);
    }
