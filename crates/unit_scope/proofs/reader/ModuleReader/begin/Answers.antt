use Rattle.std.proofs.Common.{◌∙◌, ◌∷◌, ap, length, sym, subst}
use Rattle.module_model.specs.Modules.{begun_in}
use Rattle.unit_scope.specs.EnclosingReadings.{AreRound, IsOuter}
use Rattle.unit_scope.proofs.Growing.{last-first}
use Rattle.unit_scope.proofs.reader.ModuleReader.begin.Goals as goal

pub returns : goal.returns
returns c = λ text over state at.
    let name = c.args.name.now in
    let outer = c.in_ok-outer.outer in
    let entered = c.in_ok-outer.ensures in
    let nested = c.args.self.now.scope.nested.items in
    let begun = begun_in state.place.here name in
    record {
      here = entered.reads nested ∙ ap (λ r. begun_in r name) at.here;
      round = subst (λ z. AreRound begun.context begun.modules z (state.place.here ∷ state.place.round))
          (sym (last-first c.push.new.self.items c.args.self.now.round.items outer c.in_ok-push.ensures.items))
          (subst (λ r. IsOuter (begun_in r name).context (begun_in r name).modules outer r) at.here (entered.keeps nested), at.round);
      known = at.known;
      sound = at.sound;
      numbered = entered.numbered (length nested) at.numbered;
      title = at.title;
      kept = at.kept;
    }
