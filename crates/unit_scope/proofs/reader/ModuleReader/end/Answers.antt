use Rattle.std.proofs.Common.{◌∙◌, ◌∷◌, ◌<◌, Some, ap, length, reverse, suc, subst, sym, arith}
use Rattle.std.specs.Str.{bytes_eq}
use Rattle.tla_model.specs.Tables.{added}
use Rattle.instance_scope.specs.Scoped.{known_of}
use Rattle.module_model.specs.Exports.{ModuleView, exports_of}
use Rattle.module_model.specs.Instances.{own_parameters}
use Rattle.module_model.specs.Given.{AreReached}
use Rattle.module_model.specs.Modules.{Reading}
use Rattle.unit_scope.specs.EnclosingReadings.{AreEnded, AreRound, IsOuter}
use Rattle.unit_scope.specs.Modules.{reading_in}
use Rattle.unit_scope.specs.declared.reading.Reading.{Reading as Read}
use Rattle.unit_scope.proofs.Growing.{last-first, outside-some}
use Rattle.unit_scope.proofs.Onward.{ended-here}
use Rattle.unit_scope.proofs.Taking.{ended-added, ended-more, views-stay}
use Rattle.unit_scope.proofs.reader.ModuleReader.end.Goals as goal

pub end-requires-clause-reached : goal.end-requires-clause-reached
end-requires-clause-reached c =
    let at = c.requires.at in
    let state = c.requires.state in
    subst (λ known. AreReached known (exports_of c.leave-exports.result.exports)) (sym at.known)
    (subst (λ table. AreReached state.known (exports_of table)) (sym (c.leave-exports.ensures.exports ∙ ap (λ (r : Reading). r.exports) at.here)) c.requires.settled.here)

pub returns-clause-state : goal.returns-clause-state
returns-clause-state c = λ over state at.
    let read = c.args.self.now in
    let outer = c.in-Some.outer in
    let rest = reverse c.pop.new.self.items in
    let popped = last-first read.round.items c.pop.new.self.items outer c.in-Some.ensures.items in
    let old = read.scope.nested.items in
    let new = c.end.new.self.nested.items in
    let left = c.leave-exports.ensures.left in
    let kept = c.in_ok-number.ensures in
    let here = state.place.here in
    let ended = left.numbered (length old) at.numbered in
    let after : Read = record { name = c.leave-exports.new.self.name; names = c.leave-exports.new.self.names; modules = c.add.new.self } in
    let stays = views-stay old new kept.kept.views c.leave-exports.new.self.modules ended in
    let last : c.in_ok-number.number < suc (length old) = let same = kept.number in omega (arith, same) in
    let outside = outside-some state.known here state.place.round outer rest (reading_in new after)
    (subst (λ z. AreRound here.context here.modules z state.place.round) popped at.round)
    (λ reading is.
    ended-here old new c.leave-exports.new.self c.add.new.self c.leave-exports.result.name.now c.leave-exports.result.exports c.in_ok-number.number state.known here reading
    (left.reads old reading (subst (λ r. IsOuter r.context r.modules outer reading) (sym at.here) is))
    c.in_ok-add.ensures stays (c.leave-exports.ensures.name ∙ ap (λ (r : Reading). r.name) at.here) (c.leave-exports.ensures.exports ∙ ap (λ (r : Reading). r.exports) at.here)
    (known_of read.scope) at.known kept.number kept.view) in
    record {
      here = outside.0;
      round = outside.1;
      known = kept.known ∙ at.known;
      sound = kept.sound;
      numbered = subst (AreEnded (length new)) (sym c.in_ok-add.ensures) (subst (λ n. AreEnded n (added bytes_eq c.leave-exports.new.self.modules c.leave-exports.result.name.now (Some c.in_ok-number.number))) (sym kept.kept.count) (ended-added (suc (length old)) c.leave-exports.new.self.modules c.leave-exports.result.name.now (Some c.in_ok-number.number) last (ended-more (length old) c.leave-exports.new.self.modules ended)));
      title = kept.kept.title ∙ at.title;
      kept = (λ i. record { imports = kept.kept.imported i; words = kept.kept.words i; paths = kept.kept.paths i }) ∙ at.kept;
    }

pub returns-clause-parameters : goal.returns-clause-parameters
returns-clause-parameters c = λ over state reading round at is.
    let read = c.args.self.now in
    let outer = c.in-Some.outer in
    let here = state.place.here in
    let popped = last-first read.round.items c.pop.new.self.items outer c.in-Some.ensures.items in
    let old = read.scope.nested.items in
    let round_there = subst (λ z. AreRound here.context here.modules z (reading ∷ round)) popped (subst (AreRound here.context here.modules (reverse read.round.items)) is at.round) in
    let left = c.leave-exports.ensures.left.reads old reading (subst (λ r. IsOuter r.context r.modules outer reading) (sym at.here) round_there.0) in
    let shown = c.leave-exports.ensures.exports ∙ ap (λ (r : Reading). r.exports) at.here in
    ap (λ (v : ModuleView). v.parameters) c.in_ok-number.ensures.view ∙ (λ i. own_parameters ((left i).context) (exports_of (shown i)))
