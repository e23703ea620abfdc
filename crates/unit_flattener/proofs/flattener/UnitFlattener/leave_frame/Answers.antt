use Rattle.std.proofs.Common.{ℕ, ◌<◌, ◌∙◌, ap, length, refl, subst}
use Rattle.std.specs.Prelude.{false}
use Rattle.module_scope.specs.Environments.{ended}
use Rattle.tree_names.specs.Parameters.{entries_in}
use Rattle.module_leads.specs.Leading.{face_over, leading_in, left, with_face}
use Rattle.unit_flattener.specs.Scopes.{IsKept}
use Rattle.unit_flattener.proofs.Leaving.{frame-left}
use Rattle.unit_flattener.proofs.Results.{frame-is, last-holds, on-ok}
use Rattle.unit_flattener.proofs.flattener.UnitFlattener.leave_frame.Goals as goal

pub returns : goal.returns
returns c =
    let old = c.args.self.now in
    let frames = old.state.frames.items in
    let outer = c.in-Some.outer in
    let led = leading_in old.leads in
    let parameters = entries_in c.args.parameters in
    let entries = entries_in c.args.entries.now in
    let popped = c.in-Some.ensures.items in
    let there = last-holds (λ (number : ℕ). number < length frames) old.round.items c.pop.new.self.items outer popped c.requires.frames in
    let place = c.len-place.ensures ∙ ap (λ z. length z) (frame-is frames outer c.index.result.now there c.index.ensures) in
    on-ok c.leave-2.result c.leave-2.ensures (λ keeps.
    frame-left old _ parameters entries c.pop.new.self.items outer popped
    (record {
      leads = c.leave.ensures.known ∙ ap left c.in_ok-face.ensures.known ∙ ap (λ (n : ℕ). left (with_face led (face_over parameters n false entries led.leads))) place;
      sound = c.leave.ensures.sound c.in_ok-face.ensures.sound;
      modules = λ scope kept. subst (λ (n : ℕ). IsKept c.leave-2.new.self (ended n scope.here scope.round)) c.in_ok-face.ensures.number (keeps scope kept);
      frame = refl;
      round = refl;
      state = refl;
      reader = refl;
      files = refl;
      ahead = refl;
    }))
