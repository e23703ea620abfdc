use Rattle.std.proofs.Common.{◌++◌, ◌∙◌, ap, length, refl, subst}
use Rattle.tree_flattener.specs.Steps.{AddsFrame}
use Rattle.module_leads.specs.Leading.{entered, leading_in}
use Rattle.unit_flattener.proofs.Results.{frame-is}
use Rattle.unit_flattener.proofs.flattener.UnitFlattener.enter_frame.Goals as goal

pub returns : goal.returns
returns c =
    let old = c.args.self.now in
    let frames = old.state.frames.items in
    let own = c.args.own.now in
    record {
      leads = c.in_ok-enter.ensures.known ∙ ap (entered (leading_in old.leads) own) (c.len-place.ensures ∙ ap (λ z. length z) (frame-is frames old.frame c.index-2.result.now c.requires c.index-2.ensures));
      sound = c.in_ok-enter.ensures.sound;
      state = subst (λ symbols. AddsFrame old.state c.add_frame.new.state symbols c.in_ok-inner.inner)
          (c.in_ok-symbols.ensures ∙ ap (λ first. first ++ own) (c.as_slice.ensures ∙ frame-is frames old.frame c.index.result.now c.requires c.index.ensures))
          c.in_ok-inner.ensures;
      round = c.in_ok-push.ensures.items;
      reader = refl;
      files = refl;
      modules = refl;
      ahead = refl;
    }
