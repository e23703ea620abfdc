use Rattle.std.proofs.Common.{◌∙◌, ◌∷◌, ◌++◌, [], ap, length, subst, sym}
use Rattle.std.specs.List.{AllByRecursion}
use Rattle.module_leads.specs.Layers.{HasSymbols, IsLayerWithin}
use Rattle.module_leads.proofs.Keyed.{own-none}
use Rattle.module_leads.proofs.Placed.{begun}
use Rattle.module_leads.proofs.Within.{all-more, none-within}
use Rattle.module_leads.proofs.leads.ModuleLeads.enter.Goals as goal

pub returns-clause-known : goal.returns-clause-known
returns-clause-known c =
    begun c.args.self.now.faces.items c.args.self.now.round.items c.push.new.self.items c.args.self.now.here c.swap.new.x c.args.own.now c.args.place
    (c.in_ok-push.ensures.items ∙ ap (λ layer. c.args.self.now.round.items ++ layer ∷ []) c.swap.ensures.y_after)
    (subst (λ layer. HasSymbols layer c.args.own.now c.args.place) (sym c.swap.ensures.x_after) c.in_ok-inner.ensures)

pub returns-clause-sound : goal.returns-clause-sound
returns-clause-sound c = λ sound. record {
  outer = subst (AllByRecursion (IsLayerWithin (length c.args.self.now.faces.items))) (sym (c.in_ok-push.ensures.items ∙ ap (λ layer. c.args.self.now.round.items ++ layer ∷ []) c.swap.ensures.y_after))
      (all-more (IsLayerWithin (length c.args.self.now.faces.items)) c.args.self.now.round.items c.args.self.now.here sound.outer sound.inner);
  inner = subst (IsLayerWithin (length c.args.self.now.faces.items)) (sym c.swap.ensures.x_after)
      (none-within (length c.args.self.now.faces.items) c.in_ok-inner.inner (own-none c.in_ok-inner.inner c.in_ok-inner.ensures.others c.in_ok-inner.ensures.brought));
}
