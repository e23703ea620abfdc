use Rattle.std.proofs.Common.{◌∙◌, ap}
use Rattle.module_model.specs.Exports.{exported}
use Rattle.module_model.specs.Instances.{brought_by}
use Rattle.module_model.specs.NamedModules.{unit_of}
use Rattle.instance_leads.specs.Found.{module_shown, unit_if}
use Rattle.name_exports.specs.Brought.{behind_through}
use Rattle.unit_scope.proofs.Onward.{named-here}
use Rattle.brought_entries.proofs.Listing.{brought-as}
use Rattle.brought_entries.proofs.modules.instance_entries.Goals as goal

pub returns : goal.returns
returns c = λ over state at.
    let read = c.args.reader.now in
    let text = c.args.text.now in
    let l = c.args.«module» in
    let shown = module_shown read.scope.nested.items c.named_module-named.result in
    let named = c.named_module-named.ensures.shown read.scope.nested.items ∙ (λ i. named-here text over read state at i (c.spelled-name.ensures i)) in
    let unit = c.in_ok-unit.ensures ∙ (λ i. unit_of text ((at.kept i).words) l) in
    let through = c.unit_where-through.ensures ∙ (λ i. unit_if (c.in_ok-parameters.ensures i) c.in_ok-unit.unit) in
    c.in_ok-found.ensures ∙ ap (λ u. behind_through u (exported shown)) through ∙ brought-as shown.parameters (exported shown) c.in_ok-unit.unit
    ∙ (λ i. brought_by (unit i) (named i))
