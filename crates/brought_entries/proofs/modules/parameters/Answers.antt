use Rattle.std.proofs.Common.{◌∙◌}
use Rattle.unit_scope.proofs.Onward.{named-here}
use Rattle.brought_entries.proofs.modules.parameters.Goals as goal

pub returns : goal.returns
returns c = λ text over state at.
    let read = c.args.reader.now in
    let named = c.named_module-named.ensures.shown read.scope.nested.items ∙ (λ i. named-here text over read state at i c.args.name.now) in
    c.in_ok-found.ensures ∙ (λ i. (named i).parameters)
