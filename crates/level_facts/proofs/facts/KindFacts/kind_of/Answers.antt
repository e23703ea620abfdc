use Rattle.std.proofs.Common.{ap, ◌∙◌}
use Rattle.kind_text.specs.ExpandedKind.{kind}
use Rattle.kind_text.specs.Expansion.{text_of}
use Rattle.kind_table.specs.Flattened.{flat_of}
use Rattle.kind_table.specs.Table.{meanings}
use Rattle.kind_table.proofs.Growth.{meanings_on}
use Rattle.level_facts.proofs.facts.KindFacts.kind_of.Goals as goal

pub returns-clause-kind : goal.returns-clause-kind
returns-clause-kind c = let m = flat_of c.args.flat.now in let added = c.in_ok-frame.ensures.added in
    c.in_ok-kind.ensures.kind ∙ ap (λ x. kind (text_of m c.args.definition (meanings m c.kind_on.new.facts.arguments.keys x))) c.deref.ensures.value
    ∙ ap (λ s. kind (text_of m c.args.definition s)) (meanings_on m c.in_ok-kind.ensures.grows c.in_ok-frame.frame.items added.within ∙ added.meant)
