use Rattle.std.proofs.Common.{ap, ◌∙◌, arith}
use Rattle.kind_table.specs.Flattened.{number_in}
use Rattle.level_facts.proofs.facts.KindFacts.first_node.Goals as goal

pub returns : goal.returns
returns c = λ flat h l.
    c.number_at.ensures ∙ ap (λ x. number_in x c.args.node) c.deref.ensures.value ∙ h.firsts.each c.args.node (omega (arith, h.firsts.long, l))
