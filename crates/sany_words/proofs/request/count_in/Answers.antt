use Rattle.std.proofs.Common.{rules, sym, ◌∙◌}
use Rattle.sany_words.proofs.Counts.{counted, not-counted}
use Rattle.sany_words.proofs.request.count_in.Goals as goal

pub returns-in-Ok : goal.returns-in-Ok
returns-in-Ok c = counted c.args.text.now c.parse.result c.in-Ok.count (search rules) c.parse.ensures.value.0 c.in-Ok.is c.if-count-le-MOST_GENERATED.true

pub returns-in_default-2 : goal.returns-in_default-2
returns-in_default-2 c = not-counted c.args.text.now c.parse.result (search rules) c.parse.ensures.value.0 (λ n is few. let bad = sym c.in_default.is ∙ is in cc)
