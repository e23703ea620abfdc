use Rattle.std.proofs.Common.{◌≡◌, None, take, sym, ap, ◌∙◌, arith}
use Rattle.tla_lexeme.specs.LexemeSets.{table_kind}
use Rattle.tla_lexeme.proofs.LongestLemmas.{longest_miss}
use Rattle.tla_lexeme.proofs.table.longest_spelled.Goals as goal

pub loop-len-preserved : goal.loop-len-preserved
loop-len-preserved c =
    let e : table_kind (take c.loop-len.len c.args.text.now) ≡ None = ap table_kind (sym c.prefix.ensures) ∙ sym c.in_default.ensures in (
      longest_miss table_kind c.loop-len.len c.args.text.now (omega arith) e ∙ c.loop-len.invariant.0,
      omega (arith, c.loop-len.invariant.1),
    )
