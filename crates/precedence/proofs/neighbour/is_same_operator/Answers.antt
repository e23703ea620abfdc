use Rattle.std.proofs.Common.{rules, ◌≡◌, ap, sym, ◌∙◌}
use denote.Enum.Bare.{same_true, true_same}
use Rattle.tla_symbols.specs.contracts.op.Op as Op
use Rattle.tla_symbols.specs.contracts.place.Fix as Fix
use Rattle.precedence.proofs.neighbour.is_same_operator.Goals as goal

pub returns-then-eq : goal.returns-then-eq
returns-then-eq c =
    let op : c.args.one.op ≡ c.args.other.op = same_true Op.the_type (search rules) _ _ (sym c.eq.ensures ∙ c.if-eq.true) in
    (λ h. let fix : c.args.one.fix ≡ c.args.other.fix = same_true Fix.the_type (search rules) _ _ (sym c.eq-then-eq.ensures ∙ h) in λ i. record { op = op i; fix = fix i }, λ e. c.eq-then-eq.ensures ∙ true_same Fix.the_type _ _ (ap (λ operator. operator.fix) e))
