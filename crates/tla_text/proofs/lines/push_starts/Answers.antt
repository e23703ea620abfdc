use Rattle.std.proofs.Common.{◌++◌, sym, ap, ◌∙◌, arith}
use Rattle.tla_text.proofs.SpliceLemmas.{passed-all, passed-far}
use Rattle.tla_text.proofs.lines.push_starts.Goals as goal

pub returns-then-next-to : goal.returns-then-next-to
returns-then-next-to c =
    let far = passed-far c.ends.at c.args.to c.in-Some.before c.in-Some.byte c.args.text.now c.ends.rest.now c.in-Some.after.now c.ends.invariant.low c.ends.invariant.rest (c.in-Some.ensures.starts c.ends.at) (omega (arith, c.if-next-to.true)) in
    ap (λ l. c.ends.starts.items ++ l) (sym far) ∙ c.ends.invariant.starts

pub returns : goal.returns
returns c =
    let none = passed-all c.ends.at c.args.to c.args.text.now c.ends.rest.now c.ends.invariant.low c.ends.invariant.rest (c.in_default.ensures.starts c.ends.at) in
    ap (λ l. c.ends.starts.items ++ l) (sym none) ∙ c.ends.invariant.starts
