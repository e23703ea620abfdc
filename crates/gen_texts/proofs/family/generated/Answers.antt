use Rattle.std.proofs.Common.{◌≤◌, ◌^◌, ◌*◌, ◌<◌, length, sum_by, sym, subst, arith, rules}
use Rattle.family_facts.specs.Verdicts.{AreDistinct}
use Rattle.family_facts.specs.declared.verdict.File.{File}
use Rattle.gen_texts.specs.Generated.{generated}
use Rattle.gen_texts.proofs.Files.{are-distinct, are-small}
use Rattle.gen_texts.proofs.family.generated.Goals as goal

pub returns-clause-distinct : goal.returns-clause-distinct
returns-clause-distinct c = subst AreDistinct (sym c.loop-number.invariant) (are-distinct c.loop-number.number (search rules))

pub returns-clause-small : goal.returns-clause-small
returns-clause-small c =
    let few : c.loop-number.number < 2 ^ 16 = search rules in
    let small : sum_by (λ (file : File). length file.bytes) (generated c.loop-number.number) ≤ c.loop-number.number * 256 = are-small c.loop-number.number few in
    subst (λ files. sum_by (λ (file : File). length file.bytes) files ≤ 2 ^ 24) (sym c.loop-number.invariant) (omega (arith, few, small))
