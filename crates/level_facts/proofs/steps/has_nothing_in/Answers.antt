use Rattle.std.proofs.Common.{◌≡◌, true, false, sym, ap, ◌∙◌, arith}
use Rattle.std.specs.Prelude.{◌==◌}
use Rattle.std.proofs.lemmas.Bool.Decides.{nat_tests}
use Rattle.kind_table.proofs.Lookups.{instance_gone, instance_got}
use Rattle.level_facts.specs.Judged.{puts_nothing_in}
use Rattle.level_facts.proofs.Paths.{nothing_taken, something_taken}
use Rattle.level_facts.proofs.steps.has_nothing_in.Goals as goal

pub returns-in-None : goal.returns-in-None
returns-in-None c = sym (ap puts_nothing_in (instance_gone c.args.flat.now c.deref.result.now c.args.instance c.deref.ensures.value c.in-None.ensures.lookup.3))

pub returns-then-here-eq0 : goal.returns-then-here-eq0
returns-then-here-eq0 c =
    let got = instance_got c.args.flat.now c.deref.result.now c.args.instance c.in-Some.here.now c.deref.ensures.value c.in-Some.ensures.lookup.3.0 c.in-Some.ensures.lookup.1 in
    let none : (c.in-Some.here.now.parameters == 0) ≡ true = grind (arith, nat_tests) in
    c.is_empty.ensures ∙ ap (λ n. n == 0) c.in-Some.here.now.replacements.ok.0 ∙ nothing_taken c.in-Some.here.now none ∙ sym (ap puts_nothing_in got)

pub returns-else-here-eq0 : goal.returns-else-here-eq0
returns-else-here-eq0 c =
    let got = instance_got c.args.flat.now c.deref.result.now c.args.instance c.in-Some.here.now c.deref.ensures.value c.in-Some.ensures.lookup.3.0 c.in-Some.ensures.lookup.1 in
    let is : (c.in-Some.here.now.parameters == 0) ≡ false = grind (arith, nat_tests) in
    is ∙ something_taken c.in-Some.here.now is ∙ sym (ap puts_nothing_in got)
