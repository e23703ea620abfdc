use Rattle.std.proofs.Common.{◌-◌, ◌<◌, None, arith, length}
use Rattle.kind_table.specs.declared.flat.Replacement.{Replacement}
use Rattle.tree_numbers.proofs.Finding.{replacements-alike, replacements-long}
use Rattle.tree_numbers.proofs.same.are_same_replacements.Goals as goal

pub returns-then-one-other-clause-found : goal.returns-then-one-other-clause-found
returns-then-one-other-clause-found c = λ flat told one other same. absurd (c.if-one-other.true (replacements-long flat c.args.one.now c.args.other.now same))

pub returns-then-not-is_same_replacement-clause-found : goal.returns-then-not-is_same_replacement-clause-found
returns-then-not-is_same_replacement-clause-found c = λ flat told one other same.
    let none : Replacement = record { root = 0; most = None } in
    let index = c.loop-index.index - 1 in
    let within : index < length c.args.one.now = omega (arith, c.loop-index-test.true, c.loop-index.invariant.within) in
    let alike = replacements-alike flat c.args.numbers.now c.args.one.now c.args.other.now index none none within one other same in
    c.if-not-is_same_replacement.ensures.found alike.most flat told alike.one alike.other alike.same
