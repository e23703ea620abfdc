use Rattle.std.proofs.Common.{◌+◌, length, arith, refl, ap, sym, subst}
use Rattle.std.proofs.lemmas.Bool.Decides.{nat_tests}
use Rattle.unit_machine.specs.Machine.{opening}
use Rattle.unit_parse.specs.NodeCounts.{IsFew, IsFewMoved}
use Rattle.unit_parse.proofs.Parsing.{reads-next, refuses-next, read-all, read-whole}
use Rattle.unit_parse.proofs.parse.parse_module.Goals as goal

pub loop-index-init : goal.loop-index-init
loop-index-init c = record { read = record { st = opening; runs = refl; is = c.opening-state.ensures.stands _ }; few = subst (λ z. IsFew z c.opening-state.result 0) (sym c.new-tree.ensures) c.opening-state.ensures.few }

pub returns-in_default-moved-clause-err : goal.returns-in_default-moved-clause-err
returns-in_default-moved-clause-err c =
    let h = c.loop-index.invariant.read in
    refuses-next _ _ c.loop-index.state c.in-Ok.moved _ c.args.lexemes.now c.loop-index.index _ c.as_slice-lexeme-items.ensures (grind (arith, nat_tests, c.loop-index-test.true)) h c.in_default-moved.is (c.in-Ok.ensures.moves h.st h.is)

pub loop-index-preserved : goal.loop-index-preserved
loop-index-preserved c =
    let h = c.loop-index.invariant.read in
    record {
      read = reads-next _ _ c.loop-index.state c.in-Some.next c.in-Ok.moved _ c.args.lexemes.now c.loop-index.index _ c.as_slice-lexeme-items.ensures (grind (arith, nat_tests, c.loop-index-test.true)) h c.in-Some.is (c.in-Ok.ensures.moves h.st h.is);
      few = subst (λ z. IsFewMoved c.step.new.tree z (c.loop-index.index + 1)) c.in-Some.is (c.in-Ok.ensures.few c.loop-index.index c.loop-index.invariant.few);
    }

pub closed-requires : goal.closed-requires
closed-requires c =
    let h = read-all _ c.loop-index.state _ c.loop-index.index (grind (arith, nat_tests, c.loop-index-test.false)) c.loop-index.invariant.read in
    let k = read-whole _ _ _ c.requires.ends h in
    (h.st, k.0, h.is, k.1)

pub returns-clause-ok : goal.returns-clause-ok
returns-clause-ok c =
    let h = read-all _ c.loop-index.state _ c.loop-index.index (grind (arith, nat_tests, c.loop-index-test.false)) c.loop-index.invariant.read in
    let k = read-whole _ _ _ c.requires.ends h in
    (k.0, k.2, c.in-Ok-closed.ensures.ok h.st k.0 h.is k.1)

pub returns-clause-few : goal.returns-clause-few
returns-clause-few c =
    let n = ap length c.as_slice-lexeme-items.ensures in
    let k = c.in-Ok-closed.ensures.few c.loop-index.index c.loop-index.invariant.few in
    let m = c.loop-index.auto.index-end in
    omega (arith, n, k, m)
