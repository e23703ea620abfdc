use Rattle.std.proofs.Common.{◌<◌, ◌≤◌, length, sym, subst, arith}
use Rattle.std.specs.List.{AllByRecursion}
use Rattle.kind_table.specs.Flattened.{first_node, flat_of, node_of}
use Rattle.kind_table.proofs.TableEntries.{node-read}
use Rattle.level_text.specs.LevelFaults.{parts_of}
use Rattle.found_levels.proofs.Covering.{parts-there, there-in}
use Rattle.found_levels.proofs.stretches.beginning.Goals as goal

pub returns-clause-begins : goal.returns-clause-begins
returns-clause-begins c =
    let t = c.args.flat.now in let m = flat_of t in let n = c.args.node in let here = c.index.result.now in let least = c.least_first.result in
    let there = there-in t n c.requires.there in let at = node-read t n here c.requires.there c.index.ensures in
    let first = c.first_node.ensures m c.requires.facts there in record {
      whole = omega (arith, c.least_first.ensures.least, c.min-first.ensures, first);
      parts = subst (λ o. AllByRecursion (λ i. least ≤ first_node m i) (parts_of o)) (sym at)
          (subst (AllByRecursion (λ i. least ≤ first_node m i)) c.deref.ensures.value
          (c.least_first.ensures.each m c.requires.facts
          (subst (AllByRecursion (λ i. i < length m.nodes)) (sym c.deref.ensures.value) (parts-there m n (node_of t.paths.items here) c.requires.ordered there at))));
    }

pub returns-clause-before : goal.returns-clause-before
returns-clause-before c = omega (arith, c.least_first.ensures.least, c.min-first.ensures)
