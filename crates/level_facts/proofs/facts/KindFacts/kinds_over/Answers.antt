use Rattle.std.proofs.Common.{◌+◌, ◌∙◌, arith, map, subst, sym}
use Rattle.kind_table.specs.Flattened.{flat_of}
use Rattle.kind_table.specs.Table.{AllWithin}
use Rattle.kind_table.proofs.TableEntries.{nodes-long}
use Rattle.kind_table.proofs.Growth.{grows_on, meanings_on, within_on}
use Rattle.level_facts.specs.Facts.{argument_item}
use Rattle.level_facts.specs.Judged.{Found, Steps}
use Rattle.level_facts.proofs.Answering.{all_found_on, kinds_end, kinds_more, no_kinds, none_found}
use Rattle.level_facts.proofs.Picking.{found_more}
use Rattle.level_facts.proofs.facts.KindFacts.kinds_over.Goals as goal

pub loop-node-init : goal.loop-node-init
loop-node-init c =
    let m = flat_of c.args.flat.now in let added = c.in_ok-frame.ensures.added in record {
      facts = c.in_ok-frame.ensures.facts;
      within = added.within;
      meant = added.meant;
      found = none_found m c.numbers_of.new.facts.arguments.keys c.args.start c.in_ok-frame.frame.items c.in_ok-found.found.items c.in_ok-found.ensures.items;
      kinds = no_kinds m (map (argument_item m) c.args.arguments.now) c.args.start c.in_ok-kinds.kinds.items c.in_ok-kinds.ensures.items;
    }

pub step-requires : goal.step-requires
step-requires c =
    let m = flat_of c.args.flat.now in let inv = c.loop-node.invariant in let keys = c.loop-node.self.arguments.keys in
    let frame = c.in_ok-frame.frame.items in let is = sym c.deref-in-loop-node.ensures.value in record {
      ordered = c.requires.ordered;
      facts = inv.facts;
      node = let n = nodes-long c.args.flat.now in omega (arith, c.loop-node-test.true, c.requires.end, n);
      frame = subst (AllWithin keys) is inv.within;
      found = subst (λ x. Found m keys c.args.start c.loop-node.node x c.deref.result.now) is
          (subst (λ x. Found m keys c.args.start c.loop-node.node frame x) (sym c.deref.ensures.value) inv.found);
    }

pub loop-node-preserved : goal.loop-node-preserved
loop-node-preserved c =
    let m = flat_of c.args.flat.now in let inv = c.loop-node.invariant in let start = c.args.start in let node = c.loop-node.node in
    let frame = c.in_ok-frame.frame.items in let found = c.loop-node.found.items in let s = map (argument_item m) c.args.arguments.now in
    let steps = subst (λ x. Steps m c.loop-node.self.arguments.keys c.step.new.facts.arguments.keys start node x c.in_ok-n.n) c.deref-in-loop-node.ensures.value c.in_ok-n.ensures.steps in
    let w = within_on steps.grows frame inv.within in let g = c.in_ok-kind.ensures.grows in
    let more = found_more m start node frame found c.push.new.self.items c.in_ok-n.n inv.within inv.found steps c.in_ok-push.ensures.items in record {
      facts = c.in_ok-kind.ensures.facts;
      within = within_on g frame w;
      meant = meanings_on m (grows_on steps.grows g) frame inv.within ∙ inv.meant;
      found = all_found_on m start (node + 1) frame c.push.new.self.items g w more;
      kinds = kinds_more m start node frame s c.in_ok-n.n c.in_ok-kind.kind c.loop-node.kinds.items c.push-in-loop-node.new.self.items inv.within inv.meant steps g c.in_ok-kind.ensures.kind c.loop-node.auto.node inv.kinds c.in_ok-push-2.ensures.items;
    }

pub returns-clause-kinds : goal.returns-clause-kinds
returns-clause-kinds c =
    let m = flat_of c.args.flat.now in
    kinds_end m (map (argument_item m) c.args.arguments.now) c.args.start c.loop-node.node c.args.end c.loop-node.kinds.items
    (omega (arith, c.loop-node-test.false, c.loop-node.auto.node-end c.requires.start)) c.loop-node.invariant.kinds
