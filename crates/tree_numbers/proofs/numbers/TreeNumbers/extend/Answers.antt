use Rattle.std.proofs.Common.{ℕ, ◌+◌, ◌≤◌, arith, ap, ◌∙◌, length, refl, subst, sym, take}
use Rattle.std.proofs.lemmas.List.{length_push, take-append-le}
use Rattle.kind_table.specs.Flattened.{flat_of}
use Rattle.resolved_trees.specs.Resolved.{resolved}
use Rattle.tree_numbers.specs.declared.numbers.TreeNumbers.{TreeNumbers}
use Rattle.tree_numbers.specs.Numbered.{AreApart, AreInstances, IsByNumbers, IsNumber, IsSameNode, NumberNodes}
use Rattle.tree_numbers.proofs.Growing.{keys-known, numbered-more, numbered-same}
use Rattle.tree_numbers.proofs.Sharing.{numbers-apart}
use Rattle.tree_numbers.proofs.numbers.TreeNumbers.extend.Goals as goal

pub key_of-requires-clause-numbers : goal.key_of-requires-clause-numbers
key_of-requires-clause-numbers c = subst (NumberNodes (flat_of c.args.flat.now)) (sym c.deref.ensures.value) c.loop-node.invariant.numbered.nodes

pub key_of-requires-clause-apart : goal.key_of-requires-clause-apart
key_of-requires-clause-apart c =
    let flat = flat_of c.args.flat.now in
    let inv = c.loop-node.invariant.numbered in
    subst (λ xs. AreApart (resolved flat) (IsNumber xs)) (sym c.deref.ensures.value) (numbers-apart flat c.loop-node.self.keys.entries c.loop-node.self.nodes.items inv.firsts inv.keys.apart)

pub returns-in_err-key-clause-numbered : goal.returns-in_err-key-clause-numbered
returns-in_err-key-clause-numbered c =
    let flat = flat_of c.args.flat.now in
    let was : TreeNumbers = c.loop-node.self in
    let now : TreeNumbers = record { nodes = was.nodes; keys = was.keys; instances = c.key_of.new.instances } in
    let right = c.loop-node.invariant.numbered in
    let kept = c.in_err-key.ensures.kept in
    let instances = subst (λ xs. AreInstances flat xs now.instances) c.deref.ensures.value c.in_err-key.ensures.instances in
    numbered-same flat was now right instances kept (keys-known flat was now right instances kept) (λ n first. first) refl

pub returns-in_err-first-clause-numbered : goal.returns-in_err-first-clause-numbered
returns-in_err-first-clause-numbered c =
    let flat = flat_of c.args.flat.now in
    let was : TreeNumbers = c.loop-node.self in
    let now : TreeNumbers = record { nodes = was.nodes; keys = c.first_with.new.keys; instances = c.key_of.new.instances } in
    let right = c.loop-node.invariant.numbered in
    let kept = c.in_ok-key.ensures.kept in
    let known = now.instances.known.entries in
    let instances = subst (λ xs. AreInstances flat xs now.instances) c.deref.ensures.value c.in_ok-key.ensures.instances in
    let by_numbers = subst (λ xs. IsByNumbers xs known c.in_ok-key.key) c.deref.ensures.value c.in_ok-key.ensures.by_numbers in
    let keys = c.in_err-first.ensures.keys was.nodes.items known (numbers-apart flat was.keys.entries was.nodes.items right.firsts right.keys.apart) instances.known by_numbers (keys-known flat was now right instances kept) in
    numbered-same flat was now right instances kept keys c.in_err-first.ensures.kept refl

pub returns-in_err-push-clause-numbered : goal.returns-in_err-push-clause-numbered
returns-in_err-push-clause-numbered c =
    let flat = flat_of c.args.flat.now in
    let was : TreeNumbers = c.loop-node.self in
    let now : TreeNumbers = record { nodes = c.push.new.self; keys = c.first_with.new.keys; instances = c.key_of.new.instances } in
    let right = c.loop-node.invariant.numbered in
    let kept = c.in_ok-key.ensures.kept in
    let known = now.instances.known.entries in
    let instances = subst (λ xs. AreInstances flat xs now.instances) c.deref.ensures.value c.in_ok-key.ensures.instances in
    let by_numbers = subst (λ xs. IsByNumbers xs known c.in_ok-key.key) c.deref.ensures.value c.in_ok-key.ensures.by_numbers in
    let keys = c.in_ok-first.ensures.keys was.nodes.items known (numbers-apart flat was.keys.entries was.nodes.items right.firsts right.keys.apart) instances.known by_numbers (keys-known flat was now right instances kept) in
    numbered-same flat was now right instances kept keys c.in_ok-first.ensures.kept c.in_err-push.ensures.items

pub loop-node-preserved : goal.loop-node-preserved
loop-node-preserved c =
    let flat = flat_of c.args.flat.now in
    let was : TreeNumbers = c.loop-node.self in
    let now : TreeNumbers = record { nodes = c.push.new.self; keys = c.first_with.new.keys; instances = c.key_of.new.instances } in
    let inv = c.loop-node.invariant in
    let right = inv.numbered in
    let kept = c.in_ok-key.ensures.kept in
    let known = now.instances.known.entries in
    let old = c.args.self.now.nodes.items in
    let numbers = was.nodes.items in
    let first = c.in_ok-first.first in
    let instances = subst (λ xs. AreInstances flat xs now.instances) c.deref.ensures.value c.in_ok-key.ensures.instances in
    let by_numbers = subst (λ xs. IsByNumbers xs known c.in_ok-key.key) c.deref.ensures.value c.in_ok-key.ensures.by_numbers in
    let keys = c.in_ok-first.ensures.keys numbers known (numbers-apart flat was.keys.entries numbers right.firsts right.keys.apart) instances.known by_numbers (keys-known flat was now right instances kept) in
    let same = subst (λ i. IsSameNode flat i first) (sym inv.long) c.in_ok-first.ensures.same in
    let within : length old ≤ length numbers = omega (arith, c.loop-node.auto.node, c.len-node.ensures, c.args.self.now.nodes.ok.0, inv.long) in
    record {
      long = ap length c.in_ok-push.ensures.items ∙ length_push numbers first ∙ ap (λ (n : ℕ). n + 1) inv.long;
      numbered = numbered-more flat was now right instances kept keys c.in_ok-first.ensures.kept first c.in_ok-push.ensures.items c.in_ok-first.ensures.first same;
      kept = ap (take (length old)) c.in_ok-push.ensures.items ∙ take-append-le (length old) numbers _ within ∙ inv.kept;
    }
