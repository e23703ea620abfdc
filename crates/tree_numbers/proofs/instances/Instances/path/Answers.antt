use Rattle.std.proofs.Common.{ℕ, ◌+◌, List, ◌++◌, ◌∷◌, [], drop, get_or, length, refl, sym, subst}
use Rattle.std.specs.List.{AllByRecursion}
use Rattle.list_laws.proofs.Lists.{all-both, all-weaker, rest-at}
use Rattle.tree_numbers.specs.Numbered.{IsFirst, IsInstance, IsSamePath}
use Rattle.kind_text.specs.FlatModule.{UsesInstance}
use Rattle.kind_table.specs.Flattened.{flat_of}
use Rattle.tree_numbers.proofs.Numbering.{instance-there, path-further}
use Rattle.tree_numbers.proofs.instances.Instances.path.Goals as goal

pub loop-instance-init : goal.loop-instance-init
loop-instance-init c =
    let flat = flat_of c.args.flat.now in
    let path = c.args.path.now in
    let there = all-weaker (UsesInstance flat (length c.args.numbers.now)) (IsInstance flat) (instance-there flat c.args.numbers.now c.requires.numbers) path c.requires.path in
    record {
      instances = c.requires.instances;
      kept = λ n first. first;
      same = subst (λ (xs : List ℕ). IsSamePath flat path (xs ++ path)) (sym c.in_ok-firsts.ensures.items) (record { there = there; same = refl });
      firsts = subst (AllByRecursion (IsFirst c.args.self.now.known.entries)) (sym c.in_ok-firsts.ensures.items) tt;
    }

pub loop-instance-preserved : goal.loop-instance-preserved
loop-instance-preserved c =
    let flat = flat_of c.args.flat.now in
    let path = c.args.path.now in
    let i = c.loop-instance.instance-index in
    let firsts = c.loop-instance.firsts.items in
    let first = c.in_ok-first.first in
    let behind = drop (i + 1) path in
    let kept = c.in_ok-first.ensures.kept in
    let known = c.first.new.self.known.entries in
    let before = all-weaker (IsFirst c.loop-instance.self.known.entries) (IsFirst known) kept firsts c.loop-instance.invariant.firsts in
    record {
      instances = c.in_ok-first.ensures.instances;
      kept = λ n met. kept n (c.loop-instance.invariant.kept n met);
      same = subst (λ xs. IsSamePath flat path (xs ++ behind)) (sym c.in_ok-push.ensures.items)
          (path-further flat path firsts (get_or path i 0) first behind
          (subst (λ xs. IsSamePath flat path (firsts ++ xs)) (rest-at path i 0 c.loop-instance-test.true) c.loop-instance.invariant.same) c.in_ok-first.ensures.same);
      firsts = subst (AllByRecursion (IsFirst known)) (sym c.in_ok-push.ensures.items) (all-both (IsFirst known) firsts (first ∷ []) before (c.in_ok-first.ensures.first, tt));
    }
