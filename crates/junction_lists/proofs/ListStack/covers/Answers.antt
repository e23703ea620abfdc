use Rattle.std.proofs.Common.{rules, ◌≡◌, ◌≤◌, ◌-◌, ◌+◌, ◌^◌, drop, length, ap, sym, subst, ◌∙◌, arith}
use Rattle.std.proofs.lemmas.List.{length-drop}
use Rattle.junction_lists.specs.OpenLists.{covered, IsNested}
use Rattle.junction_lists.proofs.Columns.{nested-few, stops-left, stops-outside}
use Rattle.junction_lists.proofs.ListStack.covers.Goals as goal
use Rattle.junction_lists.proofs.ListStack.covers.Goals.{then-loop-open-test+else-lists-open, else-loop-open-test}

pub overflow_cast-result : goal.overflow_cast-result
overflow_cast-result c =
    let few : length c.as_slice-lists.result.now + 0 ≤ 2 ^ 32 - 1 = rw c.as_slice-lists.ensures.value (nested-few 0 _ (omega arith) c.self.invariant) in
    search (rules, few)

split : (c : goal.Left-loop-open) → covered c.args.col c.as_slice-lists.result.now ≡ drop c.loop-open.«open» c.as_slice-lists.result.now
split c =
    let nested : IsNested 0 c.as_slice-lists.result.now = rw c.as_slice-lists.ensures.value c.self.invariant in
    elim c.loop-open-test.branch [
      | then-loop-open-test+else-lists-open w ↦ stops-left c.args.col c.as_slice-lists.result.now c.loop-open.«open» _ nested w.loop-open-test.true c.loop-open.invariant.0 w.if-lists-open.false c.loop-open.invariant.1
      | else-loop-open-test w ↦ stops-outside c.args.col c.as_slice-lists.result.now c.loop-open.«open» w.loop-open-test.false c.loop-open.invariant.1
    ]

pub returns-clause-count : goal.returns-clause-count
returns-clause-count c =
    let same : c.as_slice-lists.result.now ≡ c.args.self.now = c.as_slice-lists.ensures.value ∙ c.self.view_is in
    let e : length (covered c.args.col c.as_slice-lists.result.now) ≡ length c.as_slice-lists.result.now - c.loop-open.«open» =
    ap (λ xs. length xs) (split c) ∙ length-drop c.loop-open.«open» c.as_slice-lists.result.now
    in
    sym e ∙ ap (λ xs. length (covered c.args.col xs)) same

pub returns-clause-innermost : goal.returns-clause-innermost
returns-clause-innermost c =
    let same : c.as_slice-lists.result.now ≡ c.args.self.now = c.as_slice-lists.ensures.value ∙ c.self.view_is in
    let n : length c.as_slice-lists.result.now - (length c.as_slice-lists.result.now - c.loop-open.«open») ≡ c.loop-open.«open» = omega (arith, c.loop-open.invariant.0) in
    let e : covered c.args.col c.as_slice-lists.result.now ≡ drop (length c.as_slice-lists.result.now - (length c.as_slice-lists.result.now - c.loop-open.«open»)) c.as_slice-lists.result.now =
    split c ∙ ap (λ k. drop k c.as_slice-lists.result.now) (sym n)
    in
    subst (λ xs. covered c.args.col xs ≡ drop (length xs - (length c.as_slice-lists.result.now - c.loop-open.«open»)) xs) same e
