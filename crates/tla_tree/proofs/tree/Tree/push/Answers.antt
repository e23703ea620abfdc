use Rattle.std.proofs.Common.{rules, ◌<◌, ◌∙◌, ap, length}
use Rattle.std.proofs.lemmas.Result.{err_from_is_err_and}
use Rattle.tla_tree.specs.Stored.{highest_of}
use Rattle.tla_tree.specs.Syntax.{above}
use Rattle.tla_tree.proofs.Kept.{length-view, height-room, stored-more, added-stored, added-view, same-view}
use Rattle.tla_tree.proofs.tree.Tree.push.Goals as goal

pub highest_of-requires : goal.highest_of-requires
highest_of-requires c = rw (c.as_slice-nodes.ensures.value, length-view _ _ _ c.self.view_is) c.requires.there

pub height_above-height-requires : goal.height_above-height-requires
height_above-height-requires c =
    rw (c.highest_of.ensures, c.as_slice-nodes.ensures.value)
    (height-room _ _ _ c.args.children.now c.self.view_is c.self.invariant c.requires.there c.requires.room)

pub overflow_cast-number : goal.overflow_cast-number
overflow_cast-number c =
    let room : length c.self.inside.nodes.items < 4294967295 = rw (length-view _ _ _ c.self.view_is) c.requires.room in
    rw c.as_slice-nodes.ensures.value (search (rules, room))

pub invariant_of-self-in_err-push : goal.invariant_of-self-in_err-push
invariant_of-self-in_err-push c =
    rw (c.in_ok-extend_from_slice.ensures.items, c.in_err-push.ensures.items) (stored-more _ _ _ c.self.invariant)

pub returns-clause-number : goal.returns-clause-number
returns-clause-number c = rw c.as_slice-nodes.ensures.value (length-view _ _ _ c.self.view_is)

pub returns-in_err-push-clause-err : goal.returns-in_err-push-clause-err
returns-in_err-push-clause-err c =
    let p = err_from_is_err_and c.from_residual-in_err-push.result c.from_residual-in_err-push.ensures.1 in
    rw p.1 (same-view _ _ c.args.children.now _ _ _ c.self.view_is c.self.invariant c.in_ok-extend_from_slice.ensures.items c.in_err-push.ensures.items)

pub invariant_of-self-2 : goal.invariant_of-self-2
invariant_of-self-2 c =
    added-stored _ _ c.args.children.now _ _ _ _ c.self.view_is c.self.invariant c.requires.there c.in_ok-extend_from_slice.ensures.items c.in_ok-push.ensures.items
    (ap (λ n. length n) c.as_slice-first.ensures.value)
    (ap (λ n. length n) c.as_slice-end.ensures.value)
    (c.height_above-height.ensures ∙ ap (λ h. above c.args.form h) (c.highest_of.ensures ∙ ap (λ n. highest_of n c.args.children.now) c.as_slice-nodes.ensures.value))

pub returns-clause-ok : goal.returns-clause-ok
returns-clause-ok c =
    added-view _ _ c.args.children.now _ _ _ _ c.self.view_is c.self.invariant c.in_ok-extend_from_slice.ensures.items c.in_ok-push.ensures.items
    (ap (λ n. length n) c.as_slice-first.ensures.value)
    (ap (λ n. length n) c.as_slice-end.ensures.value)
