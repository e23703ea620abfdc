use Rattle.std.proofs.Common.{◌<◌, refl, ap, ◌∙◌, length, Some, arith}
use Rattle.std.proofs.lemmas.Option.{slice_get_read}
use Rattle.index_graph.proofs.Reaching.{popped-has, search-skip, search-step, search-done}
use Rattle.index_graph.proofs.search.reached.Goals as goal

pub index-requires : goal.index-requires
index-requires c =
    let s = c.loop-index.invariant in
    let l : c.in-Some.index < length c.args.edges.now = s.within c.in-Some.index (popped-has c.args.edges.now c.args.start c.loop-index.seen.items c.loop-index.todo.items c.pop.new.self.items c.in-Some.index s c.in-Some.ensures.items) in
    omega (arith, l, s.long)

pub see-requires-clause-index : goal.see-requires-clause-index
see-requires-clause-index c =
    let s = c.loop-index.invariant in
    s.within c.in-Some.index (popped-has c.args.edges.now c.args.start c.loop-index.seen.items c.loop-index.todo.items c.pop.new.self.items c.in-Some.index s c.in-Some.ensures.items)

pub loop-index-smaller-in-Continue-branch-3 : goal.loop-index-smaller-in-Continue-branch-3
loop-index-smaller-in-Continue-branch-3 c =
    let s = c.loop-index.invariant in let index = c.in-Some.index in
    let l : index < length c.args.edges.now = s.within index (popped-has c.args.edges.now c.args.start c.loop-index.seen.items c.loop-index.todo.items c.pop.new.self.items index s c.in-Some.ensures.items) in
    let r = search-step c.args.edges.now c.args.start c.loop-index.seen.items c.see.new.seen.items c.loop-index.todo.items c.pop.new.self.items c.see.new.todo.items index s c.in-Some.ensures.items c.requires.indices
    (slice_get_read c.loop-index.seen.items (length c.loop-index.seen.items) index c.index.result.now refl (omega (arith, l, s.long)) c.index.ensures ∙ ap Some c.if-not-index.true) c.in_ok-see.ensures.seen c.in_ok-see.ensures.todo
    in
    r.smaller

pub loop-index-preserved-in-Continue-branch-3 : goal.loop-index-preserved-in-Continue-branch-3
loop-index-preserved-in-Continue-branch-3 c =
    let s = c.loop-index.invariant in let index = c.in-Some.index in
    let l : index < length c.args.edges.now = s.within index (popped-has c.args.edges.now c.args.start c.loop-index.seen.items c.loop-index.todo.items c.pop.new.self.items index s c.in-Some.ensures.items) in
    let r = search-step c.args.edges.now c.args.start c.loop-index.seen.items c.see.new.seen.items c.loop-index.todo.items c.pop.new.self.items c.see.new.todo.items index s c.in-Some.ensures.items c.requires.indices
    (slice_get_read c.loop-index.seen.items (length c.loop-index.seen.items) index c.index.result.now refl (omega (arith, l, s.long)) c.index.ensures ∙ ap Some c.if-not-index.true) c.in_ok-see.ensures.seen c.in_ok-see.ensures.todo
    in
    r.search

pub loop-index-preserved : goal.loop-index-preserved
loop-index-preserved c =
    let s = c.loop-index.invariant in let index = c.in-Some.index in
    let l : index < length c.args.edges.now = s.within index (popped-has c.args.edges.now c.args.start c.loop-index.seen.items c.loop-index.todo.items c.pop.new.self.items index s c.in-Some.ensures.items) in
    search-skip c.args.edges.now c.args.start c.loop-index.seen.items c.loop-index.todo.items c.pop.new.self.items index s c.in-Some.ensures.items
    (slice_get_read c.loop-index.seen.items (length c.loop-index.seen.items) index c.index.result.now refl (omega (arith, l, s.long)) c.index.ensures ∙ ap Some c.if-not-index.false)

pub returns : goal.returns
returns c = search-done c.args.edges.now c.args.start c.loop-index.seen.items c.loop-index.todo.items c.loop-index.invariant (omega (arith, c.in_default.ensures.cases.0, c.loop-index.todo.ok.0))
