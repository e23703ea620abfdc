use Rattle.std.proofs.Common.{ap, ◌∙◌, refl, take, arith}
use Rattle.index_graph.proofs.Moves.{on-ok-five, need-within, is-popped, path-within, path-numbered, shut-on}
use Rattle.index_graph.proofs.components.Walk.step.Goals as goal

pub follow-requires-clause-need : goal.follow-requires-clause-need
follow-requires-clause-need c = need-within c.args.edges.now c.args.self.now c.requires.indices c.requires.walk c.args.top c.requires.top c.pop.new.self.items c.in-Some.need c.in-Some.ensures.items

pub follow-requires-clause-walk : goal.follow-requires-clause-walk
follow-requires-clause-walk c = is-popped c.args.edges.now c.args.self.now c.requires.indices c.requires.walk c.args.top c.requires.top _ c.in-Some.need (omega (arith, c.if-len-top.true, c.len.ensures, (c.args.self.now).todo.ok.0)) c.in-Some.ensures.items refl refl refl refl refl refl

pub close-requires-clause-marks : goal.close-requires-clause-marks
close-requires-clause-marks c = path-within c.args.edges.now c.args.self.now c.requires.indices c.requires.walk c.args.top c.requires.top

pub close-requires-clause-numbers : goal.close-requires-clause-numbers
close-requires-clause-numbers c = path-numbered c.args.edges.now c.args.self.now c.requires.indices c.requires.walk c.args.top c.requires.top

pub returns-else-len-top : goal.returns-else-len-top
returns-else-len-top c =
    let old = c.args.self.now in let e = c.close.ensures in let r = c.close.result in let t = c.requires.top in
    on-ok-five _ _ _ _ _ _ r e.marks e.path e.order e.cyclic e.numbers
    (λ em ep eo ec en. shut-on c.args.edges.now old c.requires.indices c.requires.walk c.args.top t c.close.new.self (omega (arith, c.if-len-top.false, c.len.ensures, old.todo.ok.0)) em ep e.todo (e.groups ∙ c.pop-else-len-top.ensures.rest ∙ ap (λ n. take n old.groups.items) (omega (arith, t.2, old.groups.ok.0))) eo ec en)
