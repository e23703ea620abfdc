use Rattle.std.proofs.Common.{ap, ◌∙◌, sym, refl, Some, arith}
use Rattle.std.proofs.lemmas.Option.{slice_get-get_or}
use Rattle.index_graph.proofs.Moves.{on-ok, opened-on, closed-on, joined-on}
use Rattle.index_graph.proofs.components.Walk.follow.Goals as goal

pub returns-in-New : goal.returns-in-New
returns-in-New c =
    let old = c.args.self.now in let e = c.open.ensures in let r = c.open.result in let w = c.requires.walk.walk_on in
    on-ok _ _ _ _ _ r e.marks e.path e.todo e.groups
    (λ em ep et eg. opened-on c.args.edges.now old c.open.new.self c.args.need c.requires.indices c.requires.walk (slice_get-get_or old.marks.items c.args.need c.index.result.now (omega (arith, c.requires.need, w.long)) ∙ ap Some (sym c.index.ensures ∙ c.in-New.is)) c.requires.need em ep et eg e.order e.cyclic e.numbers)

pub returns-in-Open : goal.returns-in-Open
returns-in-Open c =
    let old = c.args.self.now in let w = c.requires.walk.walk_on in
    joined-on c.args.edges.now old _ c.args.need c.requires.indices c.requires.walk c.in-Open.index (slice_get-get_or old.marks.items c.args.need c.index.result.now (omega (arith, c.requires.need, w.long)) ∙ ap Some (sym c.index.ensures ∙ c.in-Open.is)) c.join.ensures refl refl refl refl refl refl

pub returns-in-Closed : goal.returns-in-Closed
returns-in-Closed c =
    let old = c.args.self.now in let w = c.requires.walk.walk_on in
    closed-on c.args.edges.now old _ c.args.need c.requires.indices c.requires.walk (slice_get-get_or old.marks.items c.args.need c.index.result.now (omega (arith, c.requires.need, w.long)) ∙ ap Some (sym c.index.ensures ∙ c.in-Closed.is)) refl
