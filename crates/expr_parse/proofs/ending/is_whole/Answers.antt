use Rattle.std.proofs.Common.{ap, subst, ◌∙◌}
use Rattle.std.specs.Prelude.{reverse}
use Rattle.expr_parse.specs.Ending.{all_end}
use Rattle.expr_parse.specs.TurnMeaning.{IsTurn}
use Rattle.expr_parse.proofs.Closing.{read-whole, due-whole-state, refused-whole, turn-ready}
use Rattle.expr_parse.proofs.ending.is_whole.Goals as goal

pub returns-in-Refused : goal.returns-in-Refused
returns-in-Refused c state turn = refused-whole c.args.goal c.args.tree.now c.args.stack.now state (subst (λ z. IsTurn c.args.tree.now c.args.stack.now z state) c.in-Refused.is turn)

pub returns-in-Due : goal.returns-in-Due
returns-in-Due c state turn =
    due-whole-state c.args.goal c.args.tree.now c.args.stack.now state _ (subst (λ z. IsTurn c.args.tree.now c.args.stack.now z state) c.in-Due.is turn) (c.is_whole_due.ensures c.args.tree.now)

pub shape-requires : goal.shape-requires
shape-requires c =
    let r = turn-ready _ c.args.stack.now c.in-Read.part c.requires.0 (subst (λ z. IsTurn c.args.tree.now c.args.stack.now z c.requires.0) c.in-Read.is c.requires.1) in
    r.is.there

pub returns-in-Read : goal.returns-in-Read
returns-in-Read c state turn =
    read-whole c.args.goal c.args.tree.now c.args.stack.now c.in-Read.part state _ _
    (subst (λ z. IsTurn c.args.tree.now c.args.stack.now z state) c.in-Read.is turn) c.shape.ensures
    (c.all_end.ensures ∙ ap (λ z. all_end c.args.goal (reverse z) c.shape.result) c.frames.ensures)
