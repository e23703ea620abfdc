use Rattle.std.proofs.Common.{[], ◌∷◌, refl}
use Rattle.expr_stack.proofs.Growing.{opens-grow}
use Rattle.expr_parse.proofs.Turning.{turns-one}
use Rattle.expr_parse.proofs.begins.take_leaf.Goals as goal

pub returns : goal.returns
returns c parts read below opens =
    let a = c.in_ok-part.ensures in
    let o = c.in_ok-opening.ensures.more c.leaf.new.tree parts read below _ (c.args.lexeme ∷ []) (opens-grow _ _ _ _ parts read below a.grows opens) (record { there = a.is.there; is = a.is.is; span = refl }) in
    turns-one _ _ c.goes_on.new.stack _ _ a.grows a.one (c.in_ok-turn.ensures _ _ _ below o)
