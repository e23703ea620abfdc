use Rattle.std.proofs.Common.{[], ◌∷◌, ◌++◌, subst, sym}
use Rattle.expr_parse.specs.Ending.{IsGoal}
use Rattle.expr_parse.proofs.Answering.{bounds-node}
use Rattle.expr_parse.proofs.ending.whole.Goals as goal

pub returns-in_ok-bounds-in-Bounds : goal.returns-in_ok-bounds-in-Bounds
returns-in_ok-bounds-in-Bounds c frame last spelled stands is =
    let t = c.in-Some.ensures.top c.args.tree.now (frame ∷ []) stands in
    subst (λ g. IsGoal c.args.tree.now c.close.new.tree c.in_ok-bounds-in-Bounds.bounds.node g frame last) (sym c.in-Bounds.is)
    (bounds-node _ _ c.close.new.self _ frame last (frame.read ++ spelled) [] (c.in_ok-bounds-in-Bounds.ensures.made frame.parts frame.read [] last spelled t.1 is))
