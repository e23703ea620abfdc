use Rattle.std.proofs.Common.{[], ◌∷◌, refl}
use Rattle.expr_grammar.specs.declared.wait.Start.TheVariants as Start
use Rattle.expr_parse.specs.declared.turn.Turn.TheVariants as Turn
use Rattle.expr_stack.proofs.Growing.{stands-grow}
use Rattle.expr_parse.proofs.Turning.{turns-still, turns-one, begin-by}
use Rattle.expr_parse.proofs.begins.begin.Goals as goal

pub returns-in_ok-part-in-Leaf : goal.returns-in_ok-part-in-Leaf
returns-in_ok-part-in-Leaf c top below stands =
    let a = c.in_ok-part-in-Leaf.ensures in
    begin-by _ _ c.args.stack.now _ top below c.args.lexeme c.args.start (Start.Leaf c.in-Leaf.form) c.in-Leaf.is
    (turns-one _ _ c.args.stack.now (Turn.Read c.in_ok-part-in-Leaf.part) _ a.grows a.one (stands-grow _ _ c.args.stack.now (top ∷ below) a.grows stands, a.is))

pub returns-in_ok-turn-in-Push : goal.returns-in_ok-turn-in-Push
returns-in_ok-turn-in-Push c top below stands =
    begin-by _ _ c.push.new.stack _ top below c.args.lexeme c.args.start (Start.Push c.in-Push.wait) c.in-Push.is
    (turns-still _ c.push.new.stack _ _ 0 (c.in_ok-turn-in-Push.ensures c.args.tree.now (top ∷ below) stands))

pub returns-in_ok-turn-in-PushLeaf : goal.returns-in_ok-turn-in-PushLeaf
returns-in_ok-turn-in-PushLeaf c top below stands =
    let a = c.in_ok-part-in-PushLeaf.ensures in
    begin-by _ _ c.push_part.new.stack _ top below c.args.lexeme c.args.start (Start.PushLeaf c.in-PushLeaf.form c.in-PushLeaf.wait) c.in-PushLeaf.is
    (turns-one _ _ c.push_part.new.stack _ _ a.grows a.one
    (c.in_ok-turn-in-PushLeaf.ensures c.leaf-in-PushLeaf.new.tree (top ∷ below) _ (c.args.lexeme ∷ []) (stands-grow _ _ c.args.stack.now (top ∷ below) a.grows stands) a.is))

pub returns-in_ok-turn-in-Hand : goal.returns-in_ok-turn-in-Hand
returns-in_ok-turn-in-Hand c top below stands =
    begin-by _ _ c.goes_on.new.stack _ top below c.args.lexeme c.args.start (Start.Hand c.in-Hand.kind) c.in-Hand.is
    (turns-still _ c.goes_on.new.stack _ _ 0
    (c.in_ok-turn-in-Hand.ensures c.args.tree.now [] [] (top ∷ below) (c.opening-opening.ensures c.args.tree.now (top ∷ below) [] stands refl)))

pub returns-in_ok-turn-in-NoStart : goal.returns-in_ok-turn-in-NoStart
returns-in_ok-turn-in-NoStart c top below stands =
    begin-by _ _ c.mark_top.new.stack _ top below c.args.lexeme c.args.start Start.NoStart c.in-NoStart.is (c.in_ok-turn-in-NoStart.ensures top below stands)
