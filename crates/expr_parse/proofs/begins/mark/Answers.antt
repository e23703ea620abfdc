use Rattle.std.proofs.Common.{[], ◌∷◌, ◌++◌, refl}
use Rattle.expr_grammar.specs.declared.wait.MarkMove.TheVariants as MarkMove
use Rattle.expr_stack.proofs.Stacking.{opens-read}
use Rattle.expr_parse.proofs.Turning.{turns-still, put-back, mark-by}
use Rattle.expr_parse.proofs.begins.mark.Goals as goal

pub returns-in_ok-turn-in-Shift : goal.returns-in_ok-turn-in-Shift
returns-in_ok-turn-in-Shift c top below wait opens =
    mark-by _ _ c.goes_on.new.stack _ c.args.frame top below c.args.lexeme (MarkMove.Shift c.in-Shift.wait) c.in-Shift.ensures wait
    (turns-still _ c.goes_on.new.stack _ _ 0
    (c.in_ok-turn-in-Shift.ensures _ top.parts (top.read ++ c.args.lexeme ∷ []) below
    (opens-read c.args.tree.now c.args.stack.now c.args.frame.opening _ _ top.parts top.read below (c.args.lexeme ∷ []) c.reads.ensures refl opens)))

pub returns-in_ok-turn-in-Leaf : goal.returns-in_ok-turn-in-Leaf
returns-in_ok-turn-in-Leaf c top below wait opens =
    mark-by _ _ c.take_leaf.new.stack _ c.args.frame top below c.args.lexeme (MarkMove.Leaf c.in-Leaf.form c.in-Leaf.wait) c.in-Leaf.ensures wait
    (c.in_ok-turn-in-Leaf.ensures top.parts top.read below opens)

pub returns-in_ok-turn-in-LeafOf : goal.returns-in_ok-turn-in-LeafOf
returns-in_ok-turn-in-LeafOf c top below wait opens =
    mark-by _ _ c.take_leaf-in-LeafOf.new.stack _ c.args.frame top below c.args.lexeme (MarkMove.LeafOf c.in-LeafOf.form c.in-LeafOf.name c.in-LeafOf.wait) c.in-LeafOf.ensures wait
    (c.in_ok-turn-in-LeafOf.ensures top.parts top.read below opens)

pub returns-in_ok-turn-in-Push : goal.returns-in_ok-turn-in-Push
returns-in_ok-turn-in-Push c top below wait opens =
    mark-by _ _ c.push.new.stack _ c.args.frame top below c.args.lexeme (MarkMove.Push c.in-Push.wait) c.in-Push.ensures wait
    (turns-still _ c.push.new.stack _ _ 0
    (c.in_ok-turn-in-Push.ensures c.args.tree.now (top ∷ below) (put-back c.args.tree.now c.args.stack.now c.put.new.self c.args.frame top below wait opens c.in_ok-put-in-Push.ensures)))

pub returns-in_ok-turn-in-Hand : goal.returns-in_ok-turn-in-Hand
returns-in_ok-turn-in-Hand c top below wait opens =
    mark-by _ _ c.goes_on-in-Hand.new.stack _ c.args.frame top below c.args.lexeme (MarkMove.Hand c.in-Hand.kind) c.in-Hand.ensures wait
    (turns-still _ c.goes_on-in-Hand.new.stack _ _ 0 (c.in_ok-turn-in-Hand.ensures c.args.tree.now top.parts top.read below opens))

pub returns-in_ok-turn-in-Close : goal.returns-in_ok-turn-in-Close
returns-in_ok-turn-in-Close c top below wait opens =
    mark-by _ _ c.close_with.new.stack _ c.args.frame top below c.args.lexeme (MarkMove.Close c.in-Close.form) c.in-Close.ensures wait
    (c.in_ok-turn-in-Close.ensures top below opens)

pub returns-in_ok-turn-in-Refused : goal.returns-in_ok-turn-in-Refused
returns-in_ok-turn-in-Refused c top below wait opens =
    mark-by _ _ c.end.new.stack _ c.args.frame top below c.args.lexeme MarkMove.Refused c.in-Refused.ensures wait
    (c.in_ok-turn-in-Refused.ensures top below wait opens)
