use Rattle.std.proofs.Common.{[], ◌∷◌, refl}
use Rattle.std.proofs.lemmas.Result.{IfOk-weaker}
use Rattle.unit_steps.proofs.Stepping.{still}
use Rattle.unit_steps.proofs.moves.move_frame.Goals as goal

pub returns-in-Shift-clause-moves : goal.returns-in-Shift-clause-moves
returns-in-Shift-clause-moves c d us b fs f u i = rw c.in-Shift.is (still (u, c.reads.ensures _ f i))

pub returns-in-Leaf-clause-moves : goal.returns-in-Leaf-clause-moves
returns-in-Leaf-clause-moves c = rw c.in-Leaf.is c.take_leaf.ensures.moves

pub returns-in-LeafOf-clause-moves : goal.returns-in-LeafOf-clause-moves
returns-in-LeafOf-clause-moves c = rw c.in-LeafOf.is c.take_leaf-in-LeafOf.ensures.moves

pub returns-in-Push-clause-moves : goal.returns-in-Push-clause-moves
returns-in-Push-clause-moves c =
    rw c.in-Push.is (IfOk-weaker c.begin_part.result _ _ (λ moved h d us b fs f u i. still (h _ d us b fs f (c.args.lexeme ∷ []) u i refl)) c.begin_part.ensures.moves)

pub returns-in-Opens-clause-moves : goal.returns-in-Opens-clause-moves
returns-in-Opens-clause-moves c =
    rw c.in-Opens.is (IfOk-weaker c.begin_part-in-Opens.result _ _ (λ moved h d us b fs f u i. still (h _ d us b fs _ [] u (c.reads-in-Opens.ensures _ f i) refl)) c.begin_part-in-Opens.ensures.moves)

pub returns-in-Close-clause-moves : goal.returns-in-Close-clause-moves
returns-in-Close-clause-moves c = rw c.in-Close.is c.close.ensures.moves

pub returns-in-Expression-clause-moves : goal.returns-in-Expression-clause-moves
returns-in-Expression-clause-moves c =
    rw c.in-Expression.is (IfOk-weaker c.begin_expression.result _ _ (λ moved h d us b fs f u i. still (h _ d us b fs f u i)) c.begin_expression.ensures.moves)

pub returns-in-Bounds-clause-moves : goal.returns-in-Bounds-clause-moves
returns-in-Bounds-clause-moves c d us b fs f u i =
    rw c.in-Bounds.is (still (c.alone.ensures.under _ d us b fs u, c.reads-in-Bounds.ensures _ f i, refl, refl))
