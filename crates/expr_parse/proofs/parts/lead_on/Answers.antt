use Rattle.std.proofs.Common.{[], ◌∷◌, ◌++◌, refl, sym, subst}
use Rattle.expr_grammar.specs.Machine as machine
use Rattle.expr_grammar.specs.Counting as counting
use Rattle.expr_parse.specs.declared.turn.Turn.TheVariants as Turn
use Rattle.expr_parse.specs.TurnMeaning.{Turns}
use Rattle.expr_parse.proofs.Turning.{put-back, turns-still, turns-one}
use Rattle.expr_parse.proofs.Going.{opens-then}
use Rattle.expr_parse.proofs.parts.lead_on.Goals as goal

pub node-requires : goal.node-requires
node-requires c =
    let k = c.requires in
    let nodes = c.args.tree.now in
    let s = put-back nodes c.args.stack.now c.put.new.self c.args.frame k.frame k.below k.beside.wait k.beside.opens c.in_ok-put.ensures in
    record {
      parts = k.tree ∷ [];
      read = k.spelled ++ c.args.lexeme ∷ [];
      below = k.frame ∷ k.below;
      opens = opens-then nodes c.hold.new.self _ _ c.args.lexeme (k.tree ∷ []) [] k.spelled (k.frame ∷ k.below) c.reads-opening.ensures (c.in_ok-hold.ensures.more nodes [] [] (k.frame ∷ k.below) k.tree k.spelled (c.opening-opening.ensures nodes (k.frame ∷ k.below) [] s refl) k.beside.is);
    }

pub returns-in_ok-turn-in-Push : goal.returns-in_ok-turn-in-Push
returns-in_ok-turn-in-Push c frame below tree spelled b =
    let nodes = c.args.tree.now in
    let s = put-back nodes c.args.stack.now c.put.new.self c.args.frame frame below b.wait b.opens c.in_ok-put.ensures in
    let o = opens-then nodes c.hold.new.self _ _ c.args.lexeme (tree ∷ []) [] spelled (frame ∷ below) c.reads-opening.ensures (c.in_ok-hold.ensures.more nodes [] [] (frame ∷ below) tree spelled (c.opening-opening.ensures nodes (frame ∷ below) [] s refl) b.is) in
    subst (λ z. Turns nodes nodes c.goes_on.new.stack c.in_ok-turn-in-Push.turn (machine.led z frame below tree spelled c.args.lexeme) (counting.made_led z)) (sym c.in-Push.is)
    (turns-still nodes c.goes_on.new.stack _ _ 0 (c.in_ok-turn-in-Push.ensures nodes (tree ∷ []) (spelled ++ c.args.lexeme ∷ []) (frame ∷ below) o))

pub returns-in_ok-part-in-Node : goal.returns-in_ok-part-in-Node
returns-in_ok-part-in-Node c frame below tree spelled b =
    let nodes = c.args.tree.now in
    let s = put-back nodes c.args.stack.now c.put.new.self c.args.frame frame below b.wait b.opens c.in_ok-put.ensures in
    let o = opens-then nodes c.hold.new.self _ _ c.args.lexeme (tree ∷ []) [] spelled (frame ∷ below) c.reads-opening.ensures (c.in_ok-hold.ensures.more nodes [] [] (frame ∷ below) tree spelled (c.opening-opening.ensures nodes (frame ∷ below) [] s refl) b.is) in
    let m = c.in_ok-part-in-Node.ensures.made (tree ∷ []) (spelled ++ c.args.lexeme ∷ []) (frame ∷ below) o in
    subst (λ z. Turns nodes c.node.new.tree c.node.new.self (Turn.Read c.in_ok-part-in-Node.part) (machine.led z frame below tree spelled c.args.lexeme) (counting.made_led z)) (sym c.in-Node.is)
    (turns-one nodes c.node.new.tree c.node.new.self _ _ m.grows m.one (m.stands, m.is))
