use Rattle.std.proofs.Common.{[], ◌∷◌, ◌++◌, refl, arith}
use Rattle.expr_stack.proofs.Stacking.{opens-read}
use Rattle.expr_parse.proofs.begins.close_with.Goals as goal

pub node-requires : goal.node-requires
node-requires c =
    let r = c.requires in
    record {
      parts = r.parts;
      read = r.read ++ c.args.lexeme ∷ [];
      below = r.below;
      opens = opens-read _ c.args.stack.now c.args.opening _ _ r.parts r.read r.below (c.args.lexeme ∷ []) c.reads.ensures refl r.opens;
    }

pub returns : goal.returns
returns c frame below opens =
    let o = opens-read _ c.args.stack.now c.args.opening _ _ frame.parts frame.read below (c.args.lexeme ∷ []) c.reads.ensures refl opens in
    let m = c.in_ok-part.ensures.made frame.parts (frame.read ++ c.args.lexeme ∷ []) below o in
    record { grows = m.grows; few = omega (arith, m.one); turned = c.in_ok-turn.ensures _ below _ _ m.stands m.is }
