use Rattle.std.proofs.Common.{[], ◌∷◌, ◌++◌, arith}
use Rattle.expr_grammar.specs.Tables as tables
use Rattle.tree_parts.proofs.Growing.{grows-on}
use Rattle.expr_parse.proofs.Going.{opens-then}
use Rattle.expr_parse.proofs.parts.done.Goals as goal

pub node-requires : goal.node-requires
node-requires c =
    let k = c.requires in
    let v = c.in_ok-opening.ensures k.frame.parts k.frame.read k.below k.tree k.spelled k.beside.opens k.beside.is in
    record {
      parts = k.frame.parts ++ tables.converted c.args.conversion k.tree k.spelled;
      read = k.frame.read ++ (k.spelled ++ c.args.lexeme ∷ []);
      below = k.below;
      opens = opens-then _ c.convert.new.stack c.in_ok-opening.opening _ c.args.lexeme _ k.frame.read k.spelled k.below c.reads.ensures v.opens;
    }

pub returns : goal.returns
returns c frame below tree spelled b =
    let v = c.in_ok-opening.ensures frame.parts frame.read below tree spelled b.opens b.is in
    let o = opens-then _ c.convert.new.stack c.in_ok-opening.opening _ c.args.lexeme _ frame.read spelled below c.reads.ensures v.opens in
    let m = c.in_ok-whole.ensures.made _ _ below o in
    record {
      grows = grows-on _ _ _ v.grows m.grows;
      few = omega (arith, v.few, m.one);
      turned = c.in_ok-turn.ensures _ below _ _ m.stands m.is;
    }
