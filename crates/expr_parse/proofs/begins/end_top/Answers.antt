use Rattle.std.proofs.Common.{◌∷◌}
use Rattle.expr_parse.proofs.Turning.{open-top}
use Rattle.expr_parse.proofs.begins.end_top.Goals as goal

pub end-requires : goal.end-requires
end-requires c = open-top _ c.pop.new.self c.in-Some.frame c.requires.0 (c.in-Some.ensures.top _ c.requires.0 c.requires.1)

pub returns : goal.returns
returns c top below stands =
    let t = c.in-Some.ensures.top c.args.tree.now (top ∷ below) stands in
    c.in_ok-turn.ensures top below t.0 t.1
