use Rattle.expr_parse.proofs.Turning.{end-none, end-some}
use Rattle.expr_parse.proofs.begins.end.Goals as goal

pub returns-in_default : goal.returns-in_default
returns-in_default c top below wait opens = end-none _ c.args.stack.now c.args.frame top below c.args.lexeme c.in_default.ensures wait

pub have-requires : goal.have-requires
have-requires c =
    let r = c.requires in
    let m = c.in_ok-part.ensures.made r.parts r.read r.below r.opens in
    record { frames = r.below; tree = _; spelled = r.read; stands = m.stands; is = m.is }

pub returns : goal.returns
returns c top below wait opens =
    let m = c.in_ok-part.ensures.made top.parts top.read below opens in
    end-some _ _ _ c.node.new.self c.have.new.stack c.args.frame _ _ c.in-Some.form top below c.args.lexeme c.in-Some.ensures wait m (c.in_ok-turn.ensures below _ top.read m.stands m.is)
