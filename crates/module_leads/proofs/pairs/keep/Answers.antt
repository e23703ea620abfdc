use Rattle.module_leads.proofs.Pairing.{pair-added}
use Rattle.module_leads.proofs.pairs.keep.Goals as goal

pub returns-in_ok-insert : goal.returns-in_ok-insert
returns-in_ok-insert c =
    pair-added c.args.known.now.keys c.insert.new.self.keys c.in-Some-Some.one c.in-Some-Some.other c.args.one c.args.other c.in-Some-Some.is-0 c.in-Some-Some.is-1 c.in_ok-insert.ensures.keys
