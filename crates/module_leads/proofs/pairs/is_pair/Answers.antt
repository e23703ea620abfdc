use Rattle.std.proofs.Common.{◌∙◌, sym}
use Rattle.module_leads.proofs.Pairing.{pair-among}
use Rattle.module_leads.proofs.pairs.is_pair.Goals as goal

pub returns-in-Some-Some : goal.returns-in-Some-Some
returns-in-Some-Some c = λ yes.
    pair-among c.args.known.now.keys c.in-Some-Some.one c.in-Some-Some.other c.args.one c.args.other c.in-Some-Some.is-0 c.in-Some-Some.is-1 (sym c.contains.ensures ∙ yes)
