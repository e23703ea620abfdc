use Rattle.std.proofs.Common.{inr}
use Rattle.given_depths.proofs.Seen.{seen-after, seen-first, seen-stays}
use Rattle.given_depths.proofs.seen_names_stay_deep.Goals as goal

pub returns-clause-first : goal.returns-clause-first
returns-clause-first c = λ declares given flat means implied faces files source units symbols plain declared gives all. seen-first declares given plain files source units symbols declared gives all

pub returns-clause-behind : goal.returns-clause-behind
returns-clause-behind c = λ declares given text files words state unit next seen plain declared keeps none names frame gives before.
    seen-after declares given plain text files words declared state seen before keeps.declared none unit next names frame gives

pub returns-clause-stays : goal.returns-clause-stays
returns-clause-stays c = λ given flat text means implied faces files words state unit seen gives before m is. inr (seen-stays given text files words state seen before unit gives m is)

pub returns-clause-exports : goal.returns-clause-exports
returns-clause-exports c = λ given state seen usable seen_used before name m there behind. before m (seen_used name m (usable name m there behind))
