use Rattle.std.proofs.Common.{refl}
use Rattle.rpc_frame.proofs.OneReading.{given_fed, given_taken, message_or_none}
use Rattle.rpc_frame.proofs.laws.given_however_cut.Goals as goal

pub returns-clause-new : goal.returns-clause-new
returns-clause-new c = record { frames = refl; counted = refl }

pub returns-clause-fed : goal.returns-clause-fed
returns-clause-fed c = given_fed

pub returns-clause-taken : goal.returns-clause-taken
returns-clause-taken c = given_taken

pub returns-clause-all : goal.returns-clause-all
returns-clause-all c = λ old new a p. message_or_none old a new p
