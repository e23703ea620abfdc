use Rattle.std.proofs.Common.{subst, sym}
use Rattle.tla_text.specs.Places.{IsLongestUtf8}
use Rattle.tla_text.proofs.PlaceLemmas.{IsLongestUtf8-from}
use Rattle.tla_text.proofs.Text.read.Goals as goal

pub returns-in-Err : goal.returns-in-Err
returns-in-Err c = (c.in-Err.ensures.cases.0, subst (λ n. IsLongestUtf8 c.args.bytes.now n) (sym c.valid_up_to.ensures) (IsLongestUtf8-from c.args.bytes.now _ c.in-Err.ensures.cases.1))
