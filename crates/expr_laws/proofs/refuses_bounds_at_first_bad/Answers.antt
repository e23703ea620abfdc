use Rattle.expr_laws.proofs.CompletingFirst.{bounds-refused-first, bounds-first-refused}
use Rattle.expr_laws.proofs.refuses_bounds_at_first_bad.Goals as goal

pub returns : goal.returns
returns c = record { refused = bounds-refused-first; bad = bounds-first-refused }
