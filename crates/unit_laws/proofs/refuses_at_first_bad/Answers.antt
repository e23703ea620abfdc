use Rattle.unit_laws.proofs.FirstBad.{refused-first, first-refused}
use Rattle.unit_laws.proofs.refuses_at_first_bad.Goals as goal

pub returns : goal.returns
returns c = record { refused = refused-first; bad = first-refused }
