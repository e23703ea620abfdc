use Rattle.fact_store.proofs.Dirt.{carries-same}
use Rattle.fact_store.proofs.batch.put_last.Goals as goal

pub returns-then-has_text-clause-carries : goal.returns-then-has_text-clause-carries
returns-then-has_text-clause-carries g c = carries-same c.args.slots.now c.requires.sound.distinct
