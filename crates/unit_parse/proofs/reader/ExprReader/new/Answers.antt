use Rattle.std.proofs.Common.{length, refl}
use Rattle.unit_parse.proofs.reader.ExprReader.new.Goals as goal

pub returns-clause-reading : goal.returns-clause-reading
returns-clause-reading c nodes = record { goal = c.new.ensures.goal; before = length nodes; has = c.new.ensures.read nodes; runs = refl; span = refl }
