use Rattle.family_levels.proofs.Numbering.{number-put}
use Rattle.family_levels.proofs.numbers.put_number.Goals as goal

pub returns : goal.returns
returns c = number-put c.args.files.now c.insert.new.self c.in_ok-name.name c.args.name.now c.args.number c.in_ok-name.ensures.ok c.in_ok-insert.ensures.updates
