use Rattle.flattened_meanings.proofs.Meant.{definition-stands}
use Rattle.flattened_meanings.proofs.flattened_definitions_stand.Goals as goal

pub returns : goal.returns
returns c flat text known named means implied faces nameable layout setting seen x lead roots asked ordered round can made =
    definition-stands flat text known named means implied faces nameable ordered layout setting seen x lead roots asked round can made
