use Rattle.alike_modules.proofs.Finding.{refused-alike}
use Rattle.alike_modules.proofs.refused_modules_are_found_alike.Goals as goal

pub returns : goal.returns
returns c given others source units fault rest same first =
    refused-alike given others source units same fault rest first (c.views_are_given.ensures.itself given source units) (c.views_are_given.ensures.itself others source units)
