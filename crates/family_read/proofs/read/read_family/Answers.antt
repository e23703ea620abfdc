use Rattle.std.proofs.Common.{subst, map}
use Rattle.family_tables.specs.Modules.{AreModules}
use Rattle.family_facts.specs.Verdicts.{member_of}
use Rattle.std_modules.specs.StdTexts.{std_names}
use Rattle.family_read.proofs.BuiltIn.{built-in-small}
use Rattle.family_facts.proofs.Once.{built-in-apart}
use Rattle.family_read.proofs.ModulesRead.{added-all}
use Rattle.family_read.proofs.read.read_family.Goals as goal

pub add_all-requires-clause-small : goal.add_all-requires-clause-small
add_all-requires-clause-small c = built-in-small

pub returns : goal.returns
returns c =
    let own = map member_of c.args.files.now in
    subst (λ members. AreModules members c.add_all.new.modules) (added-all own std_names built-in-apart) (c.in_ok-add_all.ensures own c.in_ok-modules.ensures)
