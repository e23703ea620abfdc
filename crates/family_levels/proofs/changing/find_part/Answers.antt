use Rattle.std.proofs.Common.{subst, sym}
use Rattle.family_facts.specs.Verdicts.{AreDistinct, family_of}
use Rattle.family_tables.proofs.Once.{modules-once}
use Rattle.family_tables.proofs.Read.{modules-some}
use Rattle.family_levels.specs.Telling.{AreFoundOf, HasChecked}
use Rattle.family_levels.proofs.changing.find_part.Goals as goal

pub trees_of-requires-clause-once : goal.trees_of-requires-clause-once
trees_of-requires-clause-once g c = modules-once c.as_slice.result.now c.in_ok-modules.modules (subst AreDistinct (sym c.as_slice.ensures) c.requires.distinct) c.in_ok-modules.ensures

pub trees_of-requires-clause-read : goal.trees_of-requires-clause-read
trees_of-requires-clause-read g c = modules-some (family_of c.as_slice.result.now) c.in_ok-modules.modules c.in_ok-modules.ensures

pub read_family-requires-clause-distinct : goal.read_family-requires-clause-distinct
read_family-requires-clause-distinct g c = subst AreDistinct (sym c.as_slice.ensures) c.requires.distinct

pub find_reached-requires-clause-distinct : goal.find_reached-requires-clause-distinct
find_reached-requires-clause-distinct g c = subst AreDistinct (sym c.as_slice-2.ensures) c.requires.distinct

pub returns-clause-found : goal.returns-clause-found
returns-clause-found g c = subst (λ ns. AreFoundOf ns c.args.files c.in_ok-found.found) c.as_slice-3.ensures (subst (λ fs. AreFoundOf c.as_slice-3.result.now fs c.in_ok-found.found) c.as_slice-2.ensures c.in_ok-found.ensures.found)

pub invariant_of-result : goal.invariant_of-result
invariant_of-result g c = (c.in_ok-trees.ensures, subst (λ ns. AreFoundOf ns c.args.files c.in_ok-found.found) c.as_slice-3.ensures (subst (λ fs. AreFoundOf c.as_slice-3.result.now fs c.in_ok-found.found) c.as_slice-2.ensures c.in_ok-found.ensures.found), c.in_ok-found.ensures.held)

pub returns-clause-steps : goal.returns-clause-steps
returns-clause-steps g c = subst (λ fs. HasChecked fs c.args.steps.now c.find_reached.new.steps) c.as_slice-2.ensures c.in_ok-found.ensures.steps
