use Rattle.std.proofs.Common.{◌≤◌, ◌∙◌, subst, sym}
use Rattle.family_facts.specs.Verdicts.{AreDistinct, after_checks, checks_of, family_of}
use Rattle.family_tables.specs.Modules.{AreModules}
use Rattle.family_tables.proofs.Once.{modules-once}
use Rattle.family_tables.proofs.Read.{modules-some}
use Rattle.family_levels.specs.Telling.{AreFound}
use Rattle.family_levels.proofs.changing.find_family.Goals as goal

pub trees_of-requires-clause-once : goal.trees_of-requires-clause-once
trees_of-requires-clause-once g c = modules-once c.as_slice.result.now c.in_ok-modules.modules (subst AreDistinct (sym c.as_slice.ensures) c.requires.distinct) c.in_ok-modules.ensures

pub trees_of-requires-clause-read : goal.trees_of-requires-clause-read
trees_of-requires-clause-read g c = modules-some (family_of c.as_slice.result.now) c.in_ok-modules.modules c.in_ok-modules.ensures

pub find_modules-requires : goal.find_modules-requires
find_modules-requires g c = record {
  distinct = subst AreDistinct (sym c.as_slice-2.ensures) c.requires.distinct;
  modules = subst (λ files. AreModules (family_of files) c.in_ok-modules.modules) (c.as_slice.ensures ∙ sym c.as_slice-2.ensures) c.in_ok-modules.ensures;
  kept = c.in_ok-old.ensures.0;
  numbered = c.in_ok-old.ensures.1;
  held = c.in_ok-old.ensures.2;
}

pub read_family-requires-clause-distinct : goal.read_family-requires-clause-distinct
read_family-requires-clause-distinct g c = subst AreDistinct (sym c.as_slice.ensures) c.requires.distinct

pub invariant_of-result : goal.invariant_of-result
invariant_of-result g c = (c.in_ok-trees.ensures, subst (λ files. AreFound files c.in_ok-found.found) c.as_slice-2.ensures c.in_ok-found.ensures.found, c.in_ok-versions.ensures)

pub returns-clause-found : goal.returns-clause-found
returns-clause-found g c = subst (λ files. AreFound files c.in_ok-found.found) c.as_slice-2.ensures c.in_ok-found.ensures.found

pub returns-clause-steps : goal.returns-clause-steps
returns-clause-steps g c = subst (λ files. c.find_modules.new.steps ≤ after_checks (checks_of files) c.args.steps.now) c.as_slice-2.ensures c.in_ok-found.ensures.steps
