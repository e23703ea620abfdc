use Rattle.std.proofs.Common.{◌≤◌, ◌∙◌, ap, arith, length, subst, sym}
use Rattle.std.specs.Prelude.{sum_by}
use Rattle.family_facts.specs.Verdicts.{AreDistinct, after_checks, checks_of, family_of}
use Rattle.family_facts.specs.declared.verdict.File.{File}
use Rattle.family_facts.proofs.Lists.{in-filter}
use Rattle.family_facts.proofs.Parts.{file-in, part, part-distinct, sum-part}
use Rattle.family_tables.specs.Modules.{AreModules}
use Rattle.family_tables.specs.Tables.{has_name}
use Rattle.family_tables.proofs.Once.{modules-once}
use Rattle.family_levels.specs.Telling.{AreFound}
use Rattle.family_levels.proofs.Reached.{reached-agree}
use Rattle.family_levels.proofs.Telling.{part-found}
use Rattle.family_levels.proofs.changing.find_reached.Goals as goal

pub plan_of-requires : goal.plan_of-requires
plan_of-requires g c = modules-once c.args.files.now c.args.modules.now c.requires.distinct c.requires.modules

pub reached_by-requires-clause-once : goal.reached_by-requires-clause-once
reached_by-requires-clause-once g c = modules-once c.args.files.now c.args.modules.now c.requires.distinct c.requires.modules

pub read_family-requires-clause-distinct : goal.read_family-requires-clause-distinct
read_family-requires-clause-distinct g c = subst AreDistinct (sym (c.as_slice.ensures ∙ c.in_ok-part.ensures)) (part-distinct (has_name c.in_ok-reached.reached) c.args.files.now c.requires.distinct)

pub read_family-requires-clause-small : goal.read_family-requires-clause-small
read_family-requires-clause-small g c =
    let size : File → _ = λ (file : File). length file.bytes in
    let less = sum-part size (λ (file : File). has_name c.in_ok-reached.reached file.name) c.args.files.now in
    let same = ap (λ files. sum_by size files) (c.as_slice.ensures ∙ c.in_ok-part.ensures) in
    omega (arith, less, same, c.requires.small)

pub find_modules-requires : goal.find_modules-requires
find_modules-requires g c = record {
  distinct = subst AreDistinct (sym (c.as_slice-2.ensures ∙ c.in_ok-part.ensures)) (part-distinct (has_name c.in_ok-reached.reached) c.args.files.now c.requires.distinct);
  modules = subst (λ files. AreModules (family_of files) c.in_ok-read.read) (c.as_slice.ensures ∙ sym c.as_slice-2.ensures) c.in_ok-read.ensures;
  kept = c.requires.held.0;
  numbered = c.requires.held.1;
  held = c.requires.held.2;
}

pub returns-clause-found : goal.returns-clause-found
returns-clause-found g c =
    let files = c.args.files.now in
    let reached = c.in_ok-reached.reached in
    part-found files (part (has_name reached) files c.requires.distinct) c.in_ok-found.found (has_name reached)
    (reached-agree c.one_front.ensures.same files c.requires.distinct c.args.modules.now c.requires.modules reached c.in_ok-reached.ensures.closed)
    c.args.names.now c.in_ok-reached.ensures.names (file-in (has_name reached) files c.requires.distinct)
    (subst (λ fs. AreFound fs c.in_ok-found.found) (c.as_slice-2.ensures ∙ c.in_ok-part.ensures) c.in_ok-found.ensures.found)

pub returns-clause-steps : goal.returns-clause-steps
returns-clause-steps g c =
    record {
      part = part (has_name c.in_ok-reached.reached) c.args.files.now c.requires.distinct;
      distinct = part-distinct (has_name c.in_ok-reached.reached) c.args.files.now c.requires.distinct;
      within = λ file h. (in-filter (λ (f : File). has_name c.in_ok-reached.reached f.name) c.args.files.now file h).0;
      most = subst (λ fs. c.find_modules.new.steps ≤ after_checks (checks_of fs) c.args.steps.now) (c.as_slice-2.ensures ∙ c.in_ok-part.ensures) c.in_ok-found.ensures.steps;
    }
