use Rattle.std.proofs.Common.{◌≤◌, subst}
use Rattle.family_facts.specs.Verdicts.{after_checks, family_of}
use Rattle.family_tables.proofs.Once.{modules-once}
use Rattle.family_tables.proofs.Read.{checks-are, modules-some}
use Rattle.family_levels.proofs.changing.find_modules.Goals as goal

pub plan_of-requires : goal.plan_of-requires
plan_of-requires g c = modules-once c.args.files.now c.args.modules.now c.requires.distinct c.requires.modules

pub level_all-requires-clause-once : goal.level_all-requires-clause-once
level_all-requires-clause-once g c = modules-once c.args.files.now c.args.modules.now c.requires.distinct c.requires.modules

pub level_all-requires-clause-read : goal.level_all-requires-clause-read
level_all-requires-clause-read g c = modules-some (family_of c.args.files.now) c.args.modules.now c.requires.modules

pub returns-clause-found : goal.returns-clause-found
returns-clause-found g c =
    let files = c.args.files.now in
    let modules = c.args.modules.now in
    let differ = c.names_differ.ensures files c.requires.distinct in
    let found = c.in_ok-made.ensures in
    c.findings_stand_in_text.ensures files modules c.in_ok-made.made.0 c.requires.distinct c.requires.modules (found.outcomes (family_of files) differ c.requires.modules) (found.names (family_of files) differ c.requires.modules)

pub returns-clause-steps : goal.returns-clause-steps
returns-clause-steps g c =
    subst (λ n. c.level_all.new.steps ≤ after_checks n c.args.steps.now) (checks-are c.one_front.ensures.same c.args.files.now c.args.modules.now c.requires.modules) c.in_ok-made.ensures.most

pub returns-clause-held : goal.returns-clause-held
returns-clause-held g c = c.in_ok-made.ensures.held (family_of c.args.files.now) (c.names_differ.ensures c.args.files.now c.requires.distinct) c.requires.modules
