use Rattle.std.proofs.Common.{◌∙◌, ap, subst, sym}
use Rattle.std.specs.List.{All}
use Rattle.family_facts.specs.Verdicts.{after_checks, family_of}
use Rattle.family_tables.proofs.Once.{modules-once}
use Rattle.family_tables.proofs.Read.{checks-are, modules-some}
use Rattle.fact_lines.specs.Reports.{IsReportPlaced}
use Rattle.family_levels.proofs.Answering.{count-answer, reports-answer, verdicts-answer}
use Rattle.family_levels.proofs.family.check_modules.Goals as goal

pub plan_of-requires : goal.plan_of-requires
plan_of-requires g c = modules-once c.args.files.now c.args.modules.now c.requires.distinct c.requires.modules

pub level_all-requires-clause-once : goal.level_all-requires-clause-once
level_all-requires-clause-once g c = modules-once c.args.files.now c.args.modules.now c.requires.distinct c.requires.modules

pub level_all-requires-clause-read : goal.level_all-requires-clause-read
level_all-requires-clause-read g c = modules-some (family_of c.args.files.now) c.args.modules.now c.requires.modules

pub places_if-requires-clause-once : goal.places_if-requires-clause-once
places_if-requires-clause-once g c = modules-once c.args.files.now c.args.modules.now c.requires.distinct c.requires.modules

pub places_if-requires-clause-read : goal.places_if-requires-clause-read
places_if-requires-clause-read g c = modules-some (family_of c.args.files.now) c.args.modules.now c.requires.modules

pub returns-clause-reports : goal.returns-clause-reports
returns-clause-reports g c =
    let files = c.args.files.now in
    let modules = c.args.modules.now in
    let distinct = c.names_differ.ensures files c.requires.distinct in
    c.in_ok-reports.ensures
    ∙ reports-answer files c.in_ok-found.found (c.in_ok-found.ensures.outcomes (family_of files) distinct c.requires.modules) (c.in_ok-found.ensures.names (family_of files) distinct c.requires.modules) modules (λ u. c.places_are_declared.ensures (family_of files) modules u distinct c.requires.modules) c.args.facts c.in_ok-places.places c.in_ok-places.ensures c.in_ok-verdicts.verdicts
    (verdicts-answer files c.in_ok-found.found.outcomes (c.in_ok-found.ensures.outcomes (family_of files) distinct c.requires.modules) c.in_ok-verdicts.verdicts c.in_ok-verdicts.ensures)

pub returns-clause-use_count : goal.returns-clause-use_count
returns-clause-use_count g c =
    c.in_ok-use_count.ensures ∙ count-answer c.args.files.now c.in_ok-found.found (c.in_ok-found.ensures.outcomes (family_of c.args.files.now) (c.names_differ.ensures c.args.files.now c.requires.distinct) c.requires.modules) (c.in_ok-found.ensures.names (family_of c.args.files.now) (c.names_differ.ensures c.args.files.now c.requires.distinct) c.requires.modules)

pub returns-clause-placed : goal.returns-clause-placed
returns-clause-placed g c = subst (All IsReportPlaced) (sym (returns-clause-reports g c)) (c.reports_stand_in_text.ensures c.args.facts c.args.files.now c.args.modules.now c.requires.distinct c.requires.modules)

pub returns-clause-steps : goal.returns-clause-steps
returns-clause-steps g c = c.in_ok-found.ensures.all c.in_ok-none.ensures.none ∙ ap (λ n. after_checks n c.args.steps.now) (checks-are c.one_front.ensures.same c.args.files.now c.args.modules.now c.requires.modules)
