use Rattle.indexmap.specs.IndexMap.{get_by_text}
use Rattle.family_levels.proofs.Anew.{judged-found}
use Rattle.family_levels.proofs.Exactly.{found-exact, imports-exact, imports-named, next-exact}
use Rattle.family_levels.proofs.Steps.{files-below, judged-over}
use Rattle.family_tables.specs.declared.reading.Reading.TheVariants as reading
use Rattle.family_levels.proofs.module.level_tree.Goals as goal

pub judge-requires-clause-files : goal.judge-requires-clause-files
judge-requires-clause-files g c = files-below c.args.known c.in_ok-imports.imports c.args.numbers.now (get_by_text c.in_ok-files.files) c.requires.numbers c.in_ok-files.ensures

pub exactly-requires-clause-over : goal.exactly-requires-clause-over
exactly-requires-clause-over g c = judged-over c.args.name.now c.args.tree.now c.in_ok-imports.imports (get_by_text c.in_ok-files.files) c.args.known c.in_ok-known.known c.in_ok-known.judged c.in_ok-known.ensures.judged

pub exactly-requires-clause-exact : goal.exactly-requires-clause-exact
exactly-requires-clause-exact g c = imports-exact c.args.outcomes.now c.in_ok-imports.imports c.requires.exact c.in_ok-imports.ensures.from

pub exactly-requires-clause-names : goal.exactly-requires-clause-names
exactly-requires-clause-names g c = imports-named c.args.needs.now c.in_ok-imports.imports c.in_ok-imports.ensures.only

pub returns-clause-next : goal.returns-clause-next
returns-clause-next g c =
    let judged = judged-found c.laws_below.ensures.known c.laws_below.ensures.family c.args.plan.now c.args.outcomes.now c.args.numbers.now c.args.known c.in_ok-known.known c.args.name.now c.requires.unfound c.requires.numbers c.requires.kept.ordered c.in_ok-known.ensures.kept.ordered
    c.args.tree.now c.args.needs.now c.in_ok-imports.imports c.in_ok-imports.ensures.told c.in_ok-imports.ensures.only c.in_ok-imports.ensures.from (get_by_text c.in_ok-files.files) c.in_ok-files.ensures c.in_ok-known.judged c.in_ok-known.ensures.judged in
    next-exact c.in_ok-known.judged c.in_ok-found.found c.in_ok-found.ensures c.args.plan.now c.args.outcomes.now c.requires.exact c.args.numbers.now c.args.name.now (reading.Tree c.args.tree.now) c.args.needs.now c.args.known c.in_ok-known.known judged

pub returns-clause-exact : goal.returns-clause-exact
returns-clause-exact g c = found-exact c.in_ok-known.judged c.in_ok-found.found c.in_ok-found.ensures
