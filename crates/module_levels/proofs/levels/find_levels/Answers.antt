use Rattle.std.proofs.Common.{ap, refl, sym}
use Rattle.indexmap.specs.IndexMap.{get_by_text}
use Rattle.unit_grammar.specs.UnitNodes.{module_of}
use Rattle.tree_names.specs.Parameters.{entries_in}
use Rattle.module_leads.specs.Leading.{leading_in}
use Rattle.unit_flattener.specs.Numbers.{file_faces}
use Rattle.module_levels.proofs.LeveledModules.{asked-walked, behind-walked, kept-between, known_files, leveled-walked}
use Rattle.module_levels.proofs.levels.find_levels.Goals as goal

pub flatten_module-requires-clause-ends : goal.flatten_module-requires-clause-ends
flatten_module-requires-clause-ends c =
    c.nested_modules_close.ensures.ends c.requires.front.0 c.args.tree.now.source (module_of c.args.tree.now) c.args.reader.scope.imported.now c.requires.front.1

pub flatten_module-requires-clause-begins : goal.flatten_module-requires-clause-begins
flatten_module-requires-clause-begins c =
    c.nested_modules_close.ensures.begins c.requires.front.0 c.args.tree.now.source (module_of c.args.tree.now) c.args.reader.scope.imported.now c.requires.front.1

pub judge-requires : goal.judge-requires
judge-requires c =
    let imports = c.args.reader.scope.imported.now in
    let made = c.in_ok-tables.field-0.tables in
    record {
      behind = behind-walked c.args.written.now c.args.tree.now.source (module_of c.args.tree.now) (file_faces (leading_in c.args.known.tables.leads).faces (get_by_text c.args.files.now)) (known_files imports) c.args.known made (entries_in c.args.symbols)
          c.args.is_constant c.in_ok-tables.field-0.face c.requires.kept (c.in_ok-tables.ensures (known_files imports) refl);
    }

pub returns-clause-kept : goal.returns-clause-kept
returns-clause-kept c =
    let imports = c.args.reader.scope.imported.now in
    let same = c.judge.ensures.tables in
    kept-between c.in_ok-tables.field-0.tables _ (ap (λ t. t.leads) same) (ap (λ t. t.state.flat) same) (ap (λ t. t.state.locals) same) (c.in_ok-tables.ensures (known_files imports) refl).between
    c.in_ok-found.ensures.ordered c.in_ok-found.ensures.facts c.in_ok-found.ensures.depths c.clear-2.ensures.items c.clear.ensures.items

pub returns-clause-leveled : goal.returns-clause-leveled
returns-clause-leveled c = λ outsides views.
    let source = c.args.tree.now.source in
    let units = module_of c.args.tree.now in
    let files = file_faces (leading_in c.args.known.tables.leads).faces (get_by_text c.args.files.now) in
    let made = c.in_ok-tables.field-0.tables in
    let face = c.in_ok-tables.field-0.face in
    let walked = c.in_ok-tables.ensures outsides views in
    let same = c.judge.ensures.tables in
    leveled-walked c.args.written.now source units files outsides c.args.known made (entries_in c.args.symbols) c.args.is_constant face c.requires.kept walked _ c.in_ok-found.found (ap (λ t. t.leads) (sym same)) (ap (λ t. t.state.flat) (sym same))
    (sym c.in_ok-found.ensures.face)
    (c.in_ok-found.ensures.found walked.asked
    (asked-walked c.args.written.now source units files outsides c.args.known made (entries_in c.args.symbols) c.args.is_constant face c.requires.kept walked))
