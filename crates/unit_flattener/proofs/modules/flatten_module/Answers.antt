use Rattle.std.proofs.Common.{◌∙◌, ap, map, refl, subst, sym}
use Rattle.indexmap.specs.IndexMap.{get_by_text}
use Rattle.std.specs.List.{AllByRecursion}
use Rattle.tla_tree.specs.Arena.{AreThere}
use Rattle.unit_grammar.specs.UnitNodes.{module_of, nodes_in, unit_at}
use Rattle.tla_model.specs.Lexemes.{LiesIn, unit_lexemes, units_lexemes}
use Rattle.list_laws.proofs.Lists.{all-left}
use Rattle.tree_names.specs.Parameters.{entries_in}
use Rattle.module_leads.specs.Leading.{face_over, leading_in, left, with_face}
use Rattle.unit_scope.proofs.Onward.{units-lie}
use Rattle.unit_flattener.specs.Walked.{ExtendsAll, WalksAll}
use Rattle.unit_flattener.specs.Walking.{IsBefore}
use Rattle.unit_flattener.proofs.Closing.{before-units, last-sound, module-walks}
use Rattle.unit_flattener.proofs.Opening.{opens, within-first}
use Rattle.unit_flattener.proofs.Results.{if-four}
use Rattle.unit_flattener.proofs.modules.flatten_module.Goals as goal

pub extend-requires-clause-within : goal.extend-requires-clause-within
extend-requires-clause-within c =
    within-first c.args.written.now.text.now c.args.reader.scope.imported.now c.args.tree.now.source (module_of c.args.tree.now) c.args.tables (get_by_text c.args.files.now) _ c.in_ok-walker.walker (
    opens c.args.written.now c.args.tree.now c.args.reader.scope.imported.now c.args.reader.scope.imported.now c.args.tables (get_by_text c.args.files.now) (entries_in c.args.symbols) c.file.result.now
    c.pass_extended.new.self c.args.own.items c.as_slice.result.now c.in_ok-walker.walker
    c.requires.text refl (c.as_slice.ensures ∙ c.in_ok-meanings.ensures) c.file.ensures c.requires.ends c.requires.between c.requires.files
    c.requires.own c.in_ok-pass_extended.ensures.state c.in_ok-walker.ensures.begun (λ name. ap (λ files. get_by_text files name) c.in_ok-walker.ensures.files))

pub extend-requires-clause-lie : goal.extend-requires-clause-lie
extend-requires-clause-lie c =
    let units = module_of c.args.tree.now in
    let lies = LiesIn c.args.written.now.text.now.source in
    subst (AllByRecursion lies) (sym c.as_slice-2.ensures) (all-left lies units.extends (units_lexemes units.units) c.requires.lie.1)

pub walk_all-requires-clause-before : goal.walk_all-requires-clause-before
walk_all-requires-clause-before c =
    subst (λ units. IsBefore c.args.written.now.text.now units c.extend.new.self) (sym (λ i. map (unit_at (c.requires.tree i)) (c.as_slice-units.ensures i)))
    (before-units c.args.written.now c.args.reader.scope.imported.now c.args.tree.now.source (module_of c.args.tree.now) c.args.tables (get_by_text c.args.files.now) (entries_in c.args.symbols) c.in_ok-walker.walker c.extend.new.self (
    opens c.args.written.now c.args.tree.now c.args.reader.scope.imported.now c.args.reader.scope.imported.now c.args.tables (get_by_text c.args.files.now) (entries_in c.args.symbols) c.file.result.now
    c.pass_extended.new.self c.args.own.items c.as_slice.result.now c.in_ok-walker.walker
    c.requires.text refl (c.as_slice.ensures ∙ c.in_ok-meanings.ensures) c.file.ensures c.requires.ends c.requires.between c.requires.files
    c.requires.own c.in_ok-pass_extended.ensures.state c.in_ok-walker.ensures.begun (λ name. ap (λ files. get_by_text files name) c.in_ok-walker.ensures.files))
    (subst (λ names. ExtendsAll c.args.written.now names c.in_ok-walker.walker c.extend.new.self) c.as_slice-2.ensures c.in_ok-extend.ensures.extended))

pub walk_all-requires-clause-there : goal.walk_all-requires-clause-there
walk_all-requires-clause-there c =
    subst (λ nodes. AllByRecursion (λ unit. AreThere nodes (nodes_in unit)) c.as_slice-units.result.now) (sym c.requires.tree) (subst (AllByRecursion _) (sym c.as_slice-units.ensures) c.requires.nodes)

pub walk_all-requires-clause-lie : goal.walk_all-requires-clause-lie
walk_all-requires-clause-lie c =
    subst (λ nodes. AllByRecursion (λ unit. AllByRecursion (LiesIn c.args.written.now.text.now.source) (unit_lexemes (unit_at nodes unit))) c.as_slice-units.result.now) (sym c.requires.tree)
    (units-lie (LiesIn c.args.written.now.text.now.source) c.args.tree.now c.as_slice-units.result.now c.as_slice-units.ensures c.requires.lie)

pub ended-requires : goal.ended-requires
ended-requires c =
    last-sound c.args.written.now c.args.reader.scope.imported.now c.args.tree.now.source (module_of c.args.tree.now) c.args.tables (get_by_text c.args.files.now) (entries_in c.args.symbols) c.in_ok-walker.walker c.extend.new.self (
    opens c.args.written.now c.args.tree.now c.args.reader.scope.imported.now c.args.reader.scope.imported.now c.args.tables (get_by_text c.args.files.now) (entries_in c.args.symbols) c.file.result.now
    c.pass_extended.new.self c.args.own.items c.as_slice.result.now c.in_ok-walker.walker
    c.requires.text refl (c.as_slice.ensures ∙ c.in_ok-meanings.ensures) c.file.ensures c.requires.ends c.requires.between c.requires.files
    c.requires.own c.in_ok-pass_extended.ensures.state c.in_ok-walker.ensures.begun (λ name. ap (λ files. get_by_text files name) c.in_ok-walker.ensures.files))
    (subst (λ names. ExtendsAll c.args.written.now names c.in_ok-walker.walker c.extend.new.self) c.as_slice-2.ensures c.in_ok-extend.ensures.extended) c.walk_all.new.self
    (subst (λ units. WalksAll c.args.written.now units c.extend.new.self c.walk_all.new.self) (λ i. map (unit_at (c.requires.tree i)) (c.as_slice-units.ensures i)) c.in_ok-walk_all.ensures)

pub returns : goal.returns
returns c =
    if-four c.ended.result c.ended.ensures.state c.ended.ensures.number c.ended.ensures.sound c.ended.ensures.known (λ made state number sound known.
    module-walks c.args.written.now c.args.reader.scope.imported.now c.args.tree.now.source (module_of c.args.tree.now) c.args.tables (get_by_text c.args.files.now) (entries_in c.args.symbols) c.in_ok-walker.walker c.extend.new.self (
    opens c.args.written.now c.args.tree.now c.args.reader.scope.imported.now c.args.reader.scope.imported.now c.args.tables (get_by_text c.args.files.now) (entries_in c.args.symbols) c.file.result.now
    c.pass_extended.new.self c.args.own.items c.as_slice.result.now c.in_ok-walker.walker
    c.requires.text refl (c.as_slice.ensures ∙ c.in_ok-meanings.ensures) c.file.ensures c.requires.ends c.requires.between c.requires.files
    c.requires.own c.in_ok-pass_extended.ensures.state c.in_ok-walker.ensures.begun (λ name. ap (λ files. get_by_text files name) c.in_ok-walker.ensures.files))
    (subst (λ names. ExtendsAll c.args.written.now names c.in_ok-walker.walker c.extend.new.self) c.as_slice-2.ensures c.in_ok-extend.ensures.extended) c.walk_all.new.self
    (subst (λ units. WalksAll c.args.written.now units c.extend.new.self c.walk_all.new.self) (λ i. map (unit_at (c.requires.tree i)) (c.as_slice-units.ensures i)) c.in_ok-walk_all.ensures)
    made.tables c.args.is_constant made.face c.requires.begins state number sound
    (known ∙ ap (λ entries. left (with_face (leading_in c.walk_all.new.self.leads) (face_over (entries_in c.args.symbols) 0 c.args.is_constant entries (leading_in c.walk_all.new.self.leads).leads))) c.requires.exports))
