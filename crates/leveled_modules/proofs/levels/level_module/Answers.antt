use Rattle.std.proofs.Common.{◌∙◌, [], ap, reverse, subst, sym}
use Rattle.indexmap.specs.IndexMap.{get, get_by_text}
use Rattle.std.specs.Prelude.{nat_eq}
use Rattle.unit_grammar.specs.UnitNodes.{module_of}
use Rattle.module_model.specs.Exports.{ModuleView, exports_of, files_of}
use Rattle.module_model.specs.Resolution.{exports_in}
use Rattle.tree_names.specs.Parameters.{entries_in}
use Rattle.unit_scope.specs.Readings.{Over}
use Rattle.unit_scope.specs.Steps.{IsUnread}
use Rattle.module_levels.specs.Passed.{AreOwnOf}
use Rattle.leveled_modules.specs.Leveled.{faces_by}
use Rattle.leveled_modules.proofs.Leveling.{leveled-answer, listed-or-none}
use Rattle.leveled_modules.proofs.levels.level_module.Goals as goal

pub find_levels-made-requires-clause-unread : goal.find_levels-made-requires-clause-unread
find_levels-made-requires-clause-unread c =
    let at = c.in_ok-start.ensures.reader in
    subst (λ imports. IsUnread c.args.text.now imports (module_of c.args.tree.now) c.in_ok-start.start.reader) (sym (ap (λ (over : Over). over.imports) at.kept)) at

pub find_levels-made-requires-clause-own : goal.find_levels-made-requires-clause-own
find_levels-made-requires-clause-own c =
    let at = c.in_ok-start.ensures.reader in
    subst (λ imports. AreOwnOf c.args.text.now imports c.args.tree.now.source (module_of c.args.tree.now) (reverse c.in_ok-start.start.own.items)) (sym (ap (λ (over : Over). over.imports) at.kept)) c.in_ok-start.ensures.own

pub returns-clause-leveled : goal.returns-clause-leveled
returns-clause-leveled c =
    let start = c.in_ok-start.start in
    let says = c.in_ok-start.ensures in
    let names = c.requires.names in
    leveled-answer c.args.imported.now start.reader.scope.imported.now (faces_by c.args.known (get_by_text c.args.files.now)) c.args.tree.now.source (module_of c.args.tree.now) _ c.args.known (entries_in start.symbols) start.is_constant
    c.find_levels-made.result c.find_levels-made.ensures.leveled (ap (λ (over : Over). over.imports) says.reader.kept) names.means (λ place. listed-or-none (get nat_eq c.args.names.now.implied place) ∙ names.implied place)
    (says.symbols ∙ ap (λ (view : ModuleView). view.parameters) c.requires.face) says.constant

pub find_levels-made-requires-clause-exports : goal.find_levels-made-requires-clause-exports
find_levels-made-requires-clause-exports c =
    ap exports_of c.deref.ensures
    ∙ ap (λ (view : ModuleView). view.entries []) c.requires.face
    ∙ (λ i. exports_in (files_of ((sym (ap (λ (over : Over). over.imports) c.in_ok-start.ensures.reader.kept)) i)) c.args.tree.now.source (module_of c.args.tree.now))
