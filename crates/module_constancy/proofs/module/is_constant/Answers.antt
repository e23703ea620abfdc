use Rattle.std.proofs.Common.{◌∙◌, [], ◌∷◌, None, ap, subst, sym}
use Rattle.std.specs.List.{AllByRecursion}
use Rattle.list_laws.proofs.Lists.{all-left}
use Rattle.tla_model.specs.Lexemes.{LiesIn, units_lexemes}
use Rattle.unit_grammar.specs.UnitNodes.{module_of}
use Rattle.module_kinds.specs.Constancy.{extends_constant}
use Rattle.module_constancy.specs.Places.{named_at}
use Rattle.module_constancy.proofs.Modules.{module-beyond}
use Rattle.module_constancy.proofs.UnitLexemes.{units-lie}
use Rattle.module_constancy.proofs.module.is_constant.Goals as goal

pub extends_constant-requires : goal.extends_constant-requires
extends_constant-requires g c =
    let units = module_of c.args.tree.now in
    let lies = LiesIn c.args.text.now.source in
    subst (AllByRecursion lies) (sym c.as_slice.ensures) (all-left lies units.extends (units_lexemes units.units) c.requires.lie.1)

pub returns-then-not-extends_constant : goal.returns-then-not-extends_constant
returns-then-not-extends_constant g c =
    let constant = g.F.Files.constant c.args.files.now in
    let text = c.args.text.now in
    let place = c.in_ok-place.place in
    module-beyond constant text c.args.tree.now.source (module_of c.args.tree.now) c.requires.text place (c.in_ok-place.ensures.modules ∙ ap (λ name. (name, None) ∷ []) c.file.ensures) c.in_ok-place.ensures.round c.extends_constant.result
    (c.extends_constant.ensures ∙ ap (extends_constant text.source (named_at constant place)) c.as_slice.ensures) c.if-not-extends_constant.true

pub are_constant_units-requires-clause-there : goal.are_constant_units-requires-clause-there
are_constant_units-requires-clause-there g c = subst (AllByRecursion _) (sym c.as_slice-2.ensures) c.requires.nodes

pub are_constant_units-requires-clause-lie : goal.are_constant_units-requires-clause-lie
are_constant_units-requires-clause-lie g c = units-lie (LiesIn c.args.text.now.source) c.args.tree.now c.as_slice-2.result.now c.as_slice-2.ensures c.requires.lie
