use Rattle.std.proofs.Common.{◌≡◌, ◌++◌, ◌∙◌, ap}
use mathlib.Core.Path.{fun_ext}
use Rattle.unit_grammar.specs.UnitNodes.{module_of}
use Rattle.module_model.specs.Bindings.{implied}
use Rattle.arity_rules.specs.Arities.{all_unit_faults, implied_faults, meaning}
use Rattle.arity_rules.specs.Noted.{meaning_by, told}
use Rattle.arity_rules.proofs.Noting.{meaning-found}
use Rattle.arity_rules.proofs.check.check_arity.Goals as goal

pub returns : goal.returns
returns c = λ found source is.
    let units = module_of c.args.tree.now in
    let bound = c.args.bound.now in
    let means : told c.in_ok-meanings.meanings ≡ meaning found =
    fun_ext (λ start. c.in_ok-meanings.ensures start
    ∙ ap (λ z. meaning_by z c.as_slice-2.result.now c.as_slice-3.result.now start) c.as_slice.ensures
    ∙ ap (λ z. meaning_by bound.uses z c.as_slice-3.result.now start) c.as_slice-2.ensures
    ∙ ap (λ z. meaning_by bound.uses bound.entities z start) c.as_slice-3.ensures
    ∙ meaning-found found source units bound is start) in
    c.in_ok-push_all_implied.ensures
    ∙ ap (λ z. c.push_units.new.faults ++ implied_faults z) (c.as_slice-4.ensures ∙ is.implied)
    ∙ ap (λ z. z ++ implied_faults (implied found)) (c.in_ok-push_units.ensures ∙ ap (λ z. z ++ all_unit_faults (told c.in_ok-meanings.meanings) units.units) c.new-faults.ensures ∙ ap (λ z. all_unit_faults z units.units) means)
