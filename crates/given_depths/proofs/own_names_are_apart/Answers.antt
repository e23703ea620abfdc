use Rattle.std.proofs.Common.{[], ap, refl}
use Rattle.tla_tree.specs.declared.form.Form.TheVariants as Form
use Rattle.tla_tree.specs.Syntax.{Node}
use Rattle.module_model.specs.Resolution.{instance_brings}
use Rattle.module_kinds.specs.ModuleKinds.{first, views}
use Rattle.given_depths.specs.Own.{if_replaced}
use Rattle.given_depths.proofs.Apart.{module-apart, others-none}
use Rattle.given_depths.proofs.own_names_are_apart.Goals as goal

pub returns-clause-replaces : goal.returns-clause-replaces
returns-clause-replaces c = λ text files words state local l at rights parameter parameters is.
    ap (λ ps. if_replaced ps (instance_brings text (views text files words) words state.read (Node (Form.Instance l) at rights))) is

pub returns-clause-others : goal.returns-clause-others
returns-clause-others c = λ files source units meaning others. others-none source units files [] units.units (first files source units) meaning refl others

pub returns-clause-apart : goal.returns-clause-apart
returns-clause-apart c = λ files name bytes units front. module-apart bytes units files (first files bytes units) (c.names_begin_apart.ensures.held name bytes units front)
