use Rattle.std.proofs.Common.{◌∙◌, ap, sym, subst}
use Rattle.tla_tree.specs.Arena.{tree_at}
use Rattle.tla_model.specs.Lexemes.{LiesIn}
use Rattle.module_model.specs.Modules.{declare_all}
use Rattle.declared_names.specs.Listed.{listed}
use Rattle.name_exports.specs.Brought.{as_read}
use Rattle.tree_names.specs.BindersInText.{BindersLie}
use Rattle.unit_scope.proofs.Lexemes.{definition-lies}
use Rattle.unit_scope.proofs.declaring.define.Goals as goal

pub declare-requires : goal.declare-requires
declare-requires c =
    (subst (BindersLie c.args.text.now.source) (sym (ap listed (sym c.in-Some.is) ∙ c.in_ok-binder.ensures)) (definition-lies (LiesIn c.args.text.now.source) (tree_at c.args.tree.now c.args.node) c.requires.lie)).0

pub returns-in_ok-declare : goal.returns-in_ok-declare
returns-in_ok-declare c = λ title taken.
    c.in_ok-declare.ensures.names title taken
    ∙ ap (λ binders. declare_all c.args.text.now c.args.local (as_read title taken c.args.names.now) binders) (ap listed (sym c.in-Some.is) ∙ c.in_ok-binder.ensures)
