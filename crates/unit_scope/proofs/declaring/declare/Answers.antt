use Rattle.std.proofs.Common.{◌∙◌, [], ap, sym}
use Rattle.std.specs.Prelude.{is_some}
use Rattle.name_context.specs.AsTables.{meant_by}
use Rattle.name_exports.specs.Brought.{as_read}
use Rattle.module_model.proofs.PartTables.{some-mapped}
use Rattle.unit_scope.proofs.Taking.{declared-new, declared-still, new-bound, there-bound}
use Rattle.unit_scope.proofs.declaring.declare.Goals as goal

pub returns-clause-names : goal.returns-clause-names
returns-clause-names c = λ title taken.
    declared-new c.args.text.now c.args.local (as_read title taken c.args.names.now) c.args.binder (meant_by c.name_of-name.result) c.name_of-name.ensures
    (as_read title taken c.put.new.self) c.in_ok-meaning.meaning c.in_ok-meaning.ensures (c.in_ok-put.ensures title taken)
    (ap is_some (sym c.get.ensures) ∙ some-mapped _ c.get.result ∙ sym c.is_some.ensures ∙ c.if-is_some.false)

pub returns-clause-context : goal.returns-clause-context
returns-clause-context c =
    new-bound c.args.text.now c.args.local (as_read [] [] c.args.names.now) c.args.binder (meant_by c.name_of-name.result) c.name_of-name.ensures
    (as_read [] [] c.put.new.self) c.in_ok-meaning.meaning c.in_ok-meaning.ensures (c.in_ok-put.ensures [] [])

pub returns-then-is_some-clause-names : goal.returns-then-is_some-clause-names
returns-then-is_some-clause-names c = λ title taken.
    declared-still c.args.text.now c.args.local (as_read title taken c.args.names.now) c.args.binder (meant_by c.name_of-name.result) c.name_of-name.ensures
    (ap is_some (sym c.get.ensures) ∙ some-mapped _ c.get.result ∙ sym c.is_some.ensures ∙ c.if-is_some.true)

pub returns-then-is_some-clause-context : goal.returns-then-is_some-clause-context
returns-then-is_some-clause-context c =
    there-bound c.args.text.now c.args.local (as_read [] [] c.args.names.now) c.args.binder (meant_by c.name_of-name.result) c.name_of-name.ensures
    (ap is_some (sym c.get.ensures) ∙ some-mapped _ c.get.result ∙ sym c.is_some.ensures ∙ c.if-is_some.true)
