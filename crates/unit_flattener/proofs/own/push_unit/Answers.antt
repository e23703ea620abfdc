use Rattle.std.proofs.Common.{◌∷◌, [], sym, subst}
use Rattle.unit_grammar.specs.UnitNodes.{unit_at}
use Rattle.unit_scope.specs.Steps.{Leads, behind_unit}
use Rattle.unit_flattener.specs.Ahead.{AppendsEnds}
use Rattle.unit_flattener.proofs.Results.{on-ok}
use Rattle.unit_flattener.proofs.own.push_unit.Goals as goal

pub returns-in-ModuleEnd-clause-state : goal.returns-in-ModuleEnd-clause-state
returns-in-ModuleEnd-clause-state c =
    on-ok c.push_end.result c.push_end.ensures.state (λ leads.
    subst (λ x. Leads c.args.text.now (behind_unit c.args.text.now (unit_at c.args.tree.now x)) c.args.reader.now c.push_end.new.reader) (sym c.in-ModuleEnd.is) (leads c.in-ModuleEnd.field-0))

pub returns-in-ModuleEnd-clause-ends : goal.returns-in-ModuleEnd-clause-ends
returns-in-ModuleEnd-clause-ends c =
    on-ok c.push_end.result c.push_end.ensures.ends (λ appends.
    subst (λ x. AppendsEnds c.args.text.now c.args.reader.now (unit_at c.args.tree.now x ∷ []) c.args.ends.now.items c.push_end.new.ends.items) (sym c.in-ModuleEnd.is) (appends c.in-ModuleEnd.field-0))
