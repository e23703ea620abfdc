use Rattle.std.proofs.Common.{subst, sym}
use Rattle.unit_grammar.specs.UnitNodes.{unit_at}
use Rattle.module_constancy.specs.Places.{Passes}
use Rattle.module_constancy.proofs.Passing.{ended-passes}
use Rattle.module_constancy.proofs.place.Place.pass.Goals as goal

pub returns-in_ok-end-in-ModuleEnd : goal.returns-in_ok-end-in-ModuleEnd
returns-in_ok-end-in-ModuleEnd c =
    subst (λ u. Passes c.args.text.now (unit_at c.args.tree.now u) c.args.self.now c.end.new.self) (sym c.in-ModuleEnd.is)
    (ended-passes c.args.text.now c.in-ModuleEnd.field-0 c.args.self.now c.end.new.self c.in_ok-end-in-ModuleEnd.ensures.modules c.in_ok-end-in-ModuleEnd.ensures.round)
