use Rattle.std.proofs.Common.{sym, subst}
use Rattle.std.proofs.lemmas.Result.{on_ok_weaker}
use Rattle.tla_tree.specs.Arena.{tree_at}
use Rattle.tla_tree.specs.declared.unit.Unit.TheVariants as units
use Rattle.unit_grammar.specs.UnitNodes.{unit_at}
use Rattle.unit_flattener.specs.Walked.{Walks}
use Rattle.unit_flattener.specs.declared.flattener.UnitFlattener.{UnitFlattener}
use Rattle.unit_flattener.proofs.Making.{reads-so, theorem-walked}
use Rattle.unit_flattener.proofs.flattener.UnitFlattener.state_theorem.Goals as goal

pub returns : goal.returns
returns c =
    let written = c.args.written.now in let nodes = written.tree.now in let old = c.args.self.now in let mid = c.make_claim.new.self in
    let new : UnitFlattener = record { reader = c.pass.new.self; leads = mid.leads; files = mid.files; modules = mid.modules; own = mid.own; state = mid.state; frame = mid.frame; round = mid.round } in
    let made = c.in_ok-_node.ensures.made in let others = c.in_ok-_node.ensures.others in
    on_ok_weaker c.pass.result
    (λ reads. subst (λ u. Walks written (unit_at nodes u) old new) (sym c.requires.unit)
    (λ walk before rest reader at.
    theorem-walked written walk before rest old new reader c.args.word c.args.name (tree_at nodes c.args.node) c.in_ok-_node._node made.asked
    (record { files = others.place.files; modules = others.place.modules; own = others.place.own; frame = others.place.frame; round = others.place.round })
    others.leads made.locals made.holds at made.steps
    (reads-so written.text.now nodes c.args.unit.now (units.Theorem c.args.word c.args.name c.args.node) old.reader mid.reader c.pass.new.self c.requires.unit others.place.reader reads)))
    c.pass.ensures.state
