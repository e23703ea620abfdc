use Rattle.std.proofs.Common.{◌∙◌, ◌++◌, refl}
use Rattle.tla_tree.specs.Arena.{tree_at}
use Rattle.unit_grammar.specs.UnitNodes.{unit_at}
use Rattle.module_model.specs.TreeFindings.{walk}
use Rattle.unit_scope.specs.Steps.{noted}
use Rattle.unit_scope.specs.declared.reader.ModuleReader.{ModuleReader}
use Rattle.unit_scope.proofs.Growing.{waits}
use Rattle.unit_scope.proofs.Onward.{named-here, reads-on}
use Rattle.unit_scope.proofs.reader.ModuleReader.read_tree.Goals as goal

pub returns-clause-state : goal.returns-clause-state
returns-clause-state c = λ over state at.
    let text = c.args.text.now in
    let read = c.note_named.new.self in
    let next : ModuleReader = record { here = c.walk.new.self; round = read.round; scope = read.scope } in
    let mid = c.in_ok-note_named.ensures over state at in
    reads-on text over read next (noted text (unit_at c.args.tree.now c.args.unit.now) over state) state.place.here mid refl refl c.in_ok-walk.ensures.modules (c.in_ok-walk.ensures.reading ∙ mid.here) (waits state.place.here)

pub returns-clause-findings : goal.returns-clause-findings
returns-clause-findings c = λ over state at.
    let text = c.args.text.now in
    let read = c.note_named.new.self in
    let mid = c.in_ok-note_named.ensures over state at in
    let named = named-here text over read (noted text (unit_at c.args.tree.now c.args.unit.now) over state) mid in
    c.in_ok-walk.ensures.findings
    ∙ (λ i. c.args.findings.now ++ walk text (record { named = named i; known = mid.known i; paths = (mid.kept i).paths }) ((mid.here i).context) (tree_at c.args.tree.now c.args.node))
