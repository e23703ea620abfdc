use Rattle.std.proofs.Common.{◌∙◌, ◌++◌, ap, false, refl}
use Rattle.tla_model.specs.Scopes.{all_refused}
use Rattle.module_model.specs.Modules.{Reading, declare_all}
use Rattle.instance_leads.specs.Leading.{views}
use Rattle.unit_scope.specs.declared.reader.ModuleReader.{ModuleReader}
use Rattle.unit_scope.proofs.Growing.{went-declares}
use Rattle.unit_scope.proofs.Onward.{reads-on}
use Rattle.unit_scope.proofs.reader.ModuleReader.read_declarations.Goals as goal

pub returns-clause-state : goal.returns-clause-state
returns-clause-state c = λ over state at.
    let text = c.args.text.now in
    let read = c.args.self.now in
    let next : ModuleReader = record { here = record { name = read.here.name; names = c.declare_all.new.names; modules = read.here.modules }; round = read.round; scope = read.scope } in
    reads-on text over read next state (declare_all text false state.place.here c.args.binders) at refl refl refl
    (c.in_ok-declare_all.ensures.names read.here.name.now (views read.scope.nested.items read.here.modules) ∙ ap (λ r. declare_all text false r c.args.binders) at.here) (went-declares text false state.place.here c.args.binders)

pub returns-clause-findings : goal.returns-clause-findings
returns-clause-findings c = λ over state at.
    c.in_ok-declare_all.ensures.findings ∙ ap (λ (r : Reading). c.args.findings.now ++ all_refused c.args.text.now r.context c.args.binders) at.here
