use Rattle.std.proofs.Common.{◌∙◌, ap, reverse, subst, sym}
use Rattle.tla_model.specs.Lexemes.{spelled}
use Rattle.module_scope.specs.Environments.{begun}
use Rattle.unit_grammar.specs.UnitNodes.{unit_at}
use Rattle.unit_scope.specs.Steps.{Leads, behind_unit}
use Rattle.unit_flattener.specs.Scopes.{IsKept}
use Rattle.unit_flattener.proofs.Entering.{enters-there, enters-within}
use Rattle.unit_flattener.proofs.Results.{on-ok}
use Rattle.unit_flattener.proofs.flattener.UnitFlattener.enter.Goals as goal

pub returns-clause-entered : goal.returns-clause-entered
returns-clause-entered c =
    let frame = c.in_ok-enter_frame.ensures in
    on-ok c.pass.result c.pass.ensures.state
    (λ reads. enters-there c.args.written.now c.as_slice.result.now c.args.self.now _ c.args.unit.now c.args.name c.requires.begins (record {
      first = c.as_slice.ensures ∙ c.pop_own-own.ensures.first;
      rest = ap reverse frame.ahead ∙ c.pop_own-own.ensures.rest;
      modules = λ scope kept. subst (λ modules. IsKept modules (begun scope (spelled c.args.written.now.text.now.source c.args.name))) (sym frame.modules)
          (subst (λ name. IsKept c.enter.new.self (begun scope name)) c.spelled.ensures (c.in_ok-enter.ensures scope kept));
      leads = frame.leads;
      sound = frame.sound;
      state = frame.state;
      round = frame.round;
      files = frame.files;
      reads = subst (λ reader. Leads c.args.written.now.text.now (behind_unit c.args.written.now.text.now (unit_at c.args.written.now.tree.now c.args.unit.now)) reader c.pass.new.self) frame.reader reads;
    }))

pub returns-clause-within : goal.returns-clause-within
returns-clause-within c =
    let frame = c.in_ok-enter_frame.ensures in
    on-ok c.pass.result c.pass.ensures.state
    (λ reads. enters-within c.args.written.now c.as_slice.result.now c.args.self.now _ c.args.unit.now c.args.name c.requires.begins (record {
      first = c.as_slice.ensures ∙ c.pop_own-own.ensures.first;
      rest = ap reverse frame.ahead ∙ c.pop_own-own.ensures.rest;
      modules = λ scope kept. subst (λ modules. IsKept modules (begun scope (spelled c.args.written.now.text.now.source c.args.name))) (sym frame.modules)
          (subst (λ name. IsKept c.enter.new.self (begun scope name)) c.spelled.ensures (c.in_ok-enter.ensures scope kept));
      leads = frame.leads;
      sound = frame.sound;
      state = frame.state;
      round = frame.round;
      files = frame.files;
      reads = subst (λ reader. Leads c.args.written.now.text.now (behind_unit c.args.written.now.text.now (unit_at c.args.written.now.tree.now c.args.unit.now)) reader c.pass.new.self) frame.reader reads;
    }) c.requires.at)
