use Rattle.std.proofs.Common.{◌∙◌, ◌++◌, ◌∷◌, [], append_assoc, ap, subst}
use Rattle.std.specs.Prelude.{if◌then◌else◌}
use Rattle.tla_model.specs.declared.names.Finding.TheVariants.{Taken}
use Rattle.tla_model.specs.Lexemes.{spelled}
use Rattle.module_model.specs.Modules.{is_named}
use Rattle.unit_scope.specs.EnclosingReadings.{IsAt}
use Rattle.unit_scope.specs.Modules.{reading_of}
use Rattle.unit_scope.specs.Steps.{clashing, entered}
use Rattle.unit_scope.proofs.Onward.{extended-known, placed-on}
use Rattle.unit_scope.proofs.reader.ModuleReader.read_begin.Goals as goal

pub extend-requires-clause-placed : goal.extend-requires-clause-placed
extend-requires-clause-placed c = placed-on c.args.text.now c.args.self.now c.begin.new.self (entered c.spelled.result.now) c.requires.placed (c.in_ok-begin.ensures c.args.text.now)

pub returns-clause-state : goal.returns-clause-state
returns-clause-state c = λ dashes over state at.
    let text = c.args.text.now in
    let extends = c.args.extends.now in
    let begun = entered (spelled text.source c.args.name) over state in
    let began = subst (λ title. IsAt text over c.begin.new.self (entered title over state)) c.spelled.ensures (c.in_ok-begin.ensures text over state at) in
    subst (IsAt text over c.extend.new.self) (extended-known text extends over begun) (c.in_ok-extend.ensures.state over begun began)

pub returns-clause-findings : goal.returns-clause-findings
returns-clause-findings c = λ dashes over state at.
    let text = c.args.text.now in
    let name = c.args.name in
    let old = c.args.findings.now in
    let read = c.args.self.now in
    let begun = entered (spelled text.source name) over state in
    let began = subst (λ title. IsAt text over c.begin.new.self (entered title over state)) c.spelled.ensures (c.in_ok-begin.ensures text over state at) in
    let clashes = clashing text c.args.extends.now over begun in
    let before = reading_of read.scope read.here in
    c.in_ok-extend.ensures.findings over begun began
    ∙ ap (λ z. z ++ clashes) (c.in_ok-refuse_module.ensures read.scope.nested.items)
    ∙ append_assoc old (if is_named text before name then Taken name ∷ [] else []) clashes
    ∙ ap (λ r. old ++ ((if is_named text r name then Taken name ∷ [] else []) ++ clashes)) at.here
