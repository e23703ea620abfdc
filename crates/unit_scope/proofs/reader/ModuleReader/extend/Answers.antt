use Rattle.std.proofs.Common.{◌∙◌, ◌++◌, ap, refl, sym, subst}
use Rattle.instance_scope.specs.Scoped.{module_in}
use Rattle.module_model.specs.Exports.{and_known, exports_by}
use Rattle.module_model.specs.Modules.{all_clashing, extends_all}
use Rattle.module_model.specs.NamedModules.{known_from_all}
use Rattle.module_model.specs.Resolution.{module_named}
use Rattle.unit_scope.specs.EnclosingReadings.{AreEnded}
use Rattle.unit_scope.specs.Readings.{files_over}
use Rattle.unit_scope.specs.Steps.{extending}
use Rattle.unit_scope.specs.declared.reader.ModuleReader.{ModuleReader}
use Rattle.unit_scope.proofs.Growing.{went-extends}
use Rattle.unit_scope.proofs.Onward.{knows-on, named-here, reads-on}
use Rattle.unit_scope.proofs.Taking.{ended-numbered}
use Rattle.unit_scope.proofs.reader.ModuleReader.extend.Goals as goal

pub note_all-requires-clause-sound : goal.note_all-requires-clause-sound
note_all-requires-clause-sound c = c.requires.placed.at.sound

pub note_all-requires-clause-numbered : goal.note_all-requires-clause-numbered
note_all-requires-clause-numbered c = ended-numbered _ c.extend_all.new.self.modules (subst (AreEnded _) (sym c.in_ok-extend_all.ensures.modules) c.requires.placed.at.numbered)

pub returns-clause-state : goal.returns-clause-state
returns-clause-state c = λ over state at.
    let text = c.args.text.now in
    let names = c.args.names.now in
    let read = c.args.self.now in
    let mid : ModuleReader = record { here = c.extend_all.new.self; round = read.round; scope = read.scope } in
    let next : ModuleReader = record { here = c.extend_all.new.self; round = read.round; scope = c.note_all.new.scope } in
    let files = exports_by (files_over over) in
    let between = reads-on text over read mid state (extends_all text files state.place.here names) at refl refl c.in_ok-extend_all.ensures.modules
    (c.in_ok-extend_all.ensures.reading ∙ (λ i. extends_all text (exports_by (files_over (at.kept i))) (at.here i) names)) (went-extends text files state.place.here names) in
    let named = ap (module_in read.scope) c.in_ok-extend_all.ensures.modules ∙ named-here text over read state at in
    let noted = c.in_ok-note_all.ensures in
    knows-on text over mid next (extending text names over state) (and_known state.known (known_from_all text (module_named text (files_over over) over.words state) names)) between refl noted.same noted.sound
    (noted.known ∙ (λ i. and_known (at.known i) (known_from_all text (named i) names))) refl

pub returns-clause-findings : goal.returns-clause-findings
returns-clause-findings c = λ over state at.
    c.in_ok-extend_all.ensures.findings ∙ (λ i. c.args.findings.now ++ all_clashing c.args.text.now (exports_by (files_over (at.kept i))) (at.here i) c.args.names.now)
