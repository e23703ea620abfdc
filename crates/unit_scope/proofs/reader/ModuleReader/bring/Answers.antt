use Rattle.std.proofs.Common.{◌∙◌, ◌++◌, ap, refl, sym, subst}
use Rattle.instance_scope.specs.Scoped.{module_in}
use Rattle.module_model.specs.Exports.{and_known}
use Rattle.module_model.specs.Modules.{joined}
use Rattle.module_model.specs.NamedModules.{exported_known}
use Rattle.unit_scope.specs.EnclosingReadings.{AreEnded}
use Rattle.unit_scope.specs.Readings.{instance_clash}
use Rattle.unit_scope.specs.Steps.{brought_in, joined_with, named_view}
use Rattle.unit_scope.specs.declared.reader.ModuleReader.{ModuleReader}
use Rattle.unit_scope.proofs.Growing.{went-joined}
use Rattle.unit_scope.proofs.Onward.{brings-at, knows-on, named-here, reads-on}
use Rattle.unit_scope.proofs.Taking.{ended-numbered}
use Rattle.unit_scope.proofs.reader.ModuleReader.bring.Goals as goal

pub note_exported-requires-clause-sound : goal.note_exported-requires-clause-sound
note_exported-requires-clause-sound c = c.requires.placed.at.sound

pub note_exported-requires-clause-numbered : goal.note_exported-requires-clause-numbered
note_exported-requires-clause-numbered c = ended-numbered _ c.join.new.self.modules (subst (AreEnded _) (sym c.in_ok-join.ensures.modules) c.requires.placed.at.numbered)

pub returns-clause-state : goal.returns-clause-state
returns-clause-state c = λ over state at.
    let text = c.args.text.now in
    let l = c.args.«module» in
    let read = c.args.self.now in
    let mid : ModuleReader = record { here = c.join.new.self; round = read.round; scope = read.scope } in
    let next : ModuleReader = record { here = c.join.new.self; round = read.round; scope = c.note_exported.new.self } in
    let entries = brings-at text over read state at l in
    let brought = brought_in text l over state in
    let between = reads-on text over read mid state (joined c.args.local state.place.here brought) at refl refl c.in_ok-join.ensures.modules
    (c.in_ok-join.ensures.reading ∙ (λ i. joined c.args.local (at.here i) (entries i))) (went-joined c.args.local state.place.here brought) in
    let named = ap (module_in read.scope) c.in_ok-join.ensures.modules ∙ named-here text over read state at in
    let noted = c.in_ok-note_exported.ensures in
    knows-on text over mid next (joined_with text c.args.local l over state) (and_known state.known (exported_known (named_view text l over state))) between refl noted.same noted.sound
    (noted.known ∙ (λ i. and_known (at.known i) (exported_known (named i (c.spelled.ensures i))))) refl

pub returns-clause-findings : goal.returns-clause-findings
returns-clause-findings c = λ over state at.
    let l = c.args.«module» in
    let entries = brings-at c.args.text.now over c.args.self.now state at l in
    c.in_ok-join.ensures.findings ∙ (λ i. c.args.findings.now ++ instance_clash (at.here i) (entries i) l)
