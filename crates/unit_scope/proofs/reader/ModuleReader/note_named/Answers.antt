use Rattle.std.proofs.Common.{◌∙◌, ap, refl, sym, subst}
use Rattle.std.specs.Prelude.{IfSome, map}
use Rattle.std.specs.List.{AllByRecursion}
use Rattle.tla_model.specs.Lexemes.{LiesIn}
use Rattle.unit_grammar.specs.UnitNodes.{unit_at}
use Rattle.module_model.specs.Exports.{and_known}
use Rattle.module_model.specs.NamedModules.{known_named}
use Rattle.module_model.specs.Resolution.{known_in}
use Rattle.instance_names.specs.Named.{named_as}
use Rattle.instance_names.specs.declared.named.NamedInstance.{NamedInstance}
use Rattle.unit_scope.specs.Readings.{files_over}
use Rattle.unit_scope.specs.declared.reader.ModuleReader.{ModuleReader}
use Rattle.unit_scope.proofs.Lexemes.{instance-modules-lie, instance-names-lie}
use Rattle.unit_scope.proofs.Onward.{knows-on, named-here}
use Rattle.unit_scope.proofs.Taking.{ended-numbered}
use Rattle.unit_scope.proofs.reader.ModuleReader.note_named.Goals as goal

pub note_named-requires-clause-numbered : goal.note_named-requires-clause-numbered
note_named-requires-clause-numbered c = ended-numbered _ c.args.self.now.here.modules c.requires.placed.at.numbered

pub note_named-requires-clause-names : goal.note_named-requires-clause-names
note_named-requires-clause-names c =
    let lies = LiesIn c.args.text.now.source in
    subst (AllByRecursion (λ (i : NamedInstance). lies i.name)) (sym c.as_slice.ensures) (instance-names-lie lies (unit_at c.args.tree.now c.args.unit.now) c.in_ok-instances.instances c.in_ok-instances.ensures c.requires.lie)

pub note_named-requires-clause-modules : goal.note_named-requires-clause-modules
note_named-requires-clause-modules c =
    let lies = LiesIn c.args.text.now.source in
    subst (AllByRecursion (λ (i : NamedInstance). IfSome i.«module» lies)) (sym c.as_slice.ensures) (instance-modules-lie lies (unit_at c.args.tree.now c.args.unit.now) c.in_ok-instances.instances c.in_ok-instances.ensures c.requires.lie)

pub returns : goal.returns
returns c = λ over state at.
    let text = c.args.text.now in
    let read = c.args.self.now in
    let next : ModuleReader = record { here = read.here; round = read.round; scope = c.note_named.new.self } in
    let instances = ap (map named_as) c.as_slice.ensures ∙ c.in_ok-instances.ensures in
    let noted = c.in_ok-note_named.ensures in
    knows-on text over read next state (known_in text (files_over over) over.words state (unit_at c.args.tree.now c.args.unit.now)) at refl noted.same noted.sound
    (noted.known ∙ (λ i. and_known (at.known i) (known_named text (named-here text over read state at i) (instances i)))) refl
