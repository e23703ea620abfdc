use Rattle.std.proofs.Common.{◌∙◌, ◌≤◌, List, ℕ, ap, arith, refl, true}
use Rattle.module_model.specs.Instances.{unit_trees}
use Rattle.module_model.specs.Modules.{text_of}
use Rattle.module_model.specs.Resolution.{ReadState, findings, words_of}
use Rattle.module_kinds.specs.ModuleKinds.{first, views}
use Rattle.flat_kinds.proofs.Declarations.{read-same}
use Rattle.lexeme_laws.specs.Apart.{begins_at}
use Rattle.tla_model.specs.Entities.{declaring}
use Rattle.fresh_names.proofs.New.{beginning}
use Rattle.readable_laws.specs.Uses.{implied_by, means_by}
use Rattle.accepted_modules.proofs.Reading.{front-derives}
use Rattle.given_modules.proofs.AtUnits.{IsKnown, trees-nameable}
use Rattle.given_modules.proofs.Given.{AreExtendedSound, IsAccepted}
use Rattle.given_modules.proofs.Disjoint.{later-apart}
use Rattle.given_modules.proofs.NestedUnits.{nested-given}
use Rattle.given_modules.proofs.Usable.{direct-of, view-one}
use Rattle.given_modules.proofs.faultless_modules_are_given.Goals as goal

pub returns : goal.returns
returns c = λ flat declares behinds files outsides name bytes units symbols final asked made good faultless same bringing.
    let found = findings (views (text_of bytes units) outsides (words_of units)) bytes units in
    let derives = front-derives name bytes units faultless.front in
    let names = c.places_are_declared.ensures declares bytes units (c.names_begin_apart.ensures.declared name bytes units faultless.front) faultless.places in
    let known : IsKnown flat (means_by found) (implied_by found) files outsides bytes units declares = record {
      foreign = good.foreign;
      declared = λ title. (good.each title).given.names.entries;
      names = names;
      named = λ title. (good.each title).named;
      reads = λ title. (good.each title).reads;
      new = λ before behind unit x seen split tree elsewhere. c.declared_names_are_new.ensures.trees name bytes units before behind unit x seen faultless.front split tree elsewhere;
      read = λ faces before behind unit split faced.
          c.faultless_units_are_read.ensures name bytes units (views (text_of bytes units) outsides (words_of units)) outsides faces (λ title. true) before unit behind faultless.front faultless.names faultless.arities
          (λ title. c.modules_come_steady.ensures.steady (outsides title).view (good.each title).comes) (λ title. c.modules_come_steady.ensures.beside (outsides title).view (good.each title).comes) good.foreign (λ title. refl) split
          (trees-nameable bytes (unit_trees unit)) (λ title can. faced title);
    } in
    let accepted : IsAccepted outsides bytes units = record {
      faultless = faultless.names;
      lexemes = derives.0;
      derives = derives.1;
      brings = λ before behind local x l at rights split is. c.brought_names_come.ensures.instances declares behinds outsides bytes units before behind local x l at rights (λ title. (good.each title).given) good.foreign names split is;
    } in
    let parameters = λ (title : List ℕ). c.modules_come_steady.ensures.parameters (outsides title).view (good.each title).comes in
    let sound : AreExtendedSound flat (means_by found) (implied_by found) files outsides bytes units declares known accepted behinds = record {
      good = good;
      parameters = parameters;
      shared = c.symbols_are_parameters.ensures.shared declares outsides bytes units derives.0 derives.1 (λ title. (good.each title).given.names) parameters faultless.names;
      come = c.brought_names_come.ensures.extended declares behinds outsides bytes units (λ title. (good.each title).given) good.foreign names;
      others = λ n m at none. c.symbols_are_parameters.ensures.extended outsides bytes units (λ title. c.modules_come_steady.ensures.offered (outsides title).view (good.each title).comes) derives.0 n m derives.1 at none;
    } in
    let ones = λ (title : List ℕ). view-one declares (outsides title).view (good.each title).given.names (direct-of (good.each title).comes) in
    let few : (start : ℕ) → beginning start (declaring units.units) ≤ 1 = λ start. omega (arith, c.lexemes_are_held_once.ensures.declared (begins_at start) units, c.names_begin_apart.ensures.held name bytes units faultless.front start) in
    nested-given flat (means_by found) (implied_by found) files outsides bytes units declares known accepted ones (later-apart bytes units few) behinds sound
    (λ title. c.modules_come_steady.ensures.offered (outsides title).view (good.each title).comes)
    (λ before behind dashes n extends split. c.brought_names_come.ensures.nested declares behinds outsides bytes units before behind dashes n extends (λ title. (good.each title).given) good.foreign names split) symbols same final asked made
    (c.readers_end.ensures.readers flat (means_by found) (implied_by found) files outsides bytes units symbols final asked derives.0 derives.1 made)
    (ap (λ (s : ReadState). s.place.round) (read-same (text_of bytes units) outsides (words_of units) (first outsides bytes units) units.units) ∙ c.readers_end.ensures.states (views (text_of bytes units) outsides (words_of units)) bytes units derives.0 derives.1) bringing
