use Rattle.std.proofs.Common.{refl, true}
use Rattle.module_model.specs.Modules.{text_of}
use Rattle.module_model.specs.Resolution.{findings, words_of}
use Rattle.module_kinds.specs.ModuleKinds.{views}
use Rattle.readable_laws.specs.Uses.{implied_by, means_by}
use Rattle.accepted_modules.proofs.Reading.{front-derives}
use Rattle.given_modules.proofs.AtUnits.{IsKnown, trees-nameable}
use Rattle.given_modules.proofs.Shaped.{module-shaped}
use Rattle.module_model.specs.Instances.{unit_trees}
use Rattle.given_modules.proofs.faultless_modules_are_shaped.Goals as goal

pub returns : goal.returns
returns c = λ flat declares behinds files outsides name bytes units symbols final asked made good faultless same.
    let found = findings (views (text_of bytes units) outsides (words_of units)) bytes units in
    let derives = front-derives name bytes units faultless.front in
    let known : IsKnown flat (means_by found) (implied_by found) files outsides bytes units declares = record {
      foreign = good.foreign;
      declared = λ title. (good.each title).given.names.entries;
      names = c.places_are_declared.ensures declares bytes units (c.names_begin_apart.ensures.declared name bytes units faultless.front) faultless.places;
      named = λ title. (good.each title).named;
      reads = λ title. (good.each title).reads;
      new = λ before behind unit x seen split tree elsewhere. c.declared_names_are_new.ensures.trees name bytes units before behind unit x seen faultless.front split tree elsewhere;
      read = λ faces before behind unit split faced.
          c.faultless_units_are_read.ensures name bytes units (views (text_of bytes units) outsides (words_of units)) outsides faces (λ title. true) before unit behind faultless.front faultless.names faultless.arities
          (λ title. c.modules_come_steady.ensures.steady (outsides title).view (good.each title).comes) (λ title. c.modules_come_steady.ensures.beside (outsides title).view (good.each title).comes) good.foreign (λ title. refl) split
          (trees-nameable bytes (unit_trees unit)) (λ title can. faced title);
    } in
    module-shaped flat (means_by found) (implied_by found) files outsides bytes units declares known symbols final asked made same
    (c.readers_end.ensures.readers flat (means_by found) (implied_by found) files outsides bytes units symbols final asked derives.0 derives.1 made)
    (c.fronts_are_shaped.ensures.shaped name bytes units faultless.front)
