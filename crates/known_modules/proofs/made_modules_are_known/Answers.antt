use Rattle.std.proofs.Common.{ℕ, List}
use Rattle.arranged_modules.specs.Passed.{implied_by, means_by}
use Rattle.known_modules.specs.Known.{found_over}
use Rattle.known_modules.proofs.Over.{deep-files, good-files, nothing-plain}
use Rattle.known_modules.proofs.made_modules_are_known.Goals as goal

pub returns-clause-itself : goal.returns-clause-itself
returns-clause-itself c = λ declares flat knowledge files outsides name bytes units symbols final asked is.
    let found = found_over outsides bytes units in
    let inside = λ (title : List ℕ). (is.known.each title).inner in
    let good = good-files declares flat knowledge files outsides name bytes units symbols final asked is in
    let deep = deep-files declares flat knowledge files outsides name bytes units symbols final asked is in
    let given = c.made_modules_are_given.ensures.itself declares flat knowledge files outsides name bytes units symbols final asked is in
    let leads = c.deep_modules_are_files.ensures.itself flat declares knowledge.behinds knowledge.depths inside files outsides name bytes units symbols final asked is.made is.ordered good deep is.faultless is.same given in
    record {
      good = c.given_modules_are_good.ensures.itself flat declares knowledge.behinds (means_by found) (implied_by found) files outsides name bytes units symbols final asked is.made is.ordered good is.faultless is.same given;
      yielding = c.declarations_yield_names.ensures.itself knowledge.yields flat declares knowledge.behinds files outsides name bytes units good is.faultless (λ title. (is.foreign title).1) (λ title. (is.known.each title).yielding) (λ title. (is.known.each title).steady);
      steady = c.modules_are_steady.ensures.itself flat declares knowledge.behinds files outsides name bytes units good is.faultless (λ title. (is.known.each title).steady);
      inner = leads.0;
      deep = leads.1;
      given = c.deep_modules_are_files.ensures.given flat declares knowledge.behinds knowledge.depths inside files outsides name bytes units symbols final asked is.made good deep is.faultless is.same given;
    }

pub returns-clause-symbols : goal.returns-clause-symbols
returns-clause-symbols c = λ declares flat knowledge files outsides name bytes units symbols final asked is.
    c.own_depths_are_given.ensures.symbols declares knowledge.depths outsides bytes units (λ title. (is.known.each title).good.given.names.entries)
    (c.places_are_declared.ensures declares bytes units (c.names_begin_apart.ensures.declared name bytes units is.faultless.front) is.faultless.places) is.known.plain

pub returns-clause-begins : goal.returns-clause-begins
returns-clause-begins c = nothing-plain
