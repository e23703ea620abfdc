use Rattle.arranged_modules.specs.Passed.{implied_by, means_by}
use Rattle.known_modules.specs.Known.{found_over}
use Rattle.known_modules.proofs.Over.{good-files}
use Rattle.known_modules.proofs.made_modules_are_given.Goals as goal

pub returns-clause-nested : goal.returns-clause-nested
returns-clause-nested c = λ declares flat knowledge files outsides name bytes units symbols final asked is.
    let found = found_over outsides bytes units in
    c.nested_names_are_given.ensures.extended knowledge.yields flat declares knowledge.behinds (means_by found) (implied_by found) files outsides name bytes units symbols final asked is.made
    (good-files declares flat knowledge files outsides name bytes units symbols final asked is) is.faultless is.same (λ title. (is.foreign title).1) (λ title. (is.known.each title).yielding) (λ title. (is.known.each title).steady)

pub returns-clause-itself : goal.returns-clause-itself
returns-clause-itself c = λ declares flat knowledge files outsides name bytes units symbols final asked is.
    let found = found_over outsides bytes units in
    let good = good-files declares flat knowledge files outsides name bytes units symbols final asked is in
    c.faultless_modules_are_given.ensures flat declares knowledge.behinds files outsides name bytes units symbols final asked is.made good is.faultless is.same
    (c.nested_names_are_given.ensures.extended knowledge.yields flat declares knowledge.behinds (means_by found) (implied_by found) files outsides name bytes units symbols final asked is.made good is.faultless is.same (λ title. (is.foreign title).1) (λ title. (is.known.each title).yielding) (λ title. (is.known.each title).steady))
