use Rattle.known_modules.proofs.Over.{deep-files, good-files}
use Rattle.known_modules.proofs.made_modules_answer.Goals as goal

pub returns-clause-levels : goal.returns-clause-levels
returns-clause-levels c = λ declares flat knowledge files outsides name bytes units symbols final asked is.
    c.faultless_modules_answer.ensures flat declares knowledge.behinds files outsides name bytes units symbols final asked is.made is.ordered
    (good-files declares flat knowledge files outsides name bytes units symbols final asked is) is.faultless is.same
    (c.made_modules_are_given.ensures.nested declares flat knowledge files outsides name bytes units symbols final asked is)

pub returns-clause-depths : goal.returns-clause-depths
returns-clause-depths c = λ declares flat knowledge files outsides name bytes units symbols final asked is.
    c.faultless_modules_answer_depths.ensures.names flat declares knowledge.behinds knowledge.depths (λ title. (is.known.each title).inner) files outsides name bytes units symbols final asked is.made is.ordered
    (good-files declares flat knowledge files outsides name bytes units symbols final asked is) (deep-files declares flat knowledge files outsides name bytes units symbols final asked is) is.faultless is.same
    (c.made_modules_are_given.ensures.itself declares flat knowledge files outsides name bytes units symbols final asked is)
