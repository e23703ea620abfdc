use Rattle.flat_depths.proofs.Agreeing.{before-agrees, behind-agrees, brought-deep, declared-agrees, extended-deep, repeating-agrees, scope-agrees, with-agrees}
use Rattle.flat_depths.proofs.Definitions.{replaced-deep, written}
use Rattle.tree_kinds.specs.Expanding.{module_of}
use Rattle.flat_depths.proofs.depths_agree.Goals as goal

pub returns-clause-scopes : goal.returns-clause-scopes
returns-clause-scopes c flat text known named layout around form parts agrees = scope-agrees flat text known named layout around agrees form parts

pub returns-clause-before : goal.returns-clause-before
returns-clause-before c flat text known named layout around form parts agrees = before-agrees flat text known named layout around agrees form parts

pub returns-clause-parameters : goal.returns-clause-parameters
returns-clause-parameters c flat text known named layout around form parts agrees plain = with-agrees flat text known named layout around agrees form parts plain

pub returns-clause-definitions : goal.returns-clause-definitions
returns-clause-definitions c flat text known named layout around x stand reached agrees one = behind-agrees flat text known named layout around agrees x stand reached one

pub returns-clause-declared : goal.returns-clause-declared
returns-clause-declared c flat layout around context next agrees each = declared-agrees flat layout around context next agrees each

pub returns-clause-olds : goal.returns-clause-olds
returns-clause-olds c flat layout around olds agrees = repeating-agrees flat layout around olds agrees

pub returns-clause-brought : goal.returns-clause-brought
returns-clause-brought c flat text known named layout around j x staying made l at rights inner entries agrees there behind none deep kept =
    brought-deep flat j (written flat text known named around l rights) (module_of text known named l) inner entries layout.stands around.depths
    (replaced-deep flat text known named around j x staying made l rights there behind none deep) kept agrees.depths

pub returns-clause-extended : goal.returns-clause-extended
returns-clause-extended c flat stands depths j outside inner entries have none kept = extended-deep flat j outside inner entries stands depths none kept have
