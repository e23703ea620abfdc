use Rattle.std.proofs.lemmas.Bool.{both_ways}
use Rattle.tla_front.proofs.FrontSteps.{high-front, high-placed, misnamed-front, misnamed-placed, whole-front}
use Rattle.front_laws.proofs.HeldUnits.{read-lie, read-few}
use Rattle.tla_front.proofs.module.front_of_tree.Goals as goal

pub returns-then-tree-gt-MOST_HEIGHT-clause-fault :
    goal.returns-then-tree-gt-MOST_HEIGHT-clause-fault
returns-then-tree-gt-MOST_HEIGHT-clause-fault c =
    high-front c.args.name.now c.args.source.now c.args.tree c.args.lexemes.now c.first_high-lexeme.result c.fault_of.result c.first_high-lexeme.ensures c.fault_of.ensures

pub returns-then-tree-gt-MOST_HEIGHT-clause-placed :
    goal.returns-then-tree-gt-MOST_HEIGHT-clause-placed
returns-then-tree-gt-MOST_HEIGHT-clause-placed c =
    high-placed c.args.source.now c.args.tree c.args.lexemes.now c.first_high-lexeme.result c.fault_of.result c.first_high-lexeme.ensures c.fault_of.ensures c.requires.placed

pub returns-then-not-is_spelled-clause-fault : goal.returns-then-not-is_spelled-clause-fault
returns-then-not-is_spelled-clause-fault c =
    misnamed-front c.args.name.now c.args.source.now c.args.tree c.args.lexemes.now c.fault_of-then-not-is_spelled.result c.requires.read c.if-tree-gt-MOST_HEIGHT.false
    (λ e. both_ways c.is_spelled.result c.if-not-is_spelled.true (c.is_spelled.ensures.1 e)) c.fault_of-then-not-is_spelled.ensures

pub returns-then-not-is_spelled-clause-placed : goal.returns-then-not-is_spelled-clause-placed
returns-then-not-is_spelled-clause-placed c =
    misnamed-placed c.args.source.now c.args.tree c.args.lexemes.now c.fault_of-then-not-is_spelled.result c.requires.read c.fault_of-then-not-is_spelled.ensures c.requires.placed

pub returns-clause-tree : goal.returns-clause-tree
returns-clause-tree c =
    whole-front c.args.name.now c.args.source.now c.args.tree c.in_ok-whole.whole c.args.lexemes.now c.requires.read c.if-tree-gt-MOST_HEIGHT.false (c.is_spelled.ensures.0 c.if-not-is_spelled.false) c.in_ok-whole.ensures

pub returns-clause-lexemes : goal.returns-clause-lexemes
returns-clause-lexemes c =
    let read = whole-front c.args.name.now c.args.source.now c.args.tree c.in_ok-whole.whole c.args.lexemes.now c.requires.read c.if-tree-gt-MOST_HEIGHT.false (c.is_spelled.ensures.0 c.if-not-is_spelled.false) c.in_ok-whole.ensures in
    read-lie c.args.name.now c.args.source.now c.args.lexemes.now c.in_ok-whole.whole read c.requires.lie

pub returns-clause-few : goal.returns-clause-few
returns-clause-few c =
    let read = whole-front c.args.name.now c.args.source.now c.args.tree c.in_ok-whole.whole c.args.lexemes.now c.requires.read c.if-tree-gt-MOST_HEIGHT.false (c.is_spelled.ensures.0 c.if-not-is_spelled.false) c.in_ok-whole.ensures in
    read-few c.args.name.now c.args.source.now c.args.lexemes.now c.in_ok-whole.whole read c.requires.few
