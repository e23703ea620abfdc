use Rattle.std.proofs.Common.{◌≡◌, Some, None, ◌∙◌, subst}
use Rattle.tla_lexeme.specs.ModulePart.{module_part}
use Rattle.tla_front.proofs.FrontSteps.{too_large-front, start-placed, no_header-front, read-tree, read-fault}
use Rattle.tla_front.proofs.module.front_of_text.Goals as goal

pub returns-then-source-gt-MOST_TEXT-clause-fault :
    goal.returns-then-source-gt-MOST_TEXT-clause-fault
returns-then-source-gt-MOST_TEXT-clause-fault c =
    too_large-front c.args.name.now c.args.source.now c.fault_at.result c.fault_at.ensures c.utf8.source c.if-source-gt-MOST_TEXT.true

pub returns-then-source-gt-MOST_TEXT-clause-placed :
    goal.returns-then-source-gt-MOST_TEXT-clause-placed
returns-then-source-gt-MOST_TEXT-clause-placed c = start-placed c.args.source.now 104 c.fault_at.result c.fault_at.ensures c.utf8.source

pub returns-in-Ok-clause-tree : goal.returns-in-Ok-clause-tree
returns-in-Ok-clause-tree c =
    read-tree c.args.name.now c.args.source.now c.in-Ok.lexemes c.front_of_lexemes.result c.utf8.source c.if-source-gt-MOST_TEXT.false
    (subst (λ t. module_part t ≡ Some c.in-Ok.lexemes) (c.in_ok-text.ensures ∙ c.as_bytes.ensures.value) c.in-Ok.ensures.part)
    c.front_of_lexemes.ensures.tree

pub returns-in-Ok-clause-fault : goal.returns-in-Ok-clause-fault
returns-in-Ok-clause-fault c =
    read-fault c.args.name.now c.args.source.now c.in-Ok.lexemes c.front_of_lexemes.result c.utf8.source c.if-source-gt-MOST_TEXT.false
    (subst (λ t. module_part t ≡ Some c.in-Ok.lexemes) (c.in_ok-text.ensures ∙ c.as_bytes.ensures.value) c.in-Ok.ensures.part)
    c.front_of_lexemes.ensures.fault

pub returns-in-Err-NoHeader-clause-fault : goal.returns-in-Err-NoHeader-clause-fault
returns-in-Err-NoHeader-clause-fault c =
    let h = rw c.in-Err-NoHeader.field-0-is at c.in-Err-NoHeader.ensures.part in
    no_header-front c.args.name.now c.args.source.now c.fault_at-in-Err-NoHeader.result c.fault_at-in-Err-NoHeader.ensures c.utf8.source c.if-source-gt-MOST_TEXT.false
    (subst (λ t. module_part t ≡ None) (c.in_ok-text.ensures ∙ c.as_bytes.ensures.value) h)

pub returns-in-Err-NoHeader-clause-placed : goal.returns-in-Err-NoHeader-clause-placed
returns-in-Err-NoHeader-clause-placed c = start-placed c.args.source.now 102 c.fault_at-in-Err-NoHeader.result c.fault_at-in-Err-NoHeader.ensures c.utf8.source
