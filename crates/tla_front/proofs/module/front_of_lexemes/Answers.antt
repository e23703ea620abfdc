use Rattle.std.proofs.Common.{◌+◌, ◌*◌, ◌≤◌, ◌<◌, ◌^◌, length, arith, ap, subst, sym}
use Rattle.std.proofs.lemmas.Result.{IfOk-weaker}
use Rattle.std.specs.List.{AllByRecursion}
use Rattle.tla_model.specs.Lexemes.{LiesIn}
use Rattle.unit_heights.specs.FirstHigh.{BeginsFurther}
use Rattle.tla_front.proofs.FrontSteps.{bad-front, bad-placed}
use Rattle.front_laws.proofs.TextEnds.{text-ends}
use Rattle.front_laws.proofs.TextGrows.{text-further, few-lexemes}
use Rattle.front_laws.proofs.LexemesInText.{text-lies}
use Rattle.tla_front.proofs.module.front_of_lexemes.Goals as goal

pub parse_module-requires-clause-ends : goal.parse_module-requires-clause-ends
parse_module-requires-clause-ends c = text-ends c.reads_longest.ensures c.args.source.now c.args.lexemes.now c.requires.part

pub parse_module-requires-clause-few : goal.parse_module-requires-clause-few
parse_module-requires-clause-few c =
    omega
    (arith, c.requires.small, few-lexemes c.args.source.now c.args.lexemes.now (text-further c.reads_longest.ensures c.args.source.now c.args.lexemes.now c.requires.part) c.requires.placed)

pub front_of_tree-requires-clause-further : goal.front_of_tree-requires-clause-further
front_of_tree-requires-clause-further c =
    subst (λ ls. BeginsFurther 0 ls) (sym c.as_slice.ensures) (text-further c.reads_longest.ensures c.args.source.now c.args.lexemes.now c.requires.part)

pub front_of_tree-requires-clause-few : goal.front_of_tree-requires-clause-few
front_of_tree-requires-clause-few c =
    let few : length c.args.lexemes.now < 2 ^ 32 =
    omega
    (arith, c.requires.small, few-lexemes c.args.source.now c.args.lexemes.now (text-further c.reads_longest.ensures c.args.source.now c.args.lexemes.now c.requires.part) c.requires.placed) in
    subst (λ ls. length ls < 2 ^ 32) (sym c.as_slice.ensures) few

pub front_of_tree-requires-clause-nodes : goal.front_of_tree-requires-clause-nodes
front_of_tree-requires-clause-nodes c = subst (λ ls. length c.in-Ok.tree.tree ≤ 17 * length ls) (sym c.as_slice.ensures) c.in-Ok.ensures.few

pub front_of_tree-requires-clause-lie : goal.front_of_tree-requires-clause-lie
front_of_tree-requires-clause-lie c =
    subst (λ ls. AllByRecursion (LiesIn c.args.source.now) ls) (sym c.as_slice.ensures) (text-lies c.reads_longest.ensures c.args.source.now c.args.lexemes.now c.requires.part c.requires.placed)

pub returns-in-Err-FirstBad-clause-fault : goal.returns-in-Err-FirstBad-clause-fault
returns-in-Err-FirstBad-clause-fault c =
    let h = rw c.in-Err-FirstBad.field-0-is at c.in-Err-FirstBad.ensures.err in
    let behind = rw c.in-Err-FirstBad.index-is at c.bad_lexeme.ensures in
    bad-front c.args.name.now c.args.source.now c.args.lexemes.now c.as_slice-in-Err-FirstBad.result.now c.in-Err-FirstBad.index c.bad_lexeme.result c.as_slice-in-Err-FirstBad.ensures h.1 behind

pub returns-in-Err-FirstBad-clause-placed : goal.returns-in-Err-FirstBad-clause-placed
returns-in-Err-FirstBad-clause-placed c =
    bad-placed c.args.source.now c.args.lexemes.now c.as_slice-in-Err-FirstBad.result.now _ c.bad_lexeme.result c.as_slice-in-Err-FirstBad.ensures c.bad_lexeme.ensures c.requires.placed

pub returns-in-Ok-clause-nodes : goal.returns-in-Ok-clause-nodes
returns-in-Ok-clause-nodes c =
    let few : length c.args.lexemes.now ≤ length c.args.source.now + 1 =
    few-lexemes c.args.source.now c.args.lexemes.now (text-further c.reads_longest.ensures c.args.source.now c.args.lexemes.now c.requires.part) c.requires.placed in
    let same = ap length c.as_slice.ensures in
    IfOk-weaker c.front_of_tree.result _ _ (λ tree nodes. omega (arith, few, same, nodes)) c.front_of_tree.ensures.nodes
