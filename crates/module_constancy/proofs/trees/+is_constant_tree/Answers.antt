use Rattle.std.proofs.Common.{◌∙◌, ap, arith, subst, sym}
use Rattle.std.specs.Prelude.{◌&&◌}
use Rattle.std.specs.List.{AllByRecursion}
use Rattle.std.proofs.lemmas.List.{drop_all}
use Rattle.tla_model.specs.Lexemes.{LiesIn, form_lexemes}
use Rattle.module_kinds.specs.Constancy.{is_constant_form}
use Rattle.module_constancy.specs.Places.{named_at}
use Rattle.module_constancy.proofs.TreeParts.{are_constant, held-lies, part-before, part-lies, parts-beyond, tree-parts}
use Rattle.module_constancy.proofs.trees.+is_constant_tree.Goals as goal

pub is_constant_form-requires : goal.is_constant_form-requires
is_constant_form-requires g t c =
    subst (λ form. AllByRecursion (LiesIn c.args.text.now.source) (form_lexemes form)) (sym c.form.ensures) (held-lies c.args.text.now.source c.args.tree.now c.args.node c.requires.there c.requires.lie)

pub returns-then-not-is_constant_form : goal.returns-then-not-is_constant_form
returns-then-not-is_constant_form g t c =
    let source = c.args.text.now.source in
    let nodes = c.args.tree.now in
    let named = named_at (g.F.Files.constant c.args.files.now) c.args.place.now in
    let children = c.children-children.result.now in
    let form = sym (c.is_constant_form.ensures ∙ ap (is_constant_form source named) c.form.ensures) ∙ c.if-not-is_constant_form.true in
    sym (tree-parts source nodes named c.args.node children c.requires.there c.children-children.ensures.children c.children-children.ensures.before ∙ ap (λ b. b && are_constant source nodes named children) form)

pub is_constant_tree-requires : goal.is_constant_tree-requires
is_constant_tree-requires g t c =
    let source = c.args.text.now.source in
    let nodes = c.args.tree.now in
    let children = c.children-children.result.now in
    let i = c.loop-child.child-index in
    let lt = part-before source nodes c.args.node children i c.children-children.ensures.before c.loop-child-test.true in
    let there = c.requires.there in
    λ κs lives. (omega (arith, lt), (lives, (omega (arith, lt, there), part-lies source nodes c.args.node children i there c.children-children.ensures.children c.children-children.ensures.before c.loop-child-test.true c.requires.lie)))

pub returns-then-not-is_constant_tree : goal.returns-then-not-is_constant_tree
returns-then-not-is_constant_tree g t c =
    let source = c.args.text.now.source in
    let nodes = c.args.tree.now in
    let named = named_at (g.F.Files.constant c.args.files.now) c.args.place.now in
    let children = c.children-children.result.now in
    let all = are_constant source nodes named children in
    let form = sym (c.is_constant_form.ensures ∙ ap (is_constant_form source named) c.form.ensures) ∙ c.if-not-is_constant_form.false in
    parts-beyond source nodes named children c.loop-child.child-index all c.is_constant_tree.result c.loop-child-test.true c.is_constant_tree.ensures c.if-not-is_constant_tree.true c.loop-child.invariant
    ∙ sym (tree-parts source nodes named c.args.node children c.requires.there c.children-children.ensures.children c.children-children.ensures.before ∙ ap (λ b. b && all) form)

pub returns : goal.returns
returns g t c =
    let source = c.args.text.now.source in
    let nodes = c.args.tree.now in
    let named = named_at (g.F.Files.constant c.args.files.now) c.args.place.now in
    let children = c.children-children.result.now in
    let all = are_constant source nodes named children in
    let form = sym (c.is_constant_form.ensures ∙ ap (is_constant_form source named) c.form.ensures) ∙ c.if-not-is_constant_form.false in
    sym (ap (are_constant source nodes named) (drop_all c.loop-child.child-index children c.loop-child-test.false)) ∙ c.loop-child.invariant
    ∙ sym (tree-parts source nodes named c.args.node children c.requires.there c.children-children.ensures.children c.children-children.ensures.before ∙ ap (λ b. b && all) form)
