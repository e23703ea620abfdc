use Rattle.std.proofs.Common.{refl, ◌≡◌, ◌<◌, ◌∙◌, ◌++◌, ap, subst, sym}
use Rattle.std.specs.Prelude.{Some, slice_get}
use Rattle.std.specs.List.{AllByRecursion}
use Rattle.tla_tree.specs.Arena.{node_at}
use Rattle.tla_tree.proofs.Nodes.{before-there}
use Rattle.name_context.specs.AsTables.{context_of}
use Rattle.tree_tasks.specs.WalkTasks.{path_tasks, segment_of, stack, visits}
use Rattle.declared_names.proofs.Nodewise.{tree-at}
use Rattle.tree_scope.proofs.Segments.{alone, alone-found, first-found, first-other, here-lies, segment-there}
use Rattle.tree_scope.proofs.paths.begin_path.Goals as goal

pub returns-in_default-segment_of : goal.returns-in_default-segment_of
returns-in_default-segment_of g c =
    let nodes = c.args.tree.now in
    let segment = c.in-Some.field-0.now in
    let at : slice_get (node_at nodes c.args.node).children 0 ≡ Some segment = ap (λ z. slice_get z 0) (sym c.children-segments.ensures.children) ∙ sym c.in-Some.ensures.value in
    first-other c.args.text.now (g.S.Surround.around c.args.around.now) (g.S.Surround.held c.args.around.now) nodes c.args.node 0 segment at c.requires.path
    (sym (ap segment_of c.form.ensures) ∙ sym c.segment_of.ensures ∙ c.in_default-segment_of.is) (context_of c.args.context.now) c.args.findings.now (stack c.args.tasks.now.items)

pub use_first-requires : goal.use_first-requires
use_first-requires g c = λ k.
    let nodes = c.args.tree.now in
    let segment = c.in-Some.field-0.now in
    let at : slice_get (node_at nodes c.args.node).children 0 ≡ Some segment = ap (λ z. slice_get z 0) (sym c.children-segments.ensures.children) ∙ sym c.in-Some.ensures.value in
    ((refl, tt), here-lies c.args.text.now nodes c.args.node 0 segment at c.requires.path c.in-Some-segment_of.name (sym (ap segment_of c.form.ensures) ∙ sym c.segment_of.ensures ∙ c.in-Some-segment_of.is))

pub use_name-requires : goal.use_name-requires
use_name-requires g c =
    let nodes = c.args.tree.now in
    let segment = c.in-Some.field-0.now in
    let at : slice_get (node_at nodes c.args.node).children 0 ≡ Some segment = ap (λ z. slice_get z 0) (sym c.children-segments.ensures.children) ∙ sym c.in-Some.ensures.value in
    here-lies c.args.text.now nodes c.args.node 0 segment at c.requires.path c.in-Some-segment_of.name (sym (ap segment_of c.form.ensures) ∙ sym c.segment_of.ensures ∙ c.in-Some-segment_of.is)

pub returns-then-segments-eq1 : goal.returns-then-segments-eq1
returns-then-segments-eq1 g c =
    let nodes = c.args.tree.now in
    let node = c.args.node in
    let segment = c.in-Some.field-0.now in
    let at : slice_get (node_at nodes node).children 0 ≡ Some segment = ap (λ z. slice_get z 0) (sym c.children-segments.ensures.children) ∙ sym c.in-Some.ensures.value in
    let there = segment-there c.args.text.now nodes node 0 segment at c.requires.path in
    let kids = c.children.ensures.children in
    let below = subst (AllByRecursion (λ child. child < segment)) kids c.children.ensures.before in
    alone-found c.args.text.now (g.S.Surround.around c.args.around.now) (g.S.Surround.held c.args.around.now) nodes node 0 segment c.requires.there at c.requires.path
    (context_of c.args.context.now) c.in-Some-segment_of.name c.args.findings.now c.use_name.new.findings (stack c.args.tasks.now.items) (stack c.push_each.new.tasks.items)
    (tree-at nodes segment there below) (before-there nodes segment (node_at nodes segment).children there below)
    (sym (ap segment_of c.form.ensures) ∙ sym c.segment_of.ensures ∙ c.in-Some-segment_of.is)
    (alone nodes node c.children-segments.result.now c.children-segments.ensures.children c.if-segments-eq1.true)
    c.in_ok-use_name.ensures (c.in_ok-push_each.ensures ∙ ap (λ z. visits z ++ stack c.args.tasks.now.items) kids)

pub returns : goal.returns
returns g c =
    let nodes = c.args.tree.now in
    let node = c.args.node in
    let segment = c.in-Some.field-0.now in
    let at : slice_get (node_at nodes node).children 0 ≡ Some segment = ap (λ z. slice_get z 0) (sym c.children-segments.ensures.children) ∙ sym c.in-Some.ensures.value in
    let there = segment-there c.args.text.now nodes node 0 segment at c.requires.path in
    let kids = c.children-2.ensures.children in
    let below = subst (AllByRecursion (λ child. child < segment)) kids c.children-2.ensures.before in
    first-found c.args.text.now (g.S.Surround.around c.args.around.now) (g.S.Surround.held c.args.around.now) nodes node 0 segment c.requires.there at c.requires.path
    (context_of c.args.context.now) c.in-Some-segment_of.name c.in_ok-held.held c.args.findings.now c.use_first.new.findings (stack c.args.tasks.now.items) (stack c.push_path.new.tasks.items) (stack c.push_each-2.new.tasks.items)
    (tree-at nodes segment there below) (before-there nodes segment (node_at nodes segment).children there below)
    (sym (ap segment_of c.form.ensures) ∙ sym c.segment_of.ensures ∙ c.in-Some-segment_of.is) c.in_ok-held.ensures.held c.in_ok-held.ensures.findings
    (c.in_ok-push_path.ensures ∙ ap (λ z. path_tasks node 1 z c.in_ok-held.held (stack c.args.tasks.now.items)) c.path_number.ensures)
    (c.in_ok-push_each-2.ensures ∙ ap (λ z. visits z ++ stack c.push_path.new.tasks.items) kids)
