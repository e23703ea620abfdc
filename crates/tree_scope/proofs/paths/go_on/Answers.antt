use Rattle.std.proofs.Common.{◌≡◌, ◌<◌, ◌+◌, ◌∙◌, ◌++◌, length, ap, refl, subst, sym}
use Rattle.std.specs.Prelude.{Some, nat_eq, slice_get}
use Rattle.std.specs.List.{AllByRecursion}
use Rattle.std.proofs.lemmas.Option.{slice_get_read}
use Rattle.tla_tree.specs.Arena.{node_at}
use Rattle.tla_tree.proofs.Nodes.{before-there}
use Rattle.tree_tasks.specs.WalkTasks.{segment_of, stack, visits}
use Rattle.declared_names.proofs.Nodewise.{tree-at}
use Rattle.tree_scope.proofs.Segments.{further-found, further-other, here-lies, segment-there}
use Rattle.tree_scope.proofs.paths.go_on.Goals as goal

pub returns-in_default-segment_of : goal.returns-in_default-segment_of
returns-in_default-segment_of g c =
    let nodes = c.args.tree.now in
    let segment = c.in-Some.field-0.now in
    let at : slice_get (node_at nodes c.args.node).children c.args.from ≡ Some segment = ap (λ z. slice_get z c.args.from) (sym c.children-segments.ensures.children) ∙ slice_get_read c.children-segments.result.now (length c.children-segments.result.now) c.args.from segment refl c.in-Some.ensures.lookup.3.0 c.in-Some.ensures.lookup.1 in
    λ context. further-other c.args.text.now (g.S.Surround.around c.args.around.now) (g.S.Surround.held c.args.around.now) nodes c.args.node c.args.from segment at c.requires.path
    (sym (ap segment_of c.form.ensures) ∙ sym c.segment_of.ensures ∙ c.in_default-segment_of.is) c.args.number c.args.held context c.args.findings.now (stack c.args.tasks.now.items)

pub use_further-requires : goal.use_further-requires
use_further-requires g c = λ k.
    let nodes = c.args.tree.now in
    let segment = c.in-Some.field-0.now in
    let at : slice_get (node_at nodes c.args.node).children c.args.from ≡ Some segment = ap (λ z. slice_get z c.args.from) (sym c.children-segments.ensures.children) ∙ slice_get_read c.children-segments.result.now (length c.children-segments.result.now) c.args.from segment refl c.in-Some.ensures.lookup.3.0 c.in-Some.ensures.lookup.1 in
    ((refl, tt), here-lies c.args.text.now nodes c.args.node c.args.from segment at c.requires.path c.in-Some-segment_of.name (sym (ap segment_of c.form.ensures) ∙ sym c.segment_of.ensures ∙ c.in-Some-segment_of.is))

pub returns : goal.returns
returns g c =
    let nodes = c.args.tree.now in
    let node = c.args.node in
    let from = c.args.from in
    let segment = c.in-Some.field-0.now in
    let at : slice_get (node_at nodes node).children from ≡ Some segment = ap (λ z. slice_get z from) (sym c.children-segments.ensures.children) ∙ slice_get_read c.children-segments.result.now (length c.children-segments.result.now) c.args.from segment refl c.in-Some.ensures.lookup.3.0 c.in-Some.ensures.lookup.1 in
    let there = segment-there c.args.text.now nodes node from segment at c.requires.path in
    let kids = c.children.ensures.children in
    let below = subst (AllByRecursion (λ child. child < segment)) kids c.children.ensures.before in
    λ context. further-found c.args.text.now (g.S.Surround.around c.args.around.now) (g.S.Surround.held c.args.around.now) nodes node from segment c.requires.there at c.requires.path
    context c.args.number c.args.held c.in-Some-segment_of.name _ c.in_ok-next.next c.args.findings.now c.use_further.new.findings (stack c.args.tasks.now.items) (stack c.push_path.new.tasks.items) (stack c.push_each.new.tasks.items)
    (tree-at nodes segment there below) (before-there nodes segment (node_at nodes segment).children there below)
    (sym (ap segment_of c.form.ensures) ∙ sym c.segment_of.ensures ∙ c.in-Some-segment_of.is) (ap (λ z. nat_eq (from + 1) (length z)) c.children-segments.ensures.children) c.in_ok-next.ensures.held c.in_ok-next.ensures.findings
    c.in_ok-push_path.ensures
    (c.in_ok-push_each.ensures ∙ ap (λ z. visits z ++ stack c.push_path.new.tasks.items) kids)
