use Rattle.std.proofs.Common.{◌∙◌, refl}
use Rattle.unit_grammar.specs.UnitNodes.{unit_at}
use Rattle.module_scope.specs.Imports.{enclosing_from, imports_from, is_enclosing, is_needed, scope_at}
use Rattle.module_graph.proofs.NamedSteps.{named-end, named-step}
use Rattle.module_graph.proofs.Needs.{begun-placed, names-placed}
use Rattle.module_graph.proofs.named.named_modules.Goals as goal

pub pass-requires : goal.pass-requires
pass-requires c =
    begun-placed c.args.tree.now.source _ c.args.tree.now.tree c.args.tree.now.units c.as_slice-unit-items.result.now c.loop-unit.unit-index c.unit-item.result c.requires.placed.units c.as_str-source.ensures c.as_slice-unit-items.ensures c.loop-unit-test.true c.unit-item.is

pub push_needed-requires : goal.push_needed-requires
push_needed-requires c =
    names-placed c.args.tree.now.source _ c.args.tree.now.tree c.args.tree.now.units c.as_slice-unit-items.result.now c.loop-unit.unit-index c.unit-item.result c.as_slice-in-loop-unit.result.now c.requires.placed.units c.as_str-source.ensures c.as_slice-unit-items.ensures c.loop-unit-test.true c.unit-item.is
    (c.as_slice-in-loop-unit.ensures ∙ c.in_ok-names.ensures)

pub push_enclosing-requires : goal.push_enclosing-requires
push_enclosing-requires c =
    names-placed c.args.tree.now.source _ c.args.tree.now.tree c.args.tree.now.units c.as_slice-unit-items.result.now c.loop-unit.unit-index c.unit-item.result c.as_slice-in-loop-unit-2.result.now c.requires.placed.units c.as_str-source.ensures c.as_slice-unit-items.ensures c.loop-unit-test.true c.unit-item.is
    (c.as_slice-in-loop-unit-2.ensures ∙ c.in_ok-names.ensures)

pub loop-unit-preserved : goal.loop-unit-preserved
loop-unit-preserved c =
    let nodes = c.args.tree.now.tree in let source = c.as_str-source.result.now in let outermost = c.spelled-outermost.result.now in let unit = c.unit-item.result in let before = c.loop-unit.invariant in
    let inside = c.in_ok-pass.ensures nodes before.0 before.1 in (
      scope_at source before.0 (unit_at nodes unit),
      inside,
      named-step source (is_needed source outermost) (imports_from source outermost) (λ scope x xs. refl) nodes c.args.tree.now.units c.as_slice-unit-items.result.now c.loop-unit.unit-index unit before.0 c.loop-unit.needed c.push_needed.new.found
          c.as_slice-in-loop-unit.result.now _ before.2 c.as_slice-unit-items.ensures c.loop-unit-test.true c.unit-item.is (c.as_slice-in-loop-unit.ensures ∙ c.in_ok-names.ensures) (c.in_ok-push_needed.ensures _ inside),
      named-step source (is_enclosing source) (enclosing_from source) (λ scope x xs. refl) nodes c.args.tree.now.units c.as_slice-unit-items.result.now c.loop-unit.unit-index unit before.0 c.loop-unit.enclosing c.push_enclosing.new.found
          c.as_slice-in-loop-unit-2.result.now _ before.3 c.as_slice-unit-items.ensures c.loop-unit-test.true c.unit-item.is (c.as_slice-in-loop-unit-2.ensures ∙ c.in_ok-names.ensures) (c.in_ok-push_enclosing.ensures _ inside),
    )

pub returns : goal.returns
returns c =
    let before = c.loop-unit.invariant in let nodes = c.args.tree.now.tree in let units = c.args.tree.now.units in let items = c.as_slice-unit-items.result.now in
    record {
      needed = named-end (imports_from c.as_str-source.result.now c.spelled-outermost.result.now) (λ scope. refl) nodes units items c.loop-unit.unit-index before.0 c.loop-unit.needed _ before.2 c.as_slice-unit-items.ensures c.loop-unit-test.false;
      enclosing = named-end (enclosing_from c.as_str-source.result.now) (λ scope. refl) nodes units items c.loop-unit.unit-index before.0 c.loop-unit.enclosing _ before.3 c.as_slice-unit-items.ensures c.loop-unit-test.false;
    }
