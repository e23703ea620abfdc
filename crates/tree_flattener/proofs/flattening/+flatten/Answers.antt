use Rattle.std.proofs.Common.{◌≡◌, Some, true, ◌<◌, [], ◌∷◌, ◌++◌, None, arith, refl, sym, ap, ◌∙◌, subst, drop, length, map}
use Rattle.std.specs.List.{AllByRecursion}
use Rattle.tla_tree.specs.Arena.{node_at, tree_at}
use Rattle.tla_tree.specs.Forms.{helps}
use Rattle.tla_tree.specs.Syntax.{Nil}
use Rattle.tla_model.specs.Entities.{defines}
use Rattle.kind_text.specs.FlatModule.{FlatModule}
use Rattle.declared_names.specs.Listed.{listed}
use Rattle.declared_names.specs.Nodes.{form_at, parts_at}
use Rattle.tree_flattener.specs.declared.rules.Taken.TheVariants as taken
use Rattle.tree_flattener.specs.Flattens.{Flattens, IsMadeDefinition, Links, LinksSome, Reads, ReadsAll, operands_of, updates_of}
use Rattle.tree_flattener.specs.Parts.{is_whole, taken_by}
use Rattle.module_model.specs.Exports.{entry_of}
use Rattle.tree_kinds.specs.TreeLevels.{declared_level}
use Rattle.tree_names.specs.Parameters.{entry_in}
use Rattle.flattened_trees.specs.Questions.{UseAs}
use Rattle.tree_flattener.specs.Steps.{Asks, IsRootMade}
use Rattle.tla_tree.specs.Arena.{AreThere}
use Rattle.tla_model.specs.Entities.{name_of}
use Rattle.flattened_trees.specs.Flattened.{right_of}
use Rattle.tree_flattener.specs.declared.instances.Right.{Right}
use Rattle.tree_flattener.specs.Making.{left_of, module_of}
use Rattle.tree_flattener.specs.Replacing.{Instantiates, IsFirst, IsRighted, rights_in}
use Rattle.tree_flattener.specs.Righting.{Rights, RightsAll, RightsSome}
use Rattle.tree_flattener.specs.Worlds.{frame_at, setting_of, world_of}
use Rattle.tree_flattener.proofs.Chains.{body-links, chain-flattens, definition-links, links-start}
use Rattle.tree_flattener.proofs.Definitions.{enters-keeps, enters-ready, function-made, nothing-made, operator-made}
use Rattle.tree_flattener.proofs.Excepts.{change-reads, except-first, except-made}
use Rattle.tree_flattener.proofs.Expressions.{plain-flattens}
use Rattle.tree_flattener.proofs.Looping.{all-done, all-ready, asked-longer, chain-done, chain-on, function-node, kid-node, operands-on, some-ready, started-there, update-node, updates-on}
use Rattle.tree_flattener.proofs.Reading.{looked-at, looked-into, not-looked, reads-start}
use Rattle.tree_flattener.proofs.Stepping.{asks-ready, ready-on}
use Rattle.tree_flattener.proofs.Walking.{all-at, at_nodes}
use Rattle.tree_flattener.proofs.Within.{below-on, longer}
use Rattle.tree_flattener.proofs.Lying.{kids-lie}
use Rattle.tree_flattener.proofs.ModuleDefinitions.{module-made, no-instance-made}
use Rattle.tree_flattener.proofs.Placing.{left-lies, module-lies, placed-node}
use Rattle.tree_flattener.proofs.RightSides.{not-righted, righted, rights-done, rights-on, rights-start}
use Rattle.tree_flattener.proofs.flattening.+flatten.Goals as goal

pub plain-add_form-requires-clause-known : goal.plain-add_form-requires-clause-known
plain-add_form-requires-clause-known g t c =
    let w = world_of (g.N.Names.leads c.args.names.now) (g.N.Names.faces c.args.names.now) c.args.written.now in
    (all-ready w _ c.ask_node.new.state c.operands.new.state c.args.frame c.args.olds.now _ _ _ c.in_ok-operands.ensures (asks-ready w c.args.state.now c.ask_node.new.state c.args.frame c.args.frame c.args.olds.now _ c.in_ok-ask_node.ensures c.requires.ready)).known

pub plain-add_form-requires-clause-olds : goal.plain-add_form-requires-clause-olds
plain-add_form-requires-clause-olds g t c =
    let w = world_of (g.N.Names.leads c.args.names.now) (g.N.Names.faces c.args.names.now) c.args.written.now in
    (all-ready w _ c.ask_node.new.state c.operands.new.state c.args.frame c.args.olds.now _ _ _ c.in_ok-operands.ensures (asks-ready w c.args.state.now c.ask_node.new.state c.args.frame c.args.frame c.args.olds.now _ c.in_ok-ask_node.ensures c.requires.ready)).repeated

pub plain-give_number-requires-clause-there : goal.plain-give_number-requires-clause-there
plain-give_number-requires-clause-there g t c =
    let l = asked-longer c.ask_node.new.state c.operands.new.state _ c.in_ok-operands.ensures.steps in
    let a = ap length (c.in_ok-i.ensures c.args.frame).questions in
    let e = c.len-to.ensures in
    let k = c.ask_node.new.state.asked.ok.0 in
    omega (arith, l, a, e, k)

pub plain-returns : goal.plain-returns
plain-returns g t c =
    let w = world_of (g.N.Names.leads c.args.names.now) (g.N.Names.faces c.args.names.now) c.args.written.now in
    let n = c.args.node in
    subst (λ x. Flattens w c.args.state.now c.give_number.new.state c.args.frame c.args.olds.now x c.in_ok-i.i) (sym c.requires.whole)
    (plain-flattens w c.args.state.now c.ask_node.new.state c.operands.new.state c.add_form.new.state c.give_number.new.state c.args.frame c.args.olds.now (form_at w.nodes n) (node_at w.nodes n).span (tree_at w.nodes) (node_at w.nodes n).children c.operands.new.is.items c.in_ok-i.i c.len-from.result c.len-to.result
    c.requires.shape c.requires.ready.framed c.in_ok-ask_node.ensures
    (subst (λ z. ReadsAll (operands_of w (setting_of w c.ask_node.new.state c.args.frame c.args.olds.now) taken.All) c.ask_node.new.state c.operands.new.state (parts_at w.nodes n) z c.operands.new.is.items) c.new-is.ensures.items c.in_ok-operands.ensures)
    (c.in_ok-i.ensures c.args.frame) c.give_number.ensures (c.len-from.ensures ∙ c.args.state.now.asked.ok.0) (c.len-to.ensures ∙ c.ask_node.new.state.asked.ok.0))

pub operands-loop-child-init : goal.operands-loop-child-init
operands-loop-child-init g t c =
    let w = world_of (g.N.Names.leads c.args.names.now) (g.N.Names.faces c.args.names.now) c.args.written.now in
    reads-start (operands_of w (setting_of w c.args.state.now c.args.frame c.args.olds.now) c.args.which) c.args.state.now (at_nodes w.nodes c.children-children.result.now) c.args.is.now.items

pub operands-operand-requires : goal.operands-operand-requires
operands-operand-requires g t c =
    let w = world_of (g.N.Names.leads c.args.names.now) (g.N.Names.faces c.args.names.now) c.args.written.now in
    let lt = all-at (λ child. child < c.args.node) c.children-children.result.now c.loop-child.child-index 0 c.children-children.ensures.before c.loop-child-test.true in
    λ κs lives. (omega (arith, lt), (lives, (kid-node w c.args.node c.children-children.result.now c.loop-child.child-index c.requires.node c.children-children.ensures.children c.children-children.ensures.before c.loop-child-test.true, some-ready w _ c.args.state.now c.loop-child.state c.args.frame c.args.olds.now _ _ _ _ c.loop-child.invariant c.requires.ready)))

pub operands-loop-child-preserved : goal.operands-loop-child-preserved
operands-loop-child-preserved g t c =
    let w = world_of (g.N.Names.leads c.args.names.now) (g.N.Names.faces c.args.names.now) c.args.written.now in
    operands-on w c.children-children.result.now c.loop-child.child-index c.args.state.now c.loop-child.state c.operand.new.state c.args.frame c.args.olds.now c.args.which c.args.is.now.items c.loop-child.is.items c.operand.new.is.items c.loop-child-test.true c.requires.ready.framed c.loop-child.invariant c.in_ok-operand.ensures

pub operands-returns : goal.operands-returns
operands-returns g t c =
    let w = world_of (g.N.Names.leads c.args.names.now) (g.N.Names.faces c.args.names.now) c.args.written.now in
    let P = operands_of w (setting_of w c.args.state.now c.args.frame c.args.olds.now) c.args.which in
    subst (λ z. ReadsAll P c.args.state.now c.loop-child.state (at_nodes w.nodes z) c.args.is.now.items c.loop-child.is.items) c.children-children.ensures.children
    (all-done w c.children-children.result.now c.loop-child.child-index P c.args.state.now c.loop-child.state c.args.is.now.items c.loop-child.is.items (λ more. (refl, refl)) c.loop-child-test.false c.loop-child.invariant)

pub operand-returns-then-not-is_taken : goal.operand-returns-then-not-is_taken
operand-returns-then-not-is_taken g t c =
    let w = world_of (g.N.Names.leads c.args.names.now) (g.N.Names.faces c.args.names.now) c.args.written.now in
    subst (λ x. Reads (operands_of w (setting_of w c.args.state.now c.args.frame c.args.olds.now) c.args.which) c.args.state.now c.args.state.now x c.args.is.now.items c.args.is.now.items) (sym c.form_of-form.ensures.whole)
    (not-looked w (setting_of w c.args.state.now c.args.frame c.args.olds.now) (form_at w.nodes c.args.child) (node_at w.nodes c.args.child).span (parts_at w.nodes c.args.child) c.args.which c.args.state.now c.args.is.now.items (sym (ap (taken_by c.args.which) c.form_of-form.ensures.form) ∙ sym c.is_taken.ensures ∙ c.if-not-is_taken.true))

pub operand-returns-then-not-is_whole : goal.operand-returns-then-not-is_whole
operand-returns-then-not-is_whole g t c =
    let w = world_of (g.N.Names.leads c.args.names.now) (g.N.Names.faces c.args.names.now) c.args.written.now in
    subst (λ x. Reads (operands_of w (setting_of w c.args.state.now c.args.frame c.args.olds.now) c.args.which) c.args.state.now c.operands.new.state x c.args.is.now.items c.operands.new.is.items) (sym c.form_of-form.ensures.whole)
    (looked-into w (setting_of w c.args.state.now c.args.frame c.args.olds.now) (form_at w.nodes c.args.child) (node_at w.nodes c.args.child).span (parts_at w.nodes c.args.child) c.args.which c.args.state.now c.operands.new.state c.args.is.now.items c.operands.new.is.items (sym (ap (taken_by c.args.which) c.form_of-form.ensures.form) ∙ sym c.is_taken.ensures ∙ c.if-not-is_taken.false) (sym (ap is_whole c.form_of-form.ensures.form) ∙ sym c.is_whole.ensures ∙ c.if-not-is_whole.true) c.in_ok-operands.ensures)

pub operand-returns : goal.operand-returns
operand-returns g t c =
    let w = world_of (g.N.Names.leads c.args.names.now) (g.N.Names.faces c.args.names.now) c.args.written.now in
    subst (λ x. Reads (operands_of w (setting_of w c.args.state.now c.args.frame c.args.olds.now) c.args.which) c.args.state.now c.flatten.new.state x c.args.is.now.items c.push.new.self.items) (sym c.form_of-form.ensures.whole)
    (looked-at w c.args.which c.args.state.now c.flatten.new.state c.args.frame c.args.olds.now (form_at w.nodes c.args.child) (node_at w.nodes c.args.child).span (parts_at w.nodes c.args.child) c.in_ok-i.i c.args.is.now.items c.push.new.self.items (sym (ap (taken_by c.args.which) c.form_of-form.ensures.form) ∙ sym c.is_taken.ensures ∙ c.if-not-is_taken.false) (sym (ap is_whole c.form_of-form.ensures.form) ∙ sym c.is_whole.ensures ∙ c.if-not-is_whole.false) c.in_ok-push.ensures.items
    (subst (λ x. Flattens w c.args.state.now c.flatten.new.state c.args.frame c.args.olds.now x c.in_ok-i.i) c.form_of-form.ensures.whole c.in_ok-i.ensures))

pub except-flatten-requires : goal.except-flatten-requires
except-flatten-requires g t c =
    let w = world_of (g.N.Names.leads c.args.names.now) (g.N.Names.faces c.args.names.now) c.args.written.now in
    let found = function-node w c.args.node c.args.function c.children-children.result.now _ c.requires.node c.children-children.ensures.children c.children-children.ensures.before (except-first (form_at w.nodes c.args.node) (node_at w.nodes c.args.node).children c.args.function c.requires.shape) in
    let lt = found.1 in
    λ κs lives. (omega (arith, lt), (lives, (found.0, asks-ready w c.args.state.now c.ask_node.new.state c.args.frame c.args.frame c.args.olds.now _ c.in_ok-ask_node.ensures c.requires.ready)))

pub except-loop-update-init : goal.except-loop-update-init
except-loop-update-init g t c =
    let w = world_of (g.N.Names.leads c.args.names.now) (g.N.Names.faces c.args.names.now) c.args.written.now in
    reads-start (updates_of w (setting_of w c.flatten.new.state c.args.frame c.args.olds.now) c.in_ok-f.f) c.flatten.new.state (at_nodes w.nodes c.rest-updates.result.now) c.push.new.self.items

pub except-change-requires : goal.except-change-requires
except-change-requires g t c =
    let w = world_of (g.N.Names.leads c.args.names.now) (g.N.Names.faces c.args.names.now) c.args.written.now in
    let found = update-node w c.args.node c.children-children.result.now c.rest-updates.result.now c.loop-update.update-index c.requires.node c.children-children.ensures.children c.children-children.ensures.before c.rest-updates.ensures c.loop-update-test.true in
    let lt = found.1 in
    λ κs lives. (omega (arith, lt), (lives, (found.0, (some-ready w _ c.flatten.new.state c.loop-update.state c.args.frame c.args.olds.now _ _ _ _ c.loop-update.invariant (ready-on w c.ask_node.new.state c.flatten.new.state c.args.frame c.args.olds.now c.in_ok-f.ensures.steps.extends c.in_ok-f.ensures.steps.frames c.in_ok-f.ensures.locals (asks-ready w c.args.state.now c.ask_node.new.state c.args.frame c.args.frame c.args.olds.now _ c.in_ok-ask_node.ensures c.requires.ready)), below-on c.flatten.new.state.flat c.loop-update.state.flat c.loop-update.invariant.steps.extends c.in_ok-f.f c.in_ok-f.ensures.there))))

pub except-loop-update-preserved : goal.except-loop-update-preserved
except-loop-update-preserved g t c =
    let w = world_of (g.N.Names.leads c.args.names.now) (g.N.Names.faces c.args.names.now) c.args.written.now in
    updates-on w c.rest-updates.result.now c.loop-update.update-index c.flatten.new.state c.loop-update.state c.change.new.state c.args.frame c.args.olds.now c.in_ok-f.f c.push.new.self.items c.loop-update.is.items c.change.new.is.items c.loop-update-test.true (ready-on w c.ask_node.new.state c.flatten.new.state c.args.frame c.args.olds.now c.in_ok-f.ensures.steps.extends c.in_ok-f.ensures.steps.frames c.in_ok-f.ensures.locals (asks-ready w c.args.state.now c.ask_node.new.state c.args.frame c.args.frame c.args.olds.now _ c.in_ok-ask_node.ensures c.requires.ready)).framed c.loop-update.invariant c.in_ok-change.ensures

pub except-add_operation-requires : goal.except-add_operation-requires
except-add_operation-requires g t c =
    record {
      parts = started-there (λ i. i < length c.loop-update.state.flat.nodes) c.push.new.self.items c.loop-update.invariant.first c.loop-update.is.items c.in_ok-f.f (c.in_ok-push.ensures.items ∙ ap (λ z. z ++ c.in_ok-f.f ∷ []) c.new-is.ensures.items) c.loop-update.invariant.is (below-on c.flatten.new.state.flat c.loop-update.state.flat c.loop-update.invariant.steps.extends c.in_ok-f.f c.in_ok-f.ensures.there) c.loop-update.invariant.there;
    }

pub except-give_number-requires-clause-there : goal.except-give_number-requires-clause-there
except-give_number-requires-clause-there g t c =
    let l = asked-longer c.ask_node.new.state c.flatten.new.state _ c.in_ok-f.ensures.steps in
    let m = asked-longer c.flatten.new.state c.loop-update.state _ c.loop-update.invariant.steps in
    let a = ap length c.in_ok-i.ensures.questions in
    let e = c.len-to.ensures in
    let k = c.ask_node.new.state.asked.ok.0 in
    omega (arith, l, m, a, e, k)

pub except-returns : goal.except-returns
except-returns g t c =
    let w = world_of (g.N.Names.leads c.args.names.now) (g.N.Names.faces c.args.names.now) c.args.written.now in
    let n = c.args.node in
    let P = updates_of w (setting_of w c.flatten.new.state c.args.frame c.args.olds.now) c.in_ok-f.f in
    subst (λ x. Flattens w c.args.state.now c.give_number.new.state c.args.frame c.args.olds.now x c.in_ok-i.i) (sym c.requires.whole)
    (except-made w c.args.state.now c.ask_node.new.state c.flatten.new.state c.loop-update.state c.add_operation.new.state c.give_number.new.state c.args.frame c.args.olds.now (node_at w.nodes n).span (tree_at w.nodes) (form_at w.nodes n) (node_at w.nodes n).children c.rest-updates.result.now c.args.function c.in_ok-f.f c.in_ok-i.i c.len-from.result c.len-to.result c.push.new.self.items c.loop-update.is.items
    c.requires.shape (c.rest-updates.ensures ∙ ap (drop 1) c.children-children.ensures.children) c.requires.ready.framed c.in_ok-ask_node.ensures c.in_ok-f.ensures (c.in_ok-push.ensures.items ∙ ap (λ z. z ++ c.in_ok-f.f ∷ []) c.new-is.ensures.items)
    (all-done w c.rest-updates.result.now c.loop-update.update-index P c.flatten.new.state c.loop-update.state c.push.new.self.items c.loop-update.is.items (λ more. (refl, refl)) c.loop-update-test.false c.loop-update.invariant)
    c.in_ok-i.ensures c.give_number.ensures (c.len-from.ensures ∙ c.args.state.now.asked.ok.0) (c.len-to.ensures ∙ c.ask_node.new.state.asked.ok.0))

pub change-operands-requires-2 : goal.change-operands-requires-2
change-operands-requires-2 g t c =
    let w = world_of (g.N.Names.leads c.args.names.now) (g.N.Names.faces c.args.names.now) c.args.written.now in
    let r = (subst (λ z. ReadsAll (operands_of w (setting_of w c.args.state.now c.args.frame c.args.olds.now) taken.Outside) c.args.state.now c.operands.new.state (parts_at w.nodes c.args.update) z c.operands.new.is.items) c.new-indices.ensures.items c.in_ok-operands.ensures) in
    let ready = all-ready w _ c.args.state.now c.operands.new.state c.args.frame c.args.olds.now _ _ _ r c.requires.ready in
    λ κs lives. (
      omega arith,
      (
        lives,
        (
          c.requires.node,
          record {
            known = ready.known;
            framed = ready.framed;
            repeated = subst (AllByRecursion (λ i. i < length c.operands.new.state.flat.nodes)) (sym ((c.deref-2.ensures.value ∙ c.in_ok-repeated.ensures ∙ ap (λ z. c.args.f ∷ z) c.deref.ensures.value) ∙ ap (λ z. c.args.f ∷ z) r.is)) (below-on c.args.state.now.flat c.operands.new.state.flat r.steps.extends c.args.f c.requires.f, r.there);
          },
        ),
      ),
    )

pub change-returns : goal.change-returns
change-returns g t c =
    let w = world_of (g.N.Names.leads c.args.names.now) (g.N.Names.faces c.args.names.now) c.args.written.now in
    let u = c.args.update in
    subst (λ x. Reads (updates_of w (setting_of w c.args.state.now c.args.frame c.args.olds.now) c.args.f) c.args.state.now c.operands-2.new.state x c.args.is.now.items c.operands-2.new.is.items) (sym c.form_of-form.ensures.whole)
    (change-reads w c.args.state.now c.operands.new.state c.operands-2.new.state c.args.frame c.args.olds.now c.args.f (form_at w.nodes u) (node_at w.nodes u).span (parts_at w.nodes u) c.args.is.now.items c.operands.new.is.items c.extend_from_slice.new.self.items c.operands-2.new.is.items c.deref-2.result.now c.requires.ready.framed (subst (λ z. ReadsAll (operands_of w (setting_of w c.args.state.now c.args.frame c.args.olds.now) taken.Outside) c.args.state.now c.operands.new.state (parts_at w.nodes c.args.update) z c.operands.new.is.items) c.new-indices.ensures.items c.in_ok-operands.ensures) (c.deref-2.ensures.value ∙ c.in_ok-repeated.ensures ∙ ap (λ z. c.args.f ∷ z) c.deref.ensures.value)
    (c.in_ok-extend_from_slice.ensures.items ∙ ap (λ z. c.args.is.now.items ++ z) c.as_slice.ensures.value) c.in_ok-operands-2.ensures)

pub chain-loop-child-init : goal.chain-loop-child-init
chain-loop-child-init g t c =
    let w = world_of (g.N.Names.leads c.args.names.now) (g.N.Names.faces c.args.names.now) c.args.written.now in
    subst (λ z. LinksSome w c.args.state.now c.args.state.now c.args.frame c.args.olds.now (at_nodes w.nodes c.children-children.result.now) (at_nodes w.nodes c.children-children.result.now) None z) (sym c.new-roots.ensures.items) (links-start w c.args.frame c.args.olds.now c.args.state.now (at_nodes w.nodes c.children-children.result.now) c.requires.ready)

pub chain-link-requires : goal.chain-link-requires
chain-link-requires g t c =
    let w = world_of (g.N.Names.leads c.args.names.now) (g.N.Names.faces c.args.names.now) c.args.written.now in
    let lt = all-at (λ child. child < c.args.node) c.children-children.result.now c.loop-child.child-index 0 c.children-children.ensures.before c.loop-child-test.true in
    λ κs lives. (omega (arith, lt), (lives, (kid-node w c.args.node c.children-children.result.now c.loop-child.child-index c.requires.node c.children-children.ensures.children c.children-children.ensures.before c.loop-child-test.true, c.loop-child.invariant.ready)))

pub chain-loop-child-preserved : goal.chain-loop-child-preserved
chain-loop-child-preserved g t c =
    let w = world_of (g.N.Names.leads c.args.names.now) (g.N.Names.faces c.args.names.now) c.args.written.now in
    chain-on w c.children-children.result.now c.loop-child.child-index c.args.state.now c.loop-child.state c.link.new.state c.args.frame c.args.olds.now c.loop-child.body c.link.new.body c.loop-child.roots.items c.link.new.roots.items c.loop-child-test.true c.loop-child.invariant c.in_ok-link.ensures

pub chain-add_let-requires-clause-body : goal.chain-add_let-requires-clause-body
chain-add_let-requires-clause-body g t c =
    subst (λ (z : FlatModule). AllByRecursion (λ i. i < length z.nodes) (listed c.loop-child.body)) (sym c.leave.ensures.flat) c.loop-child.invariant.body_there

pub chain-add_let-requires-clause-roots : goal.chain-add_let-requires-clause-roots
chain-add_let-requires-clause-roots g t c =
    subst (λ (z : FlatModule). AllByRecursion (λ i. i < length z.nodes) c.loop-child.roots.items) (sym c.leave.ensures.flat) c.loop-child.invariant.there

pub chain-returns : goal.chain-returns
chain-returns g t c =
    let w = world_of (g.N.Names.leads c.args.names.now) (g.N.Names.faces c.args.names.now) c.args.written.now in
    let n = c.args.node in
    subst (λ x. Flattens w c.args.state.now c.add_let.new.state c.args.frame c.args.olds.now x c.in_ok-i.i) (sym c.requires.whole)
    (chain-flattens w c.args.state.now c.loop-child.state c.leave.new.state c.add_let.new.state c.args.frame c.args.olds.now (form_at w.nodes n) (node_at w.nodes n).span (parts_at w.nodes n) (node_at w.nodes n).children c.loop-child.body c.loop-child.roots.items c.len-mark.result c.in_ok-i.i
    c.requires.shape
    (subst (λ z. LinksSome w c.args.state.now c.loop-child.state c.args.frame c.args.olds.now (at_nodes w.nodes z) Nil c.loop-child.body c.loop-child.roots.items) c.children-children.ensures.children
    (chain-done w c.children-children.result.now c.loop-child.child-index c.args.state.now c.loop-child.state c.args.frame c.args.olds.now c.loop-child.body c.loop-child.roots.items c.loop-child-test.false c.loop-child.invariant))
    c.leave.ensures (c.len-mark.ensures ∙ c.args.state.now.locals.ok.0) c.in_ok-i.ensures)

pub link-returns-then-helps : goal.link-returns-then-helps
link-returns-then-helps g t c =
    let w = world_of (g.N.Names.leads c.args.names.now) (g.N.Names.faces c.args.names.now) c.args.written.now in
    subst (λ x. Links w c.args.state.now c.definition.new.state c.args.frame c.args.olds.now x c.args.body.now c.args.body.now c.args.roots.now.items c.definition.new.roots.items) (sym c.form_of.ensures.whole)
    (definition-links w c.args.frame c.args.olds.now c.args.state.now c.definition.new.state (form_at w.nodes c.args.child) (node_at w.nodes c.args.child).span (parts_at w.nodes c.args.child) c.args.body.now c.args.roots.now.items c.definition.new.roots.items (sym (ap helps c.form_of.ensures.form) ∙ sym c.helps.ensures ∙ c.if-helps.true)
    (subst (λ x. IsMadeDefinition w c.args.state.now c.definition.new.state c.args.frame c.args.olds.now x c.args.roots.now.items c.definition.new.roots.items) c.form_of.ensures.whole c.in_ok-definition.ensures))

pub link-returns : goal.link-returns
link-returns g t c =
    let w = world_of (g.N.Names.leads c.args.names.now) (g.N.Names.faces c.args.names.now) c.args.written.now in
    subst (λ x. Links w c.args.state.now c.flatten.new.state c.args.frame c.args.olds.now x c.args.body.now c.put_body.new.body c.args.roots.now.items c.args.roots.now.items) (sym c.form_of.ensures.whole)
    (body-links w c.args.frame c.args.olds.now c.args.state.now c.flatten.new.state (form_at w.nodes c.args.child) (node_at w.nodes c.args.child).span (parts_at w.nodes c.args.child) c.in_ok-i.i c.args.body.now c.put_body.new.body c.args.roots.now.items (sym (ap helps c.form_of.ensures.form) ∙ sym c.helps.ensures ∙ c.if-helps.false) c.requires.ready c.put_body.ensures
    (subst (λ x. Flattens w c.args.state.now c.flatten.new.state c.args.frame c.args.olds.now x c.in_ok-i.i) c.form_of.ensures.whole c.in_ok-i.ensures))

pub definition-returns-in-Nothing : goal.definition-returns-in-Nothing
definition-returns-in-Nothing g t c =
    let w = world_of (g.N.Names.leads c.args.names.now) (g.N.Names.faces c.args.names.now) c.args.written.now in
    subst (λ x. IsMadeDefinition w c.args.state.now c.args.state.now c.args.frame c.args.olds.now x c.args.roots.now.items c.args.roots.now.items) (sym c.form_of.ensures.whole)
    (nothing-made w c.args.state.now c.args.frame c.args.olds.now (form_at w.nodes c.args.node) (node_at w.nodes c.args.node).span (parts_at w.nodes c.args.node) c.args.roots.now.items (sym (ap defines c.form_of.ensures.form) ∙ sym c.in-Nothing.ensures) c.requires.ready)

pub operator-operands-requires : goal.operator-operands-requires
operator-operands-requires g t c =
    let w = world_of (g.N.Names.leads c.args.names.now) (g.N.Names.faces c.args.names.now) c.args.written.now in
    λ κs lives. (omega arith, (lives, (c.requires.node, enters-ready w c.ask_definition.new.state c.enter.new.state c.args.frame (form_at w.nodes c.args.node) (parts_at w.nodes c.args.node) c.in_ok-entered.entered c.in_ok-entered.ensures c.args.olds.now (asks-ready w c.args.state.now c.ask_definition.new.state c.args.frame c.args.frame c.args.olds.now _ c.in_ok-ask_definition.ensures c.requires.ready))))

pub operator-root_of-requires : goal.operator-root_of-requires
operator-root_of-requires g t c =
    let w = world_of (g.N.Names.leads c.args.names.now) (g.N.Names.faces c.args.names.now) c.args.written.now in
    let r = (subst (λ z. ReadsAll (operands_of w (setting_of w c.enter.new.state c.in_ok-entered.entered.frame c.args.olds.now) taken.All) c.enter.new.state c.operands.new.state (parts_at w.nodes c.args.node) z c.operands.new.is.items) c.new-is.ensures.items c.in_ok-operands.ensures) in
    subst (AllByRecursion (λ i. i < length c.leave.new.state.flat.nodes)) (sym (c.as_slice.ensures.value ∙ r.is)) (subst (λ (z : FlatModule). AllByRecursion (λ i. i < length z.nodes) r.first) (sym c.leave.ensures.flat) r.there)

pub operator-define-requires : goal.operator-define-requires
operator-define-requires g t c =
    let w = world_of (g.N.Names.leads c.args.names.now) (g.N.Names.faces c.args.names.now) c.args.written.now in
    let a = ap length c.in_ok-ask_definition.ensures.frames in
    let b = longer c.ask_definition.new.state.frames.items c.enter.new.state.frames.items (enters-keeps w c.ask_definition.new.state c.enter.new.state c.args.frame (form_at w.nodes c.args.node) (parts_at w.nodes c.args.node) c.in_ok-entered.entered c.in_ok-entered.ensures) in
    let d = longer c.enter.new.state.frames.items c.operands.new.state.frames.items c.in_ok-operands.ensures.steps.frames in
    let e = ap length c.leave.ensures.frames in
    let f = ap length c.in_ok-root.ensures.frames in
    let h = c.requires.ready.framed in
    omega (arith, a, b, d, e, f, h)

pub operator-returns : goal.operator-returns
operator-returns g t c =
    let w = world_of (g.N.Names.leads c.args.names.now) (g.N.Names.faces c.args.names.now) c.args.written.now in
    subst (λ x. IsMadeDefinition w c.args.state.now c.give_number.new.state c.args.frame c.args.olds.now x c.args.roots.now.items c.push.new.self.items) (sym c.requires.whole)
    (operator-made w c.args.state.now c.ask_definition.new.state c.enter.new.state c.operands.new.state c.leave.new.state c.root_of.new.state c.define.new.state c.put_name.new.state c.give_number.new.state c.args.frame c.args.olds.now (form_at w.nodes c.args.node) (node_at w.nodes c.args.node).span (parts_at w.nodes c.args.node) c.in_ok-entered.entered c.args.name c.operands.new.is.items c.in_ok-root.root c.in_ok-d.d c.len-mark.result c.len-from.result c.len-to.result c.args.roots.now.items c.push.new.self.items
    c.requires.defines c.requires.ready c.in_ok-ask_definition.ensures c.in_ok-entered.ensures (subst (λ z. ReadsAll (operands_of w (setting_of w c.enter.new.state c.in_ok-entered.entered.frame c.args.olds.now) taken.All) c.enter.new.state c.operands.new.state (parts_at w.nodes c.args.node) z c.operands.new.is.items) c.new-is.ensures.items c.in_ok-operands.ensures) c.leave.ensures (c.len-mark.ensures ∙ c.ask_definition.new.state.locals.ok.0)
    (subst (λ z. IsRootMade c.leave.new.state c.root_of.new.state z c.in_ok-root.root) c.as_slice.ensures.value c.in_ok-root.ensures) c.in_ok-d.ensures c.in_ok-put_name.ensures c.give_number.ensures (c.len-from.ensures ∙ c.args.state.now.asked.ok.0) (c.len-to.ensures ∙ c.ask_definition.new.state.asked.ok.0) c.in_ok-push.ensures.items)

pub function-define-requires : goal.function-define-requires
function-define-requires g t c =
    let a = ap length c.in_ok-ask_definition.ensures.frames in
    let b = ap length c.in_ok-ask_node.ensures.frames in
    let d = longer c.ask_node.new.state.frames.items c.operands.new.state.frames.items c.in_ok-operands.ensures.steps.frames in
    let e = ap length c.in_ok-root.ensures.frames in
    let f = ap length c.give_number.ensures.frames in
    let h = c.requires.ready.framed in
    omega (arith, a, b, d, e, f, h)

pub function-returns : goal.function-returns
function-returns g t c =
    let w = world_of (g.N.Names.leads c.args.names.now) (g.N.Names.faces c.args.names.now) c.args.written.now in
    subst (λ x. IsMadeDefinition w c.args.state.now c.give_number-2.new.state c.args.frame c.args.olds.now x c.args.roots.now.items c.push.new.self.items) (sym c.requires.whole)
    (function-made w c.args.state.now c.ask_definition.new.state c.ask_node.new.state c.operands.new.state c.add_operation.new.state c.give_number.new.state c.define.new.state c.put_name.new.state c.give_number-2.new.state c.args.frame c.args.olds.now (form_at w.nodes c.args.node) (node_at w.nodes c.args.node).span (parts_at w.nodes c.args.node) c.args.name c.operands.new.is.items c.in_ok-root.root c.in_ok-d.d c.len-from.result c.len-middle.result c.len-to.result c.args.roots.now.items c.push.new.self.items
    c.requires.defines c.requires.ready c.in_ok-ask_definition.ensures c.in_ok-ask_node.ensures (subst (λ z. ReadsAll (operands_of w (setting_of w c.ask_node.new.state c.args.frame c.args.olds.now) taken.All) c.ask_node.new.state c.operands.new.state (parts_at w.nodes c.args.node) z c.operands.new.is.items) c.new-is.ensures.items c.in_ok-operands.ensures) c.in_ok-root.ensures c.give_number.ensures c.in_ok-d.ensures c.in_ok-put_name.ensures c.give_number-2.ensures (c.len-from.ensures ∙ c.args.state.now.asked.ok.0) (c.len-middle.ensures ∙ c.ask_definition.new.state.asked.ok.0) (c.len-to.ensures ∙ c.ask_node.new.state.asked.ok.0) c.in_ok-push.ensures.items)

pub module_definition-returns-in_ok-put_name-in-None : goal.module_definition-returns-in_ok-put_name-in-None
module_definition-returns-in_ok-put_name-in-None g t c =
    let w = world_of (g.N.Names.leads c.args.names.now) (g.N.Names.faces c.args.names.now) c.args.written.now in
    subst (λ x. IsMadeDefinition w c.args.state.now c.put_name.new.state c.args.frame c.args.olds.now x c.args.roots.now.items c.args.roots.now.items) (sym c.requires.whole)
    (no-instance-made w c.args.state.now c.put_name.new.state c.args.frame c.args.olds.now (form_at w.nodes c.args.node) (node_at w.nodes c.args.node).span (node_at w.nodes c.args.node).children c.args.name c.args.roots.now.items c.requires.defines c.requires.ready
    (subst (AreThere w.nodes) c.children-children.ensures.children (kids-lie w c.args.node c.children-children.result.now c.requires.node c.children-children.ensures.children c.children-children.ensures.before).there)
    (subst (AllByRecursion (λ number. module_of (node_at w.nodes number).form ≡ None)) c.children-children.ensures.children c.in-None.ensures) c.in_ok-put_name-in-None.ensures)

pub module_definition-instance_definition-requires : goal.module_definition-instance_definition-requires
module_definition-instance_definition-requires g t c =
    let w = world_of (g.N.Names.leads c.args.names.now) (g.N.Names.faces c.args.names.now) c.args.written.now in
    λ κs lives. (omega arith, (lives, (c.requires.node, (c.requires.ready, (c.requires.whole, (c.requires.defines, subst (λ z. IsFirst w.nodes z (Some c.in-Some.placed)) c.children-children.ensures.children c.in-Some.ensures))))))

pub instance_definition-form_of-form-requires : goal.instance_definition-form_of-form-requires
instance_definition-form_of-form-requires g t c =
    let w = world_of (g.N.Names.leads c.args.names.now) (g.N.Names.faces c.args.names.now) c.args.written.now in
    (placed-node w c.args.node c.args.placed.node c.children-children.result.now c.requires.placed.0 c.requires.placed.1 c.requires.node c.children-children.ensures.children c.children-children.ensures.before (c.children-children.ensures.children ∙ c.requires.placed.2)).0.there

pub instance_definition-right_sides-requires : goal.instance_definition-right_sides-requires
instance_definition-right_sides-requires g t c =
    let w = world_of (g.N.Names.leads c.args.names.now) (g.N.Names.faces c.args.names.now) c.args.written.now in
    let found = placed-node w c.args.node c.args.placed.node c.children-children.result.now c.requires.placed.0 c.requires.placed.1 c.requires.node c.children-children.ensures.children c.children-children.ensures.before (c.children-children.ensures.children ∙ c.requires.placed.2) in
    let lt = found.1 in
    λ κs lives. (omega (arith, lt), (lives, (found.0, (enters-ready w c.ask_instance.new.state c.enter.new.state c.args.frame (form_at w.nodes c.args.node) (parts_at w.nodes c.args.node) c.in_ok-entered.entered c.in_ok-entered.ensures c.args.olds.now (asks-ready w c.args.state.now c.ask_instance.new.state c.args.frame c.args.frame c.args.olds.now _ c.in_ok-ask_instance.ensures c.requires.ready), (module-lies w c.args.placed.node c.args.placed.«module» found.0 c.requires.placed.4, c.new-found.ensures.items)))))

pub instance_definition-instantiate-requires-clause-ready : goal.instance_definition-instantiate-requires-clause-ready
instance_definition-instantiate-requires-clause-ready g t c =
    let w = world_of (g.N.Names.leads c.args.names.now) (g.N.Names.faces c.args.names.now) c.args.written.now in
    let r = c.in_ok-right_sides.ensures in
    let ready = ready-on w c.enter.new.state c.right_sides.new.state c.in_ok-entered.entered.frame c.args.olds.now r.steps.extends r.steps.frames r.locals (enters-ready w c.ask_instance.new.state c.enter.new.state c.args.frame (form_at w.nodes c.args.node) (parts_at w.nodes c.args.node) c.in_ok-entered.entered c.in_ok-entered.ensures c.args.olds.now (asks-ready w c.args.state.now c.ask_instance.new.state c.args.frame c.args.frame c.args.olds.now _ c.in_ok-ask_instance.ensures c.requires.ready)) in
    record { known = ready.known; framed = ready.framed; repeated = tt }

pub instance_definition-instantiate-requires-clause-outside : goal.instance_definition-instantiate-requires-clause-outside
instance_definition-instantiate-requires-clause-outside g t c =
    let w = world_of (g.N.Names.leads c.args.names.now) (g.N.Names.faces c.args.names.now) c.args.written.now in
    let a = ap length c.in_ok-ask_instance.ensures.frames in
    let b = longer c.ask_instance.new.state.frames.items c.enter.new.state.frames.items (enters-keeps w c.ask_instance.new.state c.enter.new.state c.args.frame (form_at w.nodes c.args.node) (parts_at w.nodes c.args.node) c.in_ok-entered.entered c.in_ok-entered.ensures) in
    let d = longer c.enter.new.state.frames.items c.right_sides.new.state.frames.items c.in_ok-right_sides.ensures.steps.frames in
    let h = c.requires.ready.framed in
    omega (arith, a, b, d, h)

pub instance_definition-instantiate-requires-clause-rights : goal.instance_definition-instantiate-requires-clause-rights
instance_definition-instantiate-requires-clause-rights g t c =
    let w = world_of (g.N.Names.leads c.args.names.now) (g.N.Names.faces c.args.names.now) c.args.written.now in
    subst (AllByRecursion (λ (right : Right). right.node < length c.right_sides.new.state.flat.nodes)) (sym c.deref.ensures.value) c.in_ok-right_sides.ensures.rights_there

pub instance_definition-instantiate-requires-clause-lies : goal.instance_definition-instantiate-requires-clause-lies
instance_definition-instantiate-requires-clause-lies g t c =
    let w = world_of (g.N.Names.leads c.args.names.now) (g.N.Names.faces c.args.names.now) c.args.written.now in
    module-lies w c.args.placed.node c.args.placed.«module» (placed-node w c.args.node c.args.placed.node c.children-children.result.now c.requires.placed.0 c.requires.placed.1 c.requires.node c.children-children.ensures.children c.children-children.ensures.before (c.children-children.ensures.children ∙ c.requires.placed.2)).0 c.requires.placed.4

pub instance_definition-returns : goal.instance_definition-returns
instance_definition-returns g t c =
    let w = world_of (g.N.Names.leads c.args.names.now) (g.N.Names.faces c.args.names.now) c.args.written.now in
    let found = placed-node w c.args.node c.args.placed.node c.children-children.result.now c.requires.placed.0 c.requires.placed.1 c.requires.node c.children-children.ensures.children c.children-children.ensures.before (c.children-children.ensures.children ∙ c.requires.placed.2) in
    subst (λ x. IsMadeDefinition w c.args.state.now c.give_number.new.state c.args.frame c.args.olds.now x c.args.roots.now.items c.right_sides.new.roots.items) (sym c.requires.whole)
    (module-made w c.args.state.now c.ask_instance.new.state c.enter.new.state c.right_sides.new.state c.instantiate.new.state c.leave.new.state c.put_name.new.state c.give_number.new.state c.args.frame c.args.olds.now (form_at w.nodes c.args.node) (node_at w.nodes c.args.node).span c.in_ok-entered.entered c.args.name c.args.placed.«module» c.args.placed.node c.in_ok-j.j c.len-mark.result c.len-from.result c.len-to.result
    (node_at w.nodes c.args.node).children c.requires.placed.0 c.requires.placed.1 c.right_sides.new.found.items c.args.roots.now.items c.right_sides.new.roots.items
    c.requires.defines c.requires.ready (subst (AreThere w.nodes) c.children-children.ensures.children (kids-lie w c.args.node c.children-children.result.now c.requires.node c.children-children.ensures.children c.children-children.ensures.before).there) c.requires.placed.2 c.requires.placed.3 c.requires.placed.4 c.form_of-form.ensures.whole (module-lies w c.args.placed.node c.args.placed.«module» found.0 c.requires.placed.4)
    c.in_ok-ask_instance.ensures c.in_ok-entered.ensures c.in_ok-right_sides.ensures
    (subst (λ z. Instantiates w (setting_of w c.right_sides.new.state c.in_ok-entered.entered.frame []) (length (frame_at c.right_sides.new.state.frames.items c.args.frame)) c.in_ok-entered.entered.count true c.args.placed.«module» (rights_in z) c.right_sides.new.state c.instantiate.new.state c.in_ok-j.j) c.deref.ensures.value c.in_ok-j.ensures)
    c.leave.ensures (c.len-mark.ensures ∙ c.ask_instance.new.state.locals.ok.0) c.in_ok-put_name.ensures c.give_number.ensures (c.len-from.ensures ∙ c.args.state.now.asked.ok.0) (c.len-to.ensures ∙ c.ask_instance.new.state.asked.ok.0))

pub right_sides-loop-child-init : goal.right_sides-loop-child-init
right_sides-loop-child-init g t c =
    let w = world_of (g.N.Names.leads c.args.names.now) (g.N.Names.faces c.args.names.now) c.args.written.now in
    subst (λ z. RightsSome w c.args.state.now c.args.state.now c.args.frame c.args.olds.now c.args.«module» (at_nodes w.nodes c.children-children.result.now) (at_nodes w.nodes c.children-children.result.now) z c.args.roots.now.items c.args.roots.now.items) (sym c.requires.none)
    (rights-start w c.args.frame c.args.olds.now c.args.«module» c.args.state.now (at_nodes w.nodes c.children-children.result.now) c.args.roots.now.items)

pub right_sides-right_side-requires : goal.right_sides-right_side-requires
right_sides-right_side-requires g t c =
    let w = world_of (g.N.Names.leads c.args.names.now) (g.N.Names.faces c.args.names.now) c.args.written.now in
    let lt = all-at (λ child. child < c.args.node) c.children-children.result.now c.loop-child.child-index 0 c.children-children.ensures.before c.loop-child-test.true in
    let inv = c.loop-child.invariant in
    λ κs lives. (omega (arith, lt), (lives, (kid-node w c.args.node c.children-children.result.now c.loop-child.child-index c.requires.node c.children-children.ensures.children c.children-children.ensures.before c.loop-child-test.true, (ready-on w c.args.state.now c.loop-child.state c.args.frame c.args.olds.now inv.steps.extends inv.steps.frames inv.locals c.requires.ready, ap (map entry_in) c.as_slice-items.ensures ∙ c.in_ok-parameters.ensures ∙ ap (λ z. (w.faces z).parameters) c.spelled.ensures))))

pub right_sides-loop-child-preserved : goal.right_sides-loop-child-preserved
right_sides-loop-child-preserved g t c =
    let w = world_of (g.N.Names.leads c.args.names.now) (g.N.Names.faces c.args.names.now) c.args.written.now in
    rights-on w c.args.frame c.args.olds.now c.args.«module» c.args.state.now c.loop-child.state c.right_side.new.state c.children-children.result.now c.loop-child.child-index c.loop-child.found.items c.right_side.new.found.items c.args.roots.now.items c.loop-child.roots.items c.right_side.new.roots.items c.loop-child-test.true c.requires.ready.framed c.loop-child.invariant c.in_ok-right_side.ensures

pub right_sides-returns : goal.right_sides-returns
right_sides-returns g t c =
    let w = world_of (g.N.Names.leads c.args.names.now) (g.N.Names.faces c.args.names.now) c.args.written.now in
    subst (λ z. RightsAll w c.args.state.now c.loop-child.state c.args.frame c.args.olds.now c.args.«module» (at_nodes w.nodes z) c.loop-child.found.items c.args.roots.now.items c.loop-child.roots.items) c.children-children.ensures.children
    (rights-done w c.args.frame c.args.olds.now c.args.«module» c.args.state.now c.loop-child.state c.children-children.result.now c.loop-child.child-index c.loop-child.found.items c.args.roots.now.items c.loop-child.roots.items c.loop-child-test.false c.loop-child.invariant)

pub right_side-returns-in-None : goal.right_side-returns-in-None
right_side-returns-in-None g t c =
    let w = world_of (g.N.Names.leads c.args.names.now) (g.N.Names.faces c.args.names.now) c.args.written.now in
    subst (λ x. Rights w c.args.state.now c.args.state.now c.args.frame c.args.olds.now c.args.«module» x c.args.found.now.items c.args.found.now.items c.args.roots.now.items c.args.roots.now.items) (sym c.form_of-form.ensures.whole)
    (not-righted w c.args.state.now c.args.frame c.args.olds.now c.args.«module» (form_at w.nodes c.args.child) (node_at w.nodes c.args.child).span (parts_at w.nodes c.args.child) c.args.found.now.items c.args.roots.now.items (c.in-None.ensures ∙ ap left_of c.form_of-form.ensures.form))

pub right_side-ask_left-requires : goal.right_side-ask_left-requires
right_side-ask_left-requires g t c =
    let w = world_of (g.N.Names.leads c.args.names.now) (g.N.Names.faces c.args.names.now) c.args.written.now in
    left-lies w c.args.child c.in-Some.left c.requires.node (sym (c.in-Some.ensures ∙ ap left_of c.form_of-form.ensures.form))

pub right_side-operands-requires : goal.right_side-operands-requires
right_side-operands-requires g t c =
    let w = world_of (g.N.Names.leads c.args.names.now) (g.N.Names.faces c.args.names.now) c.args.written.now in
    λ κs lives. (omega arith, (lives, (c.requires.node, asks-ready w c.args.state.now c.ask_left.new.state c.args.frame c.args.frame c.args.olds.now _ c.in_ok-ask_left-in-Some.ensures c.requires.ready)))

pub right_side-push_right-requires-clause-left : goal.right_side-push_right-requires-clause-left
right_side-push_right-requires-clause-left g t c =
    let w = world_of (g.N.Names.leads c.args.names.now) (g.N.Names.faces c.args.names.now) c.args.written.now in
    left-lies w c.args.child c.in-Some.left c.requires.node (sym (c.in-Some.ensures ∙ ap left_of c.form_of-form.ensures.form))

pub right_side-returns-in_ok-extend_from_slice-in-Some : goal.right_side-returns-in_ok-extend_from_slice-in-Some
right_side-returns-in_ok-extend_from_slice-in-Some g t c =
    let w = world_of (g.N.Names.leads c.args.names.now) (g.N.Names.faces c.args.names.now) c.args.written.now in
    subst (λ x. Rights w c.args.state.now c.operands.new.state c.args.frame c.args.olds.now c.args.«module» x c.args.found.now.items c.push_right.new.rights.items c.args.roots.now.items c.extend_from_slice.new.self.items) (sym c.form_of-form.ensures.whole)
    (righted w c.args.state.now c.ask_left.new.state c.operands.new.state c.args.frame c.args.olds.now c.args.«module» c.in-Some.left (form_at w.nodes c.args.child) (node_at w.nodes c.args.child).span (parts_at w.nodes c.args.child) c.args.found.now.items c.push_right.new.rights.items c.operands.new.is.items c.args.roots.now.items c.extend_from_slice.new.self.items
    (c.in-Some.ensures ∙ ap left_of c.form_of-form.ensures.form) c.requires.ready.framed (subst (λ z. Asks c.args.state.now c.ask_left.new.state c.args.frame (UseAs c.in-Some.left (declared_level (entry_of z (name_of w.text.source c.in-Some.left))) ∷ [])) c.requires.parameters c.in_ok-ask_left-in-Some.ensures) (subst (λ z. ReadsAll (operands_of w (setting_of w c.ask_left.new.state c.args.frame c.args.olds.now) taken.All) c.ask_left.new.state c.operands.new.state (parts_at w.nodes c.args.child) z c.operands.new.is.items) c.new-is.ensures.items c.in_ok-operands-in-Some.ensures)
    (subst (λ z. IsRighted c.args.found.now.items c.push_right.new.rights.items (right_of (name_of w.text.source c.in-Some.left) (parts_at w.nodes c.args.child) z)) c.as_slice.ensures.value c.in_ok-push_right-in-Some.ensures)
    (c.in_ok-extend_from_slice-in-Some.ensures.items ∙ ap (λ z. c.args.roots.now.items ++ z) c.as_slice-in-Some.ensures.value))
