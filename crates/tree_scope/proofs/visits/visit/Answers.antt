use Rattle.std.proofs.Common.{◌<◌, ◌∙◌, ◌∷◌, ◌++◌, ap, refl, subst, sym}
use Rattle.std.specs.List.{AllByRecursion}
use Rattle.std.proofs.lemmas.Result.{on_ok_weaker}
use Rattle.tla_tree.specs.Arena.{node_at}
use Rattle.tla_tree.proofs.Nodes.{before-there}
use Rattle.name_context.specs.AsTables.{context_of, mark_of}
use Rattle.declared_names.specs.Nodes.{form_at}
use Rattle.tree_tasks.specs.WalkTasks.{between_tasks, chain, function_tasks, image_tasks, leave, naming, scope_tasks, stack, used, visits}
use Rattle.declared_names.proofs.Nodewise.{tree-at}
use Rattle.tree_scope.proofs.NamesInText.{held-lies}
use Rattle.tree_scope.proofs.Replacing.{children-path, instance-done}
use Rattle.tree_scope.proofs.NodeTasks.{plain-done, function-done, function-lies, instance-lies, image-done, order-done, bare-done, before-done, behind-done, between-done, path-done}
use Rattle.tree_scope.proofs.visits.visit.Goals as goal

pub push_image-requires : goal.push_image-requires
push_image-requires g c = before-there c.args.tree.now c.args.node c.children-children.result.now c.requires.node.there c.children-children.ensures.before

pub push_function-requires : goal.push_function-requires
push_function-requires g c = before-there c.args.tree.now c.args.node c.children-children.result.now c.requires.node.there c.children-children.ensures.before

pub push_scope-requires : goal.push_scope-requires
push_scope-requires g c = before-there c.args.tree.now c.args.node c.children-children.result.now c.requires.node.there c.children-children.ensures.before

pub begin_path-requires : goal.begin_path-requires
begin_path-requires g c = λ k.
    let nodes = c.args.tree.now in
    let node = c.args.node in
    ((refl, tt), (c.requires.node.there, children-path c.args.text.now nodes node c.requires.node (node_at nodes node).children refl (subst (AllByRecursion (λ child. child < node)) c.children-children.ensures.children c.children-children.ensures.before)))

pub begin-requires-clause-there : goal.begin-requires-clause-there
begin-requires-clause-there g c = before-there c.args.tree.now c.args.node c.children-children.result.now c.requires.node.there c.children-children.ensures.before

pub begin-requires-in-BoundsFirst-clause-there : goal.begin-requires-in-BoundsFirst-clause-there
begin-requires-in-BoundsFirst-clause-there g c = before-there c.args.tree.now c.args.node c.children-children.result.now c.requires.node.there c.children-children.ensures.before

pub returns-in-Path : goal.returns-in-Path
returns-in-Path g c =
    let nodes = c.args.tree.now in
    let node = c.args.node in
    let kids = c.children-children.ensures.children in
    let below = subst (AllByRecursion (λ child. child < node)) kids c.children-children.ensures.before in
    let whole = tree-at nodes node c.requires.node.there below in
    let there = before-there nodes node (node_at nodes node).children c.requires.node.there below in
    let named = sym (ap naming c.form.ensures) ∙ sym c.naming_of.ensures ∙ c.in-Path.is in
    on_ok_weaker c.begin_path.result (λ fact.
    path-done c.args.text.now (g.S.Surround.around c.args.around.now) (g.S.Surround.held c.args.around.now) nodes node c.requires.node whole there (context_of c.args.context.now) c.args.findings.now c.begin_path.new.findings (stack c.args.tasks.now.items) (stack c.begin_path.new.tasks.items) named c.requires.tasks
    fact) c.begin_path.ensures

pub returns-in_ok-push_instance-in-Instance : goal.returns-in_ok-push_instance-in-Instance
returns-in_ok-push_instance-in-Instance g c =
    let nodes = c.args.tree.now in
    let node = c.args.node in
    let kids = c.children-children.ensures.children in
    let below = subst (AllByRecursion (λ child. child < node)) kids c.children-children.ensures.before in
    let whole = tree-at nodes node c.requires.node.there below in
    let there = before-there nodes node (node_at nodes node).children c.requires.node.there below in
    let named = sym (ap naming c.form.ensures) ∙ sym c.naming_of.ensures ∙ c.in-Instance.is in
    instance-done c.args.text.now (g.S.Surround.around c.args.around.now) (g.S.Surround.held c.args.around.now) nodes node c.requires.node whole there c.in-Instance.«module» (context_of c.args.context.now) c.args.findings.now (stack c.args.tasks.now.items) (stack c.push_instance.new.tasks.items) named
    (instance-lies c.args.text.now (form_at nodes node) c.in-Instance.«module» named (held-lies c.args.text.now.source nodes node c.requires.node.there c.requires.node.lie)) c.requires.tasks c.in_ok-push_instance-in-Instance.ensures.whole c.in_ok-push_instance-in-Instance.ensures.due

pub returns-in-Bare : goal.returns-in-Bare
returns-in-Bare g c =
    let nodes = c.args.tree.now in
    let node = c.args.node in
    let kids = c.children-children.ensures.children in
    let below = subst (AllByRecursion (λ child. child < node)) kids c.children-children.ensures.before in
    let whole = tree-at nodes node c.requires.node.there below in
    let there = before-there nodes node (node_at nodes node).children c.requires.node.there below in
    let named = sym (ap naming c.form.ensures) ∙ sym c.naming_of.ensures ∙ c.in-Bare.is in
    on_ok_weaker c.use_symbol.result (λ fact.
    bare-done c.args.text.now (g.S.Surround.around c.args.around.now) (g.S.Surround.held c.args.around.now) nodes node c.requires.node whole there c.in-Bare.at (context_of c.args.context.now) c.args.findings.now c.use_symbol.new.findings (stack c.args.tasks.now.items) named c.requires.tasks fact) c.use_symbol.ensures

pub returns-in_ok-use_prefix-in-Prefix : goal.returns-in_ok-use_prefix-in-Prefix
returns-in_ok-use_prefix-in-Prefix g c =
    let nodes = c.args.tree.now in
    let node = c.args.node in
    let kids = c.children-children.ensures.children in
    let below = subst (AllByRecursion (λ child. child < node)) kids c.children-children.ensures.before in
    let whole = tree-at nodes node c.requires.node.there below in
    let there = before-there nodes node (node_at nodes node).children c.requires.node.there below in
    let named = sym (ap naming c.form.ensures) ∙ sym c.naming_of.ensures ∙ c.in-Prefix.is in
    on_ok_weaker c.push_each.result (λ fact.
    before-done c.args.text.now (g.S.Surround.around c.args.around.now) (g.S.Surround.held c.args.around.now) nodes node c.requires.node whole there c.in-Prefix.at (context_of c.args.context.now) c.args.findings.now c.use_prefix.new.findings (stack c.args.tasks.now.items) (stack c.push_each.new.tasks.items) named c.requires.tasks c.in_ok-use_prefix-in-Prefix.ensures
    (fact ∙ ap (λ z. visits z ++ stack c.args.tasks.now.items) kids)) c.push_each.ensures

pub returns-in-Infix : goal.returns-in-Infix
returns-in-Infix g c =
    let nodes = c.args.tree.now in
    let node = c.args.node in
    let kids = c.children-children.ensures.children in
    let below = subst (AllByRecursion (λ child. child < node)) kids c.children-children.ensures.before in
    let whole = tree-at nodes node c.requires.node.there below in
    let there = before-there nodes node (node_at nodes node).children c.requires.node.there below in
    let named = sym (ap naming c.form.ensures) ∙ sym c.naming_of.ensures ∙ c.in-Infix.is in
    on_ok_weaker c.push_between.result (λ fact.
    between-done c.args.text.now (g.S.Surround.around c.args.around.now) (g.S.Surround.held c.args.around.now) nodes node c.requires.node whole there c.in-Infix.at (context_of c.args.context.now) c.args.findings.now (stack c.args.tasks.now.items) (stack c.push_between.new.tasks.items) named c.requires.tasks
    (fact ∙ ap (λ z. between_tasks c.in-Infix.at z (stack c.args.tasks.now.items)) kids)) c.push_between.ensures

pub returns-in-Postfix : goal.returns-in-Postfix
returns-in-Postfix g c =
    let nodes = c.args.tree.now in
    let node = c.args.node in
    let kids = c.children-children.ensures.children in
    let below = subst (AllByRecursion (λ child. child < node)) kids c.children-children.ensures.before in
    let whole = tree-at nodes node c.requires.node.there below in
    let there = before-there nodes node (node_at nodes node).children c.requires.node.there below in
    let named = sym (ap naming c.form.ensures) ∙ sym c.naming_of.ensures ∙ c.in-Postfix.is in
    on_ok_weaker c.push_behind.result (λ fact.
    behind-done c.args.text.now (g.S.Surround.around c.args.around.now) (g.S.Surround.held c.args.around.now) nodes node c.requires.node whole there c.in-Postfix.at (context_of c.args.context.now) c.args.findings.now (stack c.args.tasks.now.items) (stack c.push_behind.new.tasks.items) named c.requires.tasks
    (fact ∙ ap (λ z. visits z ++ (used c.in-Postfix.at ∷ stack c.args.tasks.now.items)) kids)) c.push_behind.ensures

pub returns-in-InOrder : goal.returns-in-InOrder
returns-in-InOrder g c =
    let nodes = c.args.tree.now in
    let node = c.args.node in
    let kids = c.children-children.ensures.children in
    let below = subst (AllByRecursion (λ child. child < node)) kids c.children-children.ensures.before in
    let whole = tree-at nodes node c.requires.node.there below in
    let there = before-there nodes node (node_at nodes node).children c.requires.node.there below in
    let named = sym (ap naming c.form.ensures) ∙ sym c.naming_of.ensures ∙ c.in-InOrder.is in
    on_ok_weaker c.push_definitions.result (λ fact.
    order-done c.args.text.now (g.S.Surround.around c.args.around.now) (g.S.Surround.held c.args.around.now) nodes node c.requires.node whole there (context_of c.args.context.now) c.args.findings.now (stack c.args.tasks.now.items) (stack c.push_definitions.new.tasks.items) named c.requires.tasks
    (fact ∙ ap (λ m. chain c.children-children.result.now ++ (leave m ∷ stack c.args.tasks.now.items)) c.in_ok-mark.ensures ∙ ap (λ z. chain z ++ (leave (mark_of (context_of c.args.context.now)) ∷ stack c.args.tasks.now.items)) kids)) c.push_definitions.ensures

pub returns-in-BoundsLast : goal.returns-in-BoundsLast
returns-in-BoundsLast g c =
    let nodes = c.args.tree.now in
    let node = c.args.node in
    let kids = c.children-children.ensures.children in
    let below = subst (AllByRecursion (λ child. child < node)) kids c.children-children.ensures.before in
    let whole = tree-at nodes node c.requires.node.there below in
    let there = before-there nodes node (node_at nodes node).children c.requires.node.there below in
    let named = sym (ap naming c.form.ensures) ∙ sym c.naming_of.ensures ∙ c.in-BoundsLast.is in
    on_ok_weaker c.push_image.result (λ fact.
    image-done c.args.text.now (g.S.Surround.around c.args.around.now) (g.S.Surround.held c.args.around.now) nodes node c.requires.node whole there (context_of c.args.context.now) c.args.findings.now (stack c.args.tasks.now.items) (stack c.push_image.new.tasks.items) named c.requires.tasks
    (fact ∙ ap (λ m. image_tasks nodes node c.children-children.result.now m (stack c.args.tasks.now.items)) c.in_ok-mark.ensures ∙ ap (λ z. image_tasks nodes node z (mark_of (context_of c.args.context.now)) (stack c.args.tasks.now.items)) kids)) c.push_image.ensures

pub returns-in_ok-begin-in-Function : goal.returns-in_ok-begin-in-Function
returns-in_ok-begin-in-Function g c =
    let nodes = c.args.tree.now in
    let node = c.args.node in
    let kids = c.children-children.ensures.children in
    let below = subst (AllByRecursion (λ child. child < node)) kids c.children-children.ensures.before in
    let whole = tree-at nodes node c.requires.node.there below in
    let there = before-there nodes node (node_at nodes node).children c.requires.node.there below in
    let named = sym (ap naming c.form.ensures) ∙ sym c.naming_of.ensures ∙ c.in-Function.is in
    on_ok_weaker c.push_function.result (λ fact.
    function-done c.args.text.now (g.S.Surround.around c.args.around.now) (g.S.Surround.held c.args.around.now) nodes node c.requires.node whole there c.in-Function.name (context_of c.args.context.now) (context_of c.begin.new.context) c.args.findings.now c.begin.new.findings (stack c.args.tasks.now.items) (stack c.push_function.new.tasks.items) named
    (function-lies c.args.text.now (form_at nodes node) c.in-Function.name named (held-lies c.args.text.now.source nodes node c.requires.node.there c.requires.node.lie)) c.requires.tasks c.in_ok-begin-in-Function.ensures.context c.in_ok-begin-in-Function.ensures.findings
    (fact ∙ ap (λ m. function_tasks nodes node c.in-Function.name c.children-children.result.now m (stack c.args.tasks.now.items)) c.in_ok-mark.ensures ∙ ap (λ z. function_tasks nodes node c.in-Function.name z (mark_of (context_of c.args.context.now)) (stack c.args.tasks.now.items)) kids)) c.push_function.ensures

pub returns-in_ok-begin-in-BoundsFirst : goal.returns-in_ok-begin-in-BoundsFirst
returns-in_ok-begin-in-BoundsFirst g c =
    let nodes = c.args.tree.now in
    let node = c.args.node in
    let kids = c.children-children.ensures.children in
    let below = subst (AllByRecursion (λ child. child < node)) kids c.children-children.ensures.before in
    let whole = tree-at nodes node c.requires.node.there below in
    let there = before-there nodes node (node_at nodes node).children c.requires.node.there below in
    let named = sym (ap naming c.form.ensures) ∙ sym c.naming_of.ensures ∙ c.in-BoundsFirst.is in
    on_ok_weaker c.push_scope.result (λ fact.
    plain-done c.args.text.now (g.S.Surround.around c.args.around.now) (g.S.Surround.held c.args.around.now) nodes node c.requires.node whole there (context_of c.args.context.now) (context_of c.begin-in-BoundsFirst.new.context) c.args.findings.now c.begin-in-BoundsFirst.new.findings (stack c.args.tasks.now.items) (stack c.push_scope.new.tasks.items) named
    c.requires.tasks c.in_ok-begin-in-BoundsFirst.ensures.context c.in_ok-begin-in-BoundsFirst.ensures.findings
    (fact ∙ ap (λ m. scope_tasks nodes node c.children-children.result.now m (stack c.args.tasks.now.items)) c.in_ok-mark.ensures ∙ ap (λ z. scope_tasks nodes node z (mark_of (context_of c.args.context.now)) (stack c.args.tasks.now.items)) kids)) c.push_scope.ensures
