use Rattle.std.proofs.Common.{refl, subst, sym}
use Rattle.std.proofs.lemmas.Result.{on_ok_weaker}
use Rattle.tla_model.specs.Scopes.{itself, symbol_findings}
use Rattle.name_context.specs.AsTables.{context_of}
use Rattle.tree_scope.specs.TasksDone.{IsDone}
use Rattle.tree_tasks.specs.WalkTasks.{stack}
use Rattle.tree_tasks.specs.declared.tasks.Task.TheVariants as task
use Rattle.tree_scope.proofs.NodeTasks.{found-done}
use Rattle.tree_scope.proofs.Segments.{path-done}
use Rattle.tree_scope.proofs.found.perform.Goals as goal

pub returns-in-Symbol : goal.returns-in-Symbol
returns-in-Symbol g c =
    let at = c.in-Symbol.at in
    let context = context_of c.args.context.now in
    on_ok_weaker c.use_symbol.result (λ fact.
    subst (λ next. IsDone c.args.text.now (g.S.Surround.around c.args.around.now) (g.S.Surround.held c.args.around.now) c.args.tree.now next context context c.args.findings.now c.use_symbol.new.findings (stack c.args.tasks.now.items) (stack c.args.tasks.now.items)) (sym c.in-Symbol.is)
    (found-done c.args.text.now (g.S.Surround.around c.args.around.now) (g.S.Surround.held c.args.around.now) c.args.tree.now (task.Symbol at) context c.args.findings.now c.use_symbol.new.findings (symbol_findings context itself at at.kind) (stack c.args.tasks.now.items) c.requires.tasks fact refl refl)) c.use_symbol.ensures

pub returns-in-Path : goal.returns-in-Path
returns-in-Path g c =
    let text = c.args.text.now in
    let around = g.S.Surround.around c.args.around.now in
    let held = g.S.Surround.held c.args.around.now in
    let nodes = c.args.tree.now in
    let context = context_of c.args.context.now in
    on_ok_weaker c.go_on.result (λ fact.
    subst (λ next. IsDone text around held nodes next context context c.args.findings.now c.go_on.new.findings (stack c.args.tasks.now.items) (stack c.go_on.new.tasks.items)) (sym c.in-Path.is)
    (path-done text around held nodes c.in-Path.node c.in-Path.from c.in-Path.number c.in-Path.held context c.args.findings.now c.go_on.new.findings (stack c.args.tasks.now.items) (stack c.go_on.new.tasks.items) c.requires.tasks
    (fact context))) c.go_on.ensures
