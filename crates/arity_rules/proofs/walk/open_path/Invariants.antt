use Rattle.std.proofs.Common.{◌≡◌, ◌++◌, drop}
use Rattle.arity_rules.specs.Noted.{told}
use Rattle.arity_rules.specs.Tasks.{path_tasks}
use Rattle.arity_rules.proofs.walk.open_path.Given as goal

abbrev pub invariant-loop-index : goal.invariant-loop-index
invariant-loop-index l = l.opened.items ++ path_tasks (told l.meanings) l.tree l.due l.inside (drop l.index l.segments) ≡ l.initial.opened.items ++ path_tasks (told l.meanings) l.tree l.due l.inside l.segments
