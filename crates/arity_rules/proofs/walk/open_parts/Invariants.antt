use Rattle.std.proofs.Common.{◌≡◌, ◌++◌, drop}
use Rattle.arity_rules.specs.Noted.{told}
use Rattle.arity_rules.specs.Tasks.{part_tasks}
use Rattle.arity_rules.proofs.walk.open_parts.Given as goal

abbrev pub invariant-loop-index : goal.invariant-loop-index
invariant-loop-index l = l.opened.items ++ part_tasks (told l.meanings) l.tree l.role l.inside l.index (drop l.index l.parts) ≡ l.initial.opened.items ++ part_tasks (told l.meanings) l.tree l.role l.inside 0 l.parts
