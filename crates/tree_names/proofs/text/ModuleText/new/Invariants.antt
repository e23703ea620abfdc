use Rattle.std.proofs.Common.{◌≡◌, take}
use Rattle.std.specs.Prelude.{map}
use Rattle.tree_names.proofs.text.ModuleText.new.Given as goal

abbrev pub invariant-loop-binder : goal.invariant-loop-binder
invariant-loop-binder l = l.starts.items ≡ map (λ binder. binder.name.span.start) (take l.binder-index l.names)
