use Rattle.std.proofs.Common.{◌≡◌, ◌++◌}
use Rattle.module_model.specs.Bindings as bindings
use Rattle.symbol_scope.proofs.resolution.push_declarations.Given as goal

abbrev pub invariant-loop-binder : goal.invariant-loop-binder
invariant-loop-binder l = l.decls ++ bindings.decls l.text l.binder-iterator.rest.items ≡ l.initial.decls ++ bindings.decls l.text l.fn.names
