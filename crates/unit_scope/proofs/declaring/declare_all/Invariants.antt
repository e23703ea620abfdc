use Rattle.std.proofs.Common.{◌≡◌, ◌++◌, ℕ, List, false}
use Rattle.tla_model.specs.Scopes as scopes
use Rattle.module_model.specs.Modules as in_modules
use Rattle.name_context.specs.AsTables.{context_of}
use Rattle.name_exports.specs.Brought.{ModuleNames, as_read}
use Rattle.tree_names.specs.BindersInText.{BindersLie}
use Rattle.unit_scope.proofs.declaring.declare_all.Given as goal

abbrev pub invariant-loop-binder : goal.invariant-loop-binder
invariant-loop-binder l = record {
  lie : BindersLie l.text.source l.binder-iterator.rest.items;
  names : (title : List ℕ) → (taken : ModuleNames) → in_modules.declare_all l.text false (as_read title taken l.names) l.binder-iterator.rest.items ≡ in_modules.declare_all l.text false (as_read title taken l.initial.names) l.fn.binders;
  findings : l.findings ++ scopes.all_refused l.text (context_of l.names.context) l.binder-iterator.rest.items ≡ l.initial.findings ++ scopes.all_refused l.text (context_of l.initial.names.context) l.fn.binders;
}
