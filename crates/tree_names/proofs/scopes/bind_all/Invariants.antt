use Rattle.std.proofs.Common.{◌≡◌, ◌++◌}
use Rattle.tla_model.specs.Contexts as contexts
use Rattle.tla_model.specs.Scopes as scopes
use Rattle.name_context.specs.AsTables.{context_of}
use Rattle.tree_names.specs.BindersInText.{BindersLie}
use Rattle.tree_names.proofs.scopes.bind_all.Given as goal

abbrev pub invariant-loop-binder : goal.invariant-loop-binder
invariant-loop-binder l = record {
  lie : BindersLie l.text.source l.binder-iterator.rest.items;
  context : contexts.bind_all l.text (context_of l.context) l.binder-iterator.rest.items ≡ contexts.bind_all l.text (context_of l.initial.context) l.fn.binders;
  findings : l.findings ++ scopes.all_refused l.text (context_of l.context) l.binder-iterator.rest.items ≡ l.initial.findings ++ scopes.all_refused l.text (context_of l.initial.context) l.fn.binders;
}
