use Rattle.std.proofs.Common.{◌≡◌, ◌++◌, length, map}
use Rattle.tla_model.specs.Entities.{meant}
use Rattle.tree_flattener.specs.Entering.{entries_of}
use Rattle.tree_flattener.proofs.scopes.place_all.Given as goal

abbrev pub invariant-loop-binder : goal.invariant-loop-binder
invariant-loop-binder l = record {
  locals : l.locals.items ++ entries_of l.text (length l.frame) l.binder-iterator.rest.items ≡ l.initial.locals.items ++ entries_of l.text (length l.initial.frame) l.fn.names;
  frame : l.frame ++ map (meant l.text) l.binder-iterator.rest.items ≡ l.initial.frame ++ map (meant l.text) l.fn.names;
}
