use Rattle.std.proofs.Common.{◌≡◌, ◌++◌}
use Rattle.module_model.specs.Instances.{implied, left_sides}
use Rattle.module_model.specs.TreeFindings.{replaceable}
use Rattle.name_context.specs.AsTables.{context_of}
use Rattle.declared_names.specs.Nodes.{parts_at}
use Rattle.tree_names.specs.Parameters.{entries_in}
use Rattle.tree_scope.proofs.replacements.imply.Given as goal

abbrev pub invariant-loop-parameter : goal.invariant-loop-parameter
invariant-loop-parameter g l =
    l.findings ++ implied (context_of l.context) l.fn.«module» (left_sides l.text.source (parts_at l.tree l.fn.node)) (entries_in l.parameter-iterator.rest.items)
    ≡ l.initial.findings ++ implied (context_of l.context) l.fn.«module» (left_sides l.text.source (parts_at l.tree l.fn.node)) (replaceable l.text (g.S.Surround.around l.around) l.fn.«module»)
