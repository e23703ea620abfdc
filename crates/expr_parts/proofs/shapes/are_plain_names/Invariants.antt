use Rattle.std.proofs.Common.{◌≡◌, take, true}
use Rattle.std.specs.List.{AllByRecursion}
use Rattle.tla_tree.specs.Arena.{tree_at}
use Rattle.expr_grammar.specs.Tables.{is_plain_name}
use Rattle.expr_parts.proofs.shapes.are_plain_names.Given as goal

abbrev pub invariant-loop-part : goal.invariant-loop-part
invariant-loop-part l = AllByRecursion (λ part. is_plain_name (tree_at l.tree part) ≡ true) (take l.part-index l.parts)
