use Rattle.std.proofs.Common.{ap, ◌∙◌, sym, ◌++◌, ◌∷◌, []}
use Rattle.name_graph.specs.Rows.{index_of}
use Rattle.name_graph.proofs.Naming.{indices-skip, indices-more}
use Rattle.name_graph.proofs.rows.indices_of.Goals.{in-Some+in_ok-push, in_default}
use Rattle.name_graph.proofs.rows.indices_of.Goals as goal

pub loop-name-preserved : goal.loop-name-preserved
loop-name-preserved c = elim c.match-get_index_of.branch [
  | in-Some+in_ok-push w ↦
      let rows = c.args.rows.now.entries in let k = c.loop-name.name-index in
      w.indices-is ∙ w.in_ok-push.ensures.ok ∙ ap (λ z. z ++ w.in-Some.index ∷ []) c.loop-name.invariant
      ∙ indices-more rows c.args.names.now k w.in-Some.index c.name-item.result c.loop-name-test.true (sym c.name-item.is) (ap (index_of rows) (sym c.as_str.ensures) ∙ sym c.get_index_of.ensures.index ∙ w.in-Some.is)
  | in_default w ↦
      let rows = c.args.rows.now.entries in let k = c.loop-name.name-index in
      w.indices-is ∙ c.loop-name.invariant
      ∙ indices-skip rows c.args.names.now k c.name-item.result c.loop-name-test.true (sym c.name-item.is) (ap (index_of rows) (sym c.as_str.ensures) ∙ sym c.get_index_of.ensures.index ∙ w.in_default.is)
]
