use Rattle.std.proofs.Common.{sym, ap, ◌∙◌, [], ◌∷◌, ◌++◌}
use Rattle.flattened_trees.specs.NodeForms.{last_first}
use Rattle.tree_flattener.proofs.MadeForms.{last-first-is}
use Rattle.tree_flattener.proofs.forms.last_first.Goals as goal

pub returns : goal.returns
returns c =
    c.in_ok-extend_from_slice.ensures.items ∙ ap (λ z. z ++ c.as_slice.result.now) (c.in_ok-push.ensures.items ∙ ap (λ z. z ++ c.in-Some.last ∷ []) c.new-ordered.ensures.items)
    ∙ ap (λ z. c.in-Some.last ∷ z) c.as_slice.ensures.value ∙ sym (ap (last_first []) c.in-Some.ensures.items ∙ last-first-is [] c.pop.new.self.items c.in-Some.last)
