use Rattle.std.proofs.Common.{◌++◌, ◌∷◌, [], ◌∙◌, ap, sym}
use Rattle.tree_names.specs.Parameters.{entries_in}
use Rattle.unit_flattener.proofs.Ending.{end-own, end-somewhere, not-empty}
use Rattle.unit_flattener.proofs.own.push_end.Goals as goal

pub returns-clause-somewhere : goal.returns-clause-somewhere
returns-clause-somewhere c = end-somewhere c.args.text.now c.args.reader.now c.end_nested.new.reader c.in_ok-parameters.ensures.state c.requires.somewhere

pub returns-clause-ends : goal.returns-clause-ends
returns-clause-ends c = λ closing over state at.
    let round = c.args.reader.now.round in
    c.in_ok-push-2.ensures.items
    ∙ ap (λ own. c.args.ends.now.items ++ own ∷ []) c.in_ok-meanings_of.ensures
    ∙ end-own c.args.text.now c.args.reader.now closing (entries_in c.in_ok-parameters.parameters) c.args.ends.now.items
    (not-empty _ round.items round.ok.0 (sym c.is_empty.ensures ∙ c.if-is_empty.false)) c.in_ok-parameters.ensures.parameters over state at
