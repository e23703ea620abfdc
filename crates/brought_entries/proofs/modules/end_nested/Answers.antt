use Rattle.std.proofs.Common.{◌∙◌, ap}
use Rattle.std.specs.Prelude.{slice_get}
use Rattle.instance_leads.specs.Leading.{parameters_shown}
use Rattle.brought_entries.proofs.modules.end_nested.Goals as goal

pub returns-clause-parameters : goal.returns-clause-parameters
returns-clause-parameters c = λ over state outer round at is.
    c.in_ok-found.ensures
    ∙ ap parameters_shown (c.ended_at.ensures ∙ ap (slice_get c.end.new.self.scope.nested.items) (c.len-number.ensures ∙ c.args.reader.now.scope.nested.ok.0))
    ∙ c.in_ok-end.ensures.parameters over state outer round at is
