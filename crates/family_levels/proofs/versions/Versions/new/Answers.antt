use Rattle.std.proofs.Common.{◌≡◌, ◌∙◌, None, Some, ap, sym}
use Rattle.family_tables.specs.Tables.{entry_of}
use Rattle.family_levels.proofs.versions.Versions.new.Goals as goal

pub returns-clause-hold : goal.returns-clause-hold
returns-clause-hold c =
    (c.in_ok-new.ensures.kept, c.new-3.ensures c.in_ok-new.field-0.tables.state.flat, (λ id. None, λ name version at. let never : None ≡ Some version = sym (ap (λ z. entry_of z name) c.new.ensures) ∙ at in cc))
