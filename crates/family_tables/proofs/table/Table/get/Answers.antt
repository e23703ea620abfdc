use Rattle.std.proofs.Common.{ap, ◌∙◌}
use Rattle.family_tables.specs.Tables.{entry_of}
use Rattle.family_tables.proofs.Tabling.{lookup-named}
use Rattle.family_tables.proofs.table.Table.get.Goals as goal

pub returns : goal.returns
returns g c = c.get.ensures.value ∙ lookup-named c.self.inside.rows.entries c.args.name.now ∙ ap (λ entries. entry_of entries c.args.name.now) c.self.view_is
