use Rattle.family_tables.proofs.Tabling.{entries_of-added}
use Rattle.family_tables.proofs.table.Table.add.Goals as goal

pub returns : goal.returns
returns g c = entries_of-added c.self.inside.rows c.insert.new.self.entries c.in_ok-name.name c.args.item c.args.self.now c.args.name.now c.in_ok-name.ensures.ok c.self.view_is c.requires c.in_ok-insert.ensures.entries
