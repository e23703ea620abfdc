use Rattle.module_model.proofs.Importing.{imports_of-added}
use Rattle.module_model.proofs.imported.Imported.add.Goals as goal

pub returns-clause-ok : goal.returns-clause-ok
returns-clause-ok c = imports_of-added c.self.inside.imports c.insert.new.self.entries c.in_ok-name.name c.args.import c.args.self.now c.args.name.now c.in_ok-name.ensures.ok c.self.view_is c.requires c.in_ok-insert.ensures.entries
