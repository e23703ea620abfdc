use Rattle.module_model.proofs.PartTables.{set-new}
use Rattle.module_model.proofs.parts.Parts.set.Goals as goal

pub returns : goal.returns
returns c =
    set-new c.self.inside.texts.entries c.insert.new.self.entries c.args.self.now c.in_ok-title.title c.args.title.now c.args.part c.self.view_is c.in_ok-title.ensures.ok c.in_ok-insert.ensures.entries
