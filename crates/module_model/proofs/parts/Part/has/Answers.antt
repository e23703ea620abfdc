use Rattle.std.proofs.Common.{◌∙◌, sym}
use Rattle.module_model.proofs.PartTables.{some-there}
use Rattle.module_model.proofs.parts.Part.has.Goals as goal

pub returns : goal.returns
returns c = c.contains_key.ensures ∙ sym (some-there c.self.inside.instances.entries c.args.self.now c.args.place c.self.view_is)
