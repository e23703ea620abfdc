use Rattle.std.proofs.Common.{sym}
use Rattle.std.specs.Arc.{arc_value}
use Rattle.module_model.proofs.PartTables.{put-new, put-there}
use Rattle.module_model.proofs.parts.Part.put.Goals as goal

pub returns-then-contains_key : goal.returns-then-contains_key
returns-then-contains_key c = put-there c.self.inside.instances.entries c.args.self.now c.args.place (arc_value c.args.exports) c.self.view_is (sym c.if-contains_key.ensures)

pub returns : goal.returns
returns c =
    put-new c.self.inside.instances c.insert.new.self.entries c.args.self.now c.args.place c.args.exports c.self.view_is (sym c.if-contains_key.ensures) c.in_ok-insert.ensures.entries
