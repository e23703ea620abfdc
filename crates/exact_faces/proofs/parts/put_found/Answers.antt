use Rattle.std.specs.Arc.{arc_value}
use Rattle.exact_faces.proofs.Parting.{put-some}
use Rattle.exact_faces.proofs.parts.put_found.Goals as goal

pub returns : goal.returns
returns c =
    put-some c.args.found.now c.args.title.now c.args.place c.args.new.now c.put.new.self (arc_value c.in-Some.table.now) (arc_value c.in_ok-table.table)
    c.in-Some.ensures c.in_ok-table.ensures c.in_ok-put.ensures
