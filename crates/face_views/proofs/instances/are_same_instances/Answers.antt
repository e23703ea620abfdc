use Rattle.face_views.specs.Found.{AreSame}
use Rattle.face_views.proofs.Exactly.{tells-false}
use Rattle.face_views.proofs.Looking.{same-found, told-by-within}
use Rattle.face_views.proofs.instances.are_same_instances.Goals as goal

pub returns-then-are_all_found : goal.returns-then-are_all_found
returns-then-are_all_found c =
    told-by-within c.are_all_within.result c.args.one.now c.args.other.now
    c.if-are_all_found.ensures c.are_all_within.ensures

pub returns-else-are_all_found : goal.returns-else-are_all_found
returns-else-are_all_found c =
    tells-false c.are_all_found.result (AreSame c.args.one.now c.args.other.now)
    c.if-are_all_found.false
    (λ same. c.if-are_all_found.ensures (same-found c.args.one.now c.args.other.now same))
