use Rattle.std.proofs.Common.{◌≡◌, ◌≤◌, length, map}
use Rattle.name_context.specs.AsTables.{meant_by}
use Rattle.module_leads.specs.Faces.{first_faces}
use Rattle.module_leads.specs.Paths.{along, next_lead}
use Rattle.module_leads.specs.Ways.{found_way, way_lead}
use Rattle.module_leads.proofs.paths.follow.Given as goal

abbrev pub invariant-path : goal.invariant-path
invariant-path l = record {
  within : l.limit ≤ length l.faces;
  known : along l.path.items (next_lead (first_faces l.faces l.limit) l.next) ≡ way_lead (first_faces l.faces l.fn.limit) (found_way l.fn.way) (map meant_by l.fn.names);
}

abbrev pub decreases-path : goal.decreases-path
decreases-path l = l.limit
