use Rattle.std.proofs.Common.{◌≡◌, ap, ◌∙◌}
use Rattle.std.specs.FinMap.{insert}
use Rattle.name_graph.specs.Rows.{family_of}
use Rattle.name_graph.proofs.Naming.{family-put}
use Rattle.name_graph.proofs.graph.Graph.put.Goals as goal

pub returns-clause-ok : goal.returns-clause-ok
returns-clause-ok c =
    let needs : c.in_ok-needs.needs ≡ c.args.needs.now = c.in_ok-needs.ensures ∙ c.as_slice.ensures in
    ap family_of (c.in_ok-insert.ensures.entries) ∙ family-put c.self.inside.rows.entries c.in_ok-name.name c.in_ok-needs.needs
    ∙ (λ i. insert ((c.self.view_is) i) (c.in_ok-name.ensures.ok i) (needs i))
