use Rattle.std.proofs.Common.{◌≡◌, ◌<◌, ap, ◌∙◌, sym, subst, ℕ, map, length, get_or}
use Rattle.name_graph.specs.Family.{Reaches, IsOrder, IsFirstCyclic}
use Rattle.index_graph.specs.Indices.{HasIndices, IsOrdered}
use Rattle.name_graph.specs.Rows.{edges_of, name_at, family_of, IsFirst}
use Rattle.name_graph.proofs.Naming.{edges-indices}
use Rattle.name_graph.proofs.Ordering.{no-cycle, names-ordered, first-cyclic, within-rows, cyclic-row}
use Rattle.name_graph.proofs.graph.Graph.order.Goals as goal

pub arrange-requires : goal.arrange-requires
arrange-requires c = subst HasIndices (sym (c.deref.ensures.value ∙ c.in_ok-edges.ensures.edges)) (edges-indices c.self.inside.rows.entries c.in_ok-edges.ensures.distinct)

pub first_of-requires : goal.first_of-requires
first_of-requires c =
    let rows = c.self.inside.rows.entries in let d = c.in_ok-edges.ensures.distinct in let order = c.in_ok-found.found.order.items in let cyclic = c.in_ok-found.found.cyclic.items in
    let o : IsOrdered (edges_of rows) order cyclic = subst (λ es. IsOrdered es order cyclic) (c.deref.ensures.value ∙ c.in_ok-edges.ensures.edges) c.in_ok-found.ensures.order in
    subst (λ ps. (k p : ℕ) → k < length ps → get_or ps k p < length rows) (sym c.deref-2.ensures.value) (within-rows rows d order cyclic o cyclic (λ index h. (o.loops index h).0))

pub name_at-requires : goal.name_at-requires
name_at-requires c =
    let rows = c.self.inside.rows.entries in let d = c.in_ok-edges.ensures.distinct in let order = c.in_ok-found.found.order.items in let cyclic = c.in_ok-found.found.cyclic.items in
    let o : IsOrdered (edges_of rows) order cyclic = subst (λ es. IsOrdered es order cyclic) (c.deref.ensures.value ∙ c.in_ok-edges.ensures.edges) c.in_ok-found.ensures.order in
    let f : IsFirst rows cyclic c.in-Some.index = subst (λ ps. IsFirst rows ps c.in-Some.index) c.deref-2.ensures.value c.in-Some.ensures in
    cyclic-row rows d order cyclic o c.in-Some.index f

pub returns-in-Some-clause-fault : goal.returns-in-Some-clause-fault
returns-in-Some-clause-fault c =
    let rows = c.self.inside.rows.entries in let d = c.in_ok-edges.ensures.distinct in let order = c.in_ok-found.found.order.items in let cyclic = c.in_ok-found.found.cyclic.items in
    let o : IsOrdered (edges_of rows) order cyclic = subst (λ es. IsOrdered es order cyclic) (c.deref.ensures.value ∙ c.in_ok-edges.ensures.edges) c.in_ok-found.ensures.order in
    let f : IsFirst rows cyclic c.in-Some.index = subst (λ ps. IsFirst rows ps c.in-Some.index) c.deref-2.ensures.value c.in-Some.ensures in
    subst (λ z. IsFirstCyclic z c.in_ok-from_str-in-Some.field-0) c.self.view_is (subst (IsFirstCyclic (family_of rows)) (sym (c.in_ok-from_str-in-Some.ensures ∙ c.name_at.ensures)) (first-cyclic rows d order cyclic o c.in-Some.index f))

pub names_of-requires : goal.names_of-requires
names_of-requires c =
    let rows = c.self.inside.rows.entries in let d = c.in_ok-edges.ensures.distinct in let order = c.in_ok-found.found.order.items in let cyclic = c.in_ok-found.found.cyclic.items in
    let o : IsOrdered (edges_of rows) order cyclic = subst (λ es. IsOrdered es order cyclic) (c.deref.ensures.value ∙ c.in_ok-edges.ensures.edges) c.in_ok-found.ensures.order in
    subst (λ ps. (k p : ℕ) → k < length ps → get_or ps k p < length rows) (sym c.deref-in-None.ensures.value) (within-rows rows d order cyclic o order (λ index h. h))

pub returns-clause-order : goal.returns-clause-order
returns-clause-order c =
    let rows = c.self.inside.rows.entries in let d = c.in_ok-edges.ensures.distinct in let order = c.in_ok-found.found.order.items in let cyclic = c.in_ok-found.found.cyclic.items in
    let o : IsOrdered (edges_of rows) order cyclic = subst (λ es. IsOrdered es order cyclic) (c.deref.ensures.value ∙ c.in_ok-edges.ensures.edges) c.in_ok-found.ensures.order in
    let none : length cyclic ≡ _ = ap length (sym c.deref-2.ensures.value) ∙ c.in-None.ensures in
    subst (λ z. IsOrder z c.in_ok-names_of-in-None.field-0) c.self.view_is (subst (IsOrder (family_of rows)) (sym (c.in_ok-names_of-in-None.ensures ∙ ap (map (name_at rows)) c.deref-in-None.ensures.value)) (names-ordered rows d order cyclic o none))

pub returns-clause-acyclic : goal.returns-clause-acyclic
returns-clause-acyclic c name r =
    let rows = c.self.inside.rows.entries in let d = c.in_ok-edges.ensures.distinct in let order = c.in_ok-found.found.order.items in let cyclic = c.in_ok-found.found.cyclic.items in
    let o : IsOrdered (edges_of rows) order cyclic = subst (λ es. IsOrdered es order cyclic) (c.deref.ensures.value ∙ c.in_ok-edges.ensures.edges) c.in_ok-found.ensures.order in
    let none : length cyclic ≡ _ = ap length (sym c.deref-2.ensures.value) ∙ c.in-None.ensures in
    no-cycle rows d order cyclic o none name (subst (λ z. Reaches z name name) (sym c.self.view_is) r)
