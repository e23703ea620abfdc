use Rattle.std.proofs.Common.{◌≡◌, ◌∙◌, sym, subst, Bool, List, ◌↔◌, IsTrue}
use Rattle.name_graph.specs.Family.{Reaches}
use Rattle.name_graph.specs.Rows.{family_of, edges_of, SomeNeeds}
use Rattle.index_graph.specs.Indices.{HasIndices, AreReached}
use Rattle.name_graph.proofs.Naming.{absent-reaches, edges-indices, index-some, found-reaches, reaches-found}
use Rattle.name_graph.proofs.graph.Graph.reaches.Goals as goal

pub returns-in_default : goal.returns-in_default
returns-in_default c =
    (λ h. cc, λ r. absurd (absent-reaches c.self.inside.rows.entries c.args.from.now c.args.to.now (sym c.get_index_of.ensures.index ∙ c.in_default.is) (subst (λ f. Reaches f c.args.from.now c.args.to.now) (sym c.self.view_is) r)))

pub reached-requires-clause-indices : goal.reached-requires-clause-indices
reached-requires-clause-indices c = subst HasIndices (sym (c.deref.ensures.value ∙ c.in_ok-edges.ensures.edges)) (edges-indices c.self.inside.rows.entries c.in_ok-edges.ensures.distinct)

pub returns : goal.returns
returns c =
    let rows = c.self.inside.rows.entries in
    let d = c.in_ok-edges.ensures.distinct in
    let p = index-some rows c.args.from.now c.in-Some.start (sym c.get_index_of.ensures.index ∙ c.in-Some.is) in
    let r : AreReached (edges_of rows) c.in-Some.start c.in_ok-seen.seen.items = subst (λ es. AreReached es c.in-Some.start c.in_ok-seen.seen.items) (c.deref.ensures.value ∙ c.in_ok-edges.ensures.edges) c.in_ok-seen.ensures in
    let here : (seen : List Bool) → c.deref-2.result.now ≡ seen → IsTrue c.some_needs.result ↔ SomeNeeds rows seen c.args.to.now = λ seen e. subst (λ z. IsTrue c.some_needs.result ↔ SomeNeeds rows z c.args.to.now) e c.some_needs.ensures in
    let h = here c.in_ok-seen.seen.items c.deref-2.ensures.value in (
      λ t. subst (λ f. Reaches f c.args.from.now c.args.to.now) c.self.view_is (subst (λ n. Reaches (family_of rows) n c.args.to.now) p.2 (found-reaches rows d c.in-Some.start p.0 c.in_ok-seen.seen.items c.args.to.now p.1 r (h.0 t))),
      λ l. h.1 (reaches-found rows d c.in-Some.start p.0 c.in_ok-seen.seen.items c.args.to.now p.1 r (subst (λ n. Reaches (family_of rows) n c.args.to.now) (sym p.2) (subst (λ f. Reaches f c.args.from.now c.args.to.now) (sym c.self.view_is) l))),
    )
