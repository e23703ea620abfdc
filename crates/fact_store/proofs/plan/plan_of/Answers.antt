use Rattle.std.proofs.Common.{List, ℕ, Vec, Global, ap, subst, sym}
use Rattle.index_graph.specs.Indices.{HasIndices, IsOrdered, AreGrouped}
use Rattle.fact_store.specs.Plans.{AreGrounds}
use Rattle.fact_store.proofs.Rows.{HasIndices-edges}
use Rattle.fact_store.proofs.plan.plan_of.Goals as goal

pub arrange-requires : goal.arrange-requires
arrange-requires g c = subst (λ (es : List (List ℕ)). HasIndices es) (sym c.deref.ensures.value) (HasIndices-edges c.args.slots.now c.in_ok-edges.edges.items c.in_ok-edges.ensures)

pub grounds_of-requires-clause-indices : goal.grounds_of-requires-clause-indices
grounds_of-requires-clause-indices g c = subst (λ (es : List (List ℕ)). HasIndices es) (sym c.deref-2.ensures.value) (HasIndices-edges c.args.slots.now c.in_ok-edges.edges.items c.in_ok-edges.ensures)

pub returns : goal.returns
returns g c =
    let edges = c.in_ok-edges.edges.items in let found = c.in_ok-found.found in let parts = c.into_groups-order.result in let grounds = c.in_ok-grounds.grounds.items in
    let same_order = ap (λ (p : Vec ℕ Global × Vec ℕ Global). p.0.items) (sym c.into_groups-order.ensures) in
    let same_groups = ap (λ (p : Vec ℕ Global × Vec ℕ Global). p.1.items) (sym c.into_groups-order.ensures) in
    let ordered = subst (λ (os : List ℕ). IsOrdered edges os found.cyclic.items) same_order (subst (λ (es : List (List ℕ)). IsOrdered es found.order.items found.cyclic.items) c.deref.ensures.value c.in_ok-found.ensures.order) in
    let grouped = subst (λ (es : List (List ℕ)). AreGrouped es found.order.items found.groups.items) c.deref.ensures.value c.in_ok-found.ensures.groups in
    let by_groups = subst (λ (gs : List ℕ). AreGrounds c.deref-2.result.now gs grounds) c.deref-3.ensures.value c.in_ok-grounds.ensures in
    record {
      edges = c.in_ok-edges.ensures;
      groups = subst (λ (os : List ℕ). AreGrouped edges os parts.1.items) same_order (subst (λ (gs : List ℕ). AreGrouped edges found.order.items gs) same_groups grouped);
      all = ordered.all;
      within = ordered.within;
      grounds = subst (λ (es : List (List ℕ)). AreGrounds es parts.1.items grounds) c.deref-2.ensures.value by_groups;
    }
