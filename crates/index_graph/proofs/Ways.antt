-- Steps put together.
use Rattle.std.proofs.Common.{ℕ, subst, sym, inl, inr}
use Rattle.index_graph.specs.Leading.{Leads, last, more}
use Rattle.index_graph.specs.Indices.{Edges, Edge, Way}

pub leads-leads : {A : Type 0} {Step : A → A → Type 0} {a b c : A} → Leads Step a b → Leads Step b c → Leads Step a c
leads-leads (last s) l = more s l
leads-leads (more s k) l = more s (leads-leads k l)

module _ (edges : Edges) where
  pub edge-way : (i j k : ℕ) → Edge edges i j → Way edges j k → Leads (Edge edges) i k
  edge-way i j k e (inl same) = subst (Leads (Edge edges) i) same (last e)
  edge-way i j k e (inr l) = more e l

  pub way-leads : (i j k : ℕ) → Way edges i j → Leads (Edge edges) j k → Leads (Edge edges) i k
  way-leads i j k (inl same) l = subst (λ z. Leads (Edge edges) z k) (sym same) l
  way-leads i j k (inr w) l = leads-leads w l

  pub way-way : (i j k : ℕ) → Way edges i j → Way edges j k → Way edges i k
  way-way i j k (inl same) w = subst (λ z. Way edges z k) (sym same) w
  way-way i j k (inr l) (inl same) = subst (Way edges i) same (inr l)
  way-way i j k (inr l) (inr w) = inr (leads-leads l w)

  pub way-edge : (i j k : ℕ) → Way edges i j → Edge edges j k → Way edges i k
  way-edge i j k w e = inr (way-leads i j k w (last e))
