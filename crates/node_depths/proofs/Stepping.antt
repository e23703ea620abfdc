-- The depths of nodes, one after another.
use Rattle.std.proofs.Common.{◌≡◌, ℕ, ◌<◌, ◌≤◌, Bool, true, false, cond, List, [], ◌∷◌, ◌++◌, Some, inl, inr, refl, sym, ap, ◌∙◌, subst, length, get_or, length-append, arith}
use Rattle.std.specs.Prelude.{◌⊎◌, nat_lt, option_map, slice_get}
use Rattle.std.proofs.lemmas.Bool.{cases_lt, ltb-false, ltb-true}
use Rattle.std.proofs.lemmas.Option.{slice_get_past, slice_get_read}
use Rattle.order_rec.specs.Earlier.{before}
use Rattle.order_rec.proofs.Order.{along-step}
use Rattle.kind_text.specs.FlatModule.{Extends, FlatModule, IsOrdered}
use Rattle.kind_table.specs.declared.flat.Node as node
use Rattle.kind_table.specs.declared.flat.FlatModule as tables
use Rattle.kind_table.specs.Flattened.{flat_of, form_of, node_of, number_in}
use Rattle.kind_table.proofs.Firsts.{get_or-end, get_or-left, get_or-past, keeps-longer}
use Rattle.kind_table.proofs.TableEntries.{node-at, nodes-long}
use Rattle.level_text.specs.Depth.{depth, form_depth, node_depth}
use Rattle.level_text.proofs.Depths.{depth-kept}
use Rattle.node_depths.specs.Capped.{AreDepths, GivesDepths, IsDepths, capped}
use Rattle.node_depths.proofs.Capping.{form-capped}

-- what is known so far
known-before : (flat : FlatModule) (depths : List ℕ) → AreDepths flat depths → (j : ℕ) → number_in depths j ≡ capped (before 0 (depth flat) (length depths) j)
known-before flat depths h j = by_place (nat_lt j (length depths)) refl
  where
    by_place : (b : Bool) → nat_lt j (length depths) ≡ b → number_in depths j ≡ capped (cond b (depth flat j) 0)
    by_place true e = h j (ltb-true j (length depths) e)
    by_place false e = let none = get_or-past depths j 0 (ltb-false j (length depths) e) in omega (arith, none)

-- one node more
depths-more : (t : tables.FlatModule) (depths : List ℕ) (n : node.Node) (deep : ℕ) → slice_get t.nodes.items (length depths) ≡ Some n → AreDepths (flat_of t) depths → deep ≡ form_depth (flat_of t) (number_in depths) (form_of t.paths.items n.form) n.parts.items → AreDepths (flat_of t) (depths ++ capped deep ∷ [])
depths-more t depths n deep e h is = λ k l. by_place k l (cases_lt k (length depths))
  where
    here : capped deep ≡ capped (depth (flat_of t) (length depths))
    here =
        ap capped is
        ∙ form-capped (flat_of t) (number_in depths) (before 0 (depth (flat_of t)) (length depths)) (known-before (flat_of t) depths h) (form_of t.paths.items n.form) n.parts.items
        ∙ ap capped (sym (ap (node_depth (flat_of t) (before 0 (depth (flat_of t)) (length depths))) (node-at t (length depths) ∙ ap (option_map (node_of t.paths.items)) e)))
        ∙ ap capped (sym (along-step 0 (λ j f. node_depth (flat_of t) f (slice_get (flat_of t).nodes j)) (length depths)))

    by_place : (k : ℕ) → k < length (depths ++ capped deep ∷ []) → (k < length depths) ⊎ (length depths ≤ k) → number_in (depths ++ capped deep ∷ []) k ≡ capped (depth (flat_of t) k)
    by_place k l (inl m) = get_or-left depths (capped deep) k 0 m ∙ h k m
    by_place k l (inr m) =
        let same : k ≡ length depths = omega (arith, l, m, length-append depths (capped deep ∷ [])) in
        ap (number_in (depths ++ capped deep ∷ [])) same ∙ get_or-end depths (capped deep) 0 ∙ here ∙ ap (λ i. capped (depth (flat_of t) i)) (sym same)

-- one node more, as it is read
pub depths_step : (t : tables.FlatModule) (depths list new : List ℕ) (index deep kept : ℕ) (n : node.Node) → AreDepths (flat_of t) depths → length depths ≡ index → index < length t.nodes.items → n ≡ get_or t.nodes.items index n → list ≡ depths → deep ≡ form_depth (flat_of t) (number_in list) (form_of t.paths.items n.form) n.parts.items → kept ≡ capped deep → new ≡ depths ++ kept ∷ [] → AreDepths (flat_of t) new
depths_step t depths list new index deep kept n h at l e list_is is kept_is new_is =
    let here : slice_get t.nodes.items (length depths) ≡ Some n = ap (slice_get t.nodes.items) at ∙ slice_get_read t.nodes.items _ index n refl l e in
    let deep_is = is ∙ ap (λ x. form_depth (flat_of t) (number_in x) (form_of t.paths.items n.form) n.parts.items) list_is in
    subst (AreDepths (flat_of t)) (sym (new_is ∙ ap (λ x. depths ++ x ∷ []) kept_is)) (depths-more t depths n deep here h deep_is)

pub depths_all : (t : tables.FlatModule) (depths : List ℕ) → length depths ≡ length t.nodes.items → AreDepths (flat_of t) depths → IsDepths (flat_of t) depths
depths_all t depths l h = record { long = l ∙ sym (nodes-long t); each = h }

-- where there are more nodes
pub depths_extended : (flat more : FlatModule) (depths new : List ℕ) → GivesDepths more depths new → Extends flat more → IsOrdered flat → IsDepths flat depths → IsDepths more new
depths_extended flat more depths new gives extends ordered h =
    gives (omega (arith, h.long, keeps-longer flat more extends))
    (λ i l. h.each i l ∙ ap capped (depth-kept flat more extends ordered i (omega (arith, l, h.long))))

-- what is kept of each number
pub depths_known : (flat : FlatModule) (depths : List ℕ) → IsDepths flat depths → (i : ℕ) → number_in depths i ≡ capped (depth flat i)
depths_known flat depths h i = by_place (cases_lt i (length depths))
  where
    by_place : (i < length depths) ⊎ (length depths ≤ i) → number_in depths i ≡ capped (depth flat i)
    by_place (inl l) = h.each i l
    by_place (inr l) =
        let none = get_or-past depths i 0 l in
        let zero_deep : depth flat i ≡ 0 = along-step 0 (λ j f. node_depth flat f (slice_get flat.nodes j)) i ∙ ap (node_depth flat (before 0 (depth flat) i)) (slice_get_past flat.nodes i (omega (arith, l, h.long))) in
        omega (arith, none, zero_deep)
