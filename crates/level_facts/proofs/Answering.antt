-- The kinds of nodes, one after another.
use Rattle.std.proofs.Common.{◌≡◌, ℕ, ◌+◌, ◌<◌, ◌≤◌, List, [], ◌∷◌, ◌++◌, Option, Some, inl, inr, sym, ap, ◌∙◌, subst, length, arith}
use Rattle.std.specs.Prelude.{◌⊎◌, slice_get}
use Rattle.std.proofs.lemmas.Bool.{cases_lt}
use Rattle.std.proofs.lemmas.List.{length_push}
use Rattle.list_laws.proofs.Lists.{at-end}
use Rattle.tla_symbols.specs.declared.level.Kind.{Kind}
use Rattle.kind_text.specs.ExpandedKind.{kind}
use Rattle.kind_text.specs.Substitution.{Item, judged}
use Rattle.kind_text.specs.FlatModule.{FlatModule, places_of}
use Rattle.kind_text.specs.Expansion.{text}
use Rattle.kind_table.specs.declared.argument.Arg.{Arg}
use Rattle.kind_table.specs.Flattened.{first_node}
use Rattle.kind_table.specs.Table.{AllWithin, Grows, meaning, meanings}
use Rattle.kind_table.proofs.Unfolding.{slice_get-more}
use Rattle.kind_table.proofs.Growth.{meaning_on, meanings_on}
use Rattle.level_facts.specs.Facts.{AreKinds}
use Rattle.level_facts.specs.Judged.{Found, Steps}
use Rattle.level_facts.proofs.Finding.{found_on}
use Rattle.level_facts.proofs.Likes.{kind-judged}

-- what was found of nodes stays found
pub all_found_on : (flat : FlatModule) {a b : List Arg} (start i : ℕ) (frame found : List ℕ) → Grows a b → AllWithin a frame → Found flat a start i frame found → Found flat b start i frame found
all_found_on flat start i frame found g w f = record { long = f.long; each = λ k l s. found_on flat (start + k) frame _ g w (f.each k l s) }

pub none_found : (flat : FlatModule) (table : List Arg) (start : ℕ) (frame found : List ℕ) → found ≡ [] → Found flat table start start frame found
none_found flat table start frame found is = subst (Found flat table start start frame) (sym is) (record { long = omega arith; each = λ k l. absurd (omega arith) })

pub no_kinds : (flat : FlatModule) (s : List Item) (start : ℕ) (kinds : List (Option Kind)) → kinds ≡ [] → AreKinds flat s start start kinds
no_kinds flat s start kinds is = subst (AreKinds flat s start start) (sym is) (record { long = omega arith; each = λ k l. absurd (omega arith) })

pub kinds_end : (flat : FlatModule) (s : List Item) (start i end : ℕ) (kinds : List (Option Kind)) → i ≡ end → AreKinds flat s start i kinds → AreKinds flat s start end kinds
kinds_end flat s start i end kinds e h = subst (λ x. AreKinds flat s start x kinds) e h

-- one node more
pub kinds_more : (flat : FlatModule) {a b c : List Arg} (start i : ℕ) (frame : List ℕ) (s : List Item) (n : ℕ) (k : Option Kind) (kinds new : List (Option Kind)) → AllWithin a frame → meanings flat a frame ≡ s → Steps flat a b start i frame n → Grows b c → (n < length b → k ≡ kind (judged (places_of (slice_get flat.nodes i)) (meaning flat c n))) → start ≤ i → AreKinds flat s start i kinds → new ≡ kinds ++ k ∷ [] → AreKinds flat s start (i + 1) new
kinds_more flat {a} {b} {c} start i frame s n k kinds new w m one g is l h new_is = subst (AreKinds flat s start (i + 1)) (sym new_is) (record {
  long = omega (arith, l, h.long, length_push kinds k);
  each = λ j u later. by_place j u later (cases_lt j (length kinds));
})
  where
    it : start ≤ first_node flat i → k ≡ kind (judged (places_of (slice_get flat.nodes i)) (text flat i s))
    it later =
        let f = one.found later in
        is f.within ∙ ap (λ x. kind (judged (places_of (slice_get flat.nodes i)) x)) (meaning_on flat g n f.within)
        ∙ kind-judged (places_of (slice_get flat.nodes i)) _ _ f.same
        ∙ ap (λ x. kind (judged (places_of (slice_get flat.nodes i)) (text flat i x))) (meanings_on flat one.grows frame w ∙ m)

    by_place : (j : ℕ) → j < length (kinds ++ k ∷ []) → start ≤ first_node flat (start + j) → (j < length kinds) ⊎ (length kinds ≤ j) → slice_get (kinds ++ k ∷ []) j ≡ Some (kind (judged (places_of (slice_get flat.nodes (start + j))) (text flat (start + j) s)))
    by_place j u later (inl v) = slice_get-more kinds (k ∷ []) j v ∙ h.each j v later
    by_place j u later (inr v) =
        let same : j ≡ length kinds = omega (arith, u, v, length_push kinds k) in
        let here : start + j ≡ i = omega (arith, same, h.long, l) in
        ap (slice_get (kinds ++ k ∷ [])) same ∙ at-end kinds k
        ∙ ap Some (it (subst (λ x. start ≤ first_node flat x) here later) ∙ ap (λ x. kind (judged (places_of (slice_get flat.nodes x)) (text flat x s))) (sym here))
