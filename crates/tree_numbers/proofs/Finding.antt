-- What has the same trees is found to be the same by its numbers.
use Rattle.std.proofs.Common.{◌≡◌, ℕ, zero, suc, ◌<◌, List, [], ◌∷◌, arith, get_or, length, map, refl, ap}
use Rattle.kind_text.specs.FlatModule.{FlatModule}
use Rattle.kind_table.specs.declared.flat.Replacement.{Replacement}
use Rattle.kind_table.specs.Flattened.{replacement_of}
use Rattle.resolved_trees.specs.Resolved.{replacements_at, resolved}
use Rattle.tree_numbers.specs.Same.{AreNumberedReplacements}

-- what stands for two symbols has numbers, and the same trees
pub record AreAlike (flat : FlatModule) (numbers : List ℕ) (r s : Replacement) : Type 0 where
  pub most : r.most ≡ s.most
  pub one : r.root < length numbers
  pub other : s.root < length numbers
  pub same : resolved flat r.root ≡ resolved flat s.root

module _ (flat : FlatModule) where
  pub replacements-long : (rs ss : List Replacement) → replacements_at flat (resolved flat) (map replacement_of rs) ≡ replacements_at flat (resolved flat) (map replacement_of ss) → length rs ≡ length ss
  replacements-long [] [] same = refl
  replacements-long [] (s ∷ ss) same = cc
  replacements-long (r ∷ rs) [] same = cc
  replacements-long (r ∷ rs) (s ∷ ss) same =
      let rest : replacements_at flat (resolved flat) (map replacement_of rs) ≡ replacements_at flat (resolved flat) (map replacement_of ss) = cc in
      ap suc (replacements-long rs ss rest)

  pub replacements-alike : (numbers : List ℕ) (rs ss : List Replacement) (i : ℕ) (d e : Replacement) → i < length rs
      → AreNumberedReplacements numbers (map replacement_of rs) → AreNumberedReplacements numbers (map replacement_of ss)
      → replacements_at flat (resolved flat) (map replacement_of rs) ≡ replacements_at flat (resolved flat) (map replacement_of ss) → AreAlike flat numbers (get_or rs i d) (get_or ss i e)
  replacements-alike numbers [] ss i d e l all others same = absurd (omega (arith, l))
  replacements-alike numbers (r ∷ rs) [] i d e l all others same = cc
  replacements-alike numbers (r ∷ rs) (s ∷ ss) zero d e l all others same = record { most = cc; one = all.0; other = others.0; same = cc }
  replacements-alike numbers (r ∷ rs) (s ∷ ss) (suc i) d e l all others same =
      let rest : replacements_at flat (resolved flat) (map replacement_of rs) ≡ replacements_at flat (resolved flat) (map replacement_of ss) = cc in
      replacements-alike numbers rs ss i d e (omega (arith, l)) all.1 others.1 rest
