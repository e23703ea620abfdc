-- The greatest among more nodes, and what paths take.
use Rattle.std.proofs.Common.{◌≡◌, ℕ, ◌+◌, ◌<◌, max, List, [], ◌∷◌, ◌++◌, Option, Some, refl, sym, ap, ◌∙◌, map, take, length, get_or, nat_cmp, arith}
use Rattle.std.specs.Prelude.{slice_get}
use Rattle.std.specs.Ordering.{ord_max}
use Rattle.std.proofs.lemmas.Grind.{common_steps}
use Rattle.std.proofs.lemmas.List.{take_more}
use Rattle.kind_text.specs.FlatModule as text
use Rattle.kind_table.specs.declared.flat.Replacement as replacement
use Rattle.kind_table.specs.declared.flat.Instance as instance
use Rattle.kind_table.specs.Flattened.{instance_of, replacement_of}
use Rattle.level_text.specs.Depth.{greatest, parameters_of, parameters_on, replaced_depth, replaced_on}

pub greatest-push : (f : ℕ → ℕ) (is : List ℕ) (i : ℕ) → greatest f (is ++ i ∷ []) ≡ max (greatest f is) (f i)
greatest-push f [] i = omega arith
greatest-push f (j ∷ is) i = let h = greatest-push f is i in omega arith

pub greatest_root-push : (f : ℕ → ℕ) (rs : List replacement.Replacement) (r : replacement.Replacement) → greatest f (map (λ x. x.root) (rs ++ r ∷ [])) ≡ max (greatest f (map (λ x. x.root) rs)) (f r.root)
greatest_root-push f [] r = omega arith
greatest_root-push f (s ∷ rs) r = let h = greatest_root-push f rs r in omega arith

-- the nodes of replacements
pub roots-same : (rs : List replacement.Replacement) → map (λ (r : text.Replacement). r.root) (map replacement_of rs) ≡ map (λ (r : replacement.Replacement). r.root) rs
roots-same [] = refl
roots-same (r ∷ rs) = ap (λ is. r.root ∷ is) (roots-same rs)

module _ (flat : text.FlatModule) (f : ℕ → ℕ) where
  pub replaced-push : (path : List ℕ) (j : ℕ) → replaced_on flat f (path ++ j ∷ []) ≡ max (replaced_on flat f path) (replaced_depth f (slice_get flat.instances j))
  replaced-push [] j = omega arith
  replaced-push (i ∷ path) j = let h = replaced-push path j in omega arith

  pub parameters-push : (path : List ℕ) (j : ℕ) → parameters_on flat f (path ++ j ∷ []) ≡ parameters_on flat f path + parameters_of (slice_get flat.instances j)
  parameters-push [] j = omega arith
  parameters-push (i ∷ path) j = let h = parameters-push path j in omega arith

  -- depths do not count
  pub parameters-same : (g : ℕ → ℕ) (path : List ℕ) → parameters_on flat f path ≡ parameters_on flat g path
  parameters-same g [] = refl
  parameters-same g (j ∷ path) = ap (λ n. parameters_of (slice_get flat.instances j) + n) (parameters-same g path)

-- ---- one thing more

max-is : (a b : ℕ) → ord_max nat_cmp a b ≡ max a b
max-is a b = grind (arith, common_steps)

pub most_more : {A : Type 0} (F : List A → ℕ) (g : A → ℕ) → ((xs : List A) (x : A) → F (xs ++ x ∷ []) ≡ max (F xs) (g x)) → (xs : List A) (k : ℕ) (d : A) (most got next : ℕ) → k < length xs → (most ≡ F (take k xs)) × (most < 65536) → got ≡ g (get_or xs k d) → got < 65536 → next ≡ ord_max nat_cmp most got → (next ≡ F (take (k + 1) xs)) × (next < 65536)
most_more F g push xs k d most got next l h e small is =
    let m = is ∙ max-is most got in let p = ap F (take_more xs k d l) ∙ push (take k xs) (get_or xs k d) in
    (omega (arith, m, p, h.0, e), omega (arith, m, h.1, small))

-- the depth of the replacements of an instance that is read
pub replaced_read : (f : ℕ → ℕ) (o : Option text.Instance) (x : instance.Instance) (rs : List replacement.Replacement) (n : ℕ) → o ≡ Some (instance_of x) → rs ≡ x.replacements.items → n ≡ greatest f (map (λ r. r.root) rs) → n ≡ replaced_depth f o
replaced_read f o x rs n at_j is e =
    e ∙ ap (λ ys. greatest f (map (λ (r : replacement.Replacement). r.root) ys)) is ∙ ap (greatest f) (sym (roots-same x.replacements.items)) ∙ sym (ap (replaced_depth f) at_j)
