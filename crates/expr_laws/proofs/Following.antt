-- A lexeme that is no operator, no bullet and no `[]` may follow every expression and all bounds, and asks nothing of them.
use Rattle.std.proofs.Common.{◌≡◌, ℕ, inl, inr, Bool, true, false, List, Option, Some, None, ap}
use Rattle.tla_symbols.specs.declared.lexeme.Lexeme.{Lexeme}
use Rattle.tla_tree.specs.declared.form.Form.{Form}
use Rattle.tla_tree.specs.Syntax.{Tree, Trees}
use Rattle.tla_tree.specs.Alignment.{IsBullet, takes_left, MayFollow, MayFollowArms}
use Rattle.tla_tree.specs.Derivation.{Derives, node, Spells, identifier, number, text, at, prefixed, infixed, postfixed, products, parentheses, quantifier, bounded_quantifier, temporal_quantifier, choose, bounded_choose, empty_set, set, set_filter, set_image, application, function, function_set, record_of, record_set, field, except, empty_tuple, tuple, square, angle, fairness, if_then_else, case, let_in, junctions, DerivesFactors, last_factor, more_factors, DerivesArms, last_arm, other_arm, more_arms, DerivesArm, arm, DerivesItems, last_item, more_items, DerivesBound, bound, tuple_bound, DerivesBounds, last_bound, more_bounds}
use Rattle.expr_grammar.specs.Following.{IsQuietNext}

bullet-takes : (n : Lexeme) → IsBullet n → takes_left n.kind ≡ true
bullet-takes n (inl k, e) = ap takes_left k
bullet-takes n (inr k, e) = ap takes_left k

quiet-list : (first : Lexeme) (p : Option Lexeme) → IsQuietNext p → MayFollow first p
quiet-list first None q = tt
quiet-list first (Some n) q = (λ g. (let k : takes_left n.kind ≡ true = bullet-takes n g.0 in both ⊥ (takes_left n.kind) k q.apart), λ k. both _ (takes_left n.kind) k q.apart)
  where
    both : (P : Type 0) (b : Bool) → b ≡ true → b ≡ false → P
    both P b h k = cc

quiet-arms : (i : ℕ) (p : Option Lexeme) → IsQuietNext p → MayFollowArms i p
quiet-arms i None q = tt
quiet-arms i (Some n) q = λ k. absurd (q.no_arm k)

mutual
  pub before-quiet : {x : Tree} {a : List Lexeme} {i : ℕ} {o : Option Lexeme} → Derives x a i o → (p : Option Lexeme) → IsQuietNext p → Derives x a i p
  before-quiet (node s) p q = node (spells-quiet s p q)

  spells-quiet : {f : Form} {xs : Trees} {a : List Lexeme} {i : ℕ} {o : Option Lexeme} → Spells f xs a i o → (p : Option Lexeme) → IsQuietNext p → Spells f xs a i p
  spells-quiet (identifier d) p q = identifier d
  spells-quiet (number k) p q = number k
  spells-quiet (text k) p q = text k
  spells-quiet (at k) p q = at k
  spells-quiet (prefixed k h m d) p q = prefixed k h m (before-quiet d p q)
  spells-quiet (infixed t k h e j m d d') p q = infixed t k h e j m d (before-quiet d' p q)
  spells-quiet (postfixed t k h e d) p q = postfixed t k h e d
  spells-quiet (products t k j d d') p q = products t k j d (factors-quiet d' p q)
  spells-quiet (parentheses t u k l d) p q = parentheses t u k l d
  spells-quiet (quantifier t k l d d') p q = quantifier t k l d (before-quiet d' p q)
  spells-quiet (bounded_quantifier t k l d d') p q = bounded_quantifier t k l d (before-quiet d' p q)
  spells-quiet (temporal_quantifier t k l d d') p q = temporal_quantifier t k l d (before-quiet d' p q)
  spells-quiet (choose t k l d d') p q = choose t k l d (before-quiet d' p q)
  spells-quiet (bounded_choose t k l d b d') p q = bounded_choose t k l d b (before-quiet d' p q)
  spells-quiet (empty_set k l) p q = empty_set k l
  spells-quiet (set t u k l d) p q = set t u k l d
  spells-quiet (set_filter t c u k l e d b d') p q = set_filter t c u k l e d b d'
  spells-quiet (set_image t c u k l e d b d') p q = set_image t c u k l e d b d'
  spells-quiet (application t u k l e d d') p q = application t u k l e d d'
  spells-quiet (function t m u k l e d d') p q = function t m u k l e d d'
  spells-quiet (function_set t m u k l e d d') p q = function_set t m u k l e d d'
  spells-quiet (record_of t u k l d) p q = record_of t u k l d
  spells-quiet (record_set t u k l d) p q = record_set t u k l d
  spells-quiet (field t k l e d) p q = field t k l e d
  spells-quiet (except t w u k l e d d') p q = except t w u k l e d d'
  spells-quiet (empty_tuple k l) p q = empty_tuple k l
  spells-quiet (tuple t u k l d) p q = tuple t u k l d
  spells-quiet (square t u k l d d' s) p q = square t u k l d (before-quiet d' p q) s
  spells-quiet (angle t u k l d d' s) p q = angle t u k l d (before-quiet d' p q) s
  spells-quiet (fairness t u k l m d s d') p q = fairness t u k l m d s d'
  spells-quiet (if_then_else t u v k l m d d' d'') p q = if_then_else t u v k l m d d' (before-quiet d'' p q)
  spells-quiet (case k d) p q = case k (arms-quiet d p q)
  spells-quiet (let_in t k l d d') p q = let_in t k l d (before-quiet d' p q)
  spells-quiet (junctions {t = t} k l d m) p q = junctions k l (items-quiet d p q) (quiet-list t p q)

  factors-quiet : {xs : Trees} {a : List Lexeme} {i : ℕ} {o : Option Lexeme} → DerivesFactors xs a i o → (p : Option Lexeme) → IsQuietNext p → DerivesFactors xs a i p
  factors-quiet (last_factor m d) p q = last_factor m (before-quiet d p q)
  factors-quiet (more_factors t k m j d d') p q = more_factors t k m j d (factors-quiet d' p q)

  arms-quiet : {xs : Trees} {a : List Lexeme} {i : ℕ} {o : Option Lexeme} → DerivesArms xs a i o → (p : Option Lexeme) → IsQuietNext p → DerivesArms xs a i p
  arms-quiet (last_arm {inner = i} d m) p q = last_arm (arm-quiet d p q) (quiet-arms i p q)
  arms-quiet (other_arm k l d) p q = other_arm k l (before-quiet d p q)
  arms-quiet (more_arms t k d d') p q = more_arms t k d (arms-quiet d' p q)

  arm-quiet : {x : Tree} {a : List Lexeme} {i : ℕ} {o : Option Lexeme} → DerivesArm x a i o → (p : Option Lexeme) → IsQuietNext p → DerivesArm x a i p
  arm-quiet (arm t k d d') p q = arm t k d (before-quiet d' p q)

  items-quiet : {first : Lexeme} {xs : Trees} {l : List Lexeme} {o : Option Lexeme} → DerivesItems first xs l o → (p : Option Lexeme) → IsQuietNext p → DerivesItems first xs l p
  items-quiet (last_item g r d) p q = last_item g r (before-quiet d p q)
  items-quiet (more_items u g r d d') p q = more_items u g r d (items-quiet d' p q)

bound-quiet : {x : Tree} {a : List Lexeme} {i : ℕ} {o : Option Lexeme} → DerivesBound x a i o → (p : Option Lexeme) → IsQuietNext p → DerivesBound x a i p
bound-quiet (bound m k h d d') p q = bound m k h d (before-quiet d' p q)
bound-quiet (tuple_bound m k h d d') p q = tuple_bound m k h d (before-quiet d' p q)

pub bounds-quiet : {xs : Trees} {a : List Lexeme} {i : ℕ} {o : Option Lexeme} → DerivesBounds xs a i o → (p : Option Lexeme) → IsQuietNext p → DerivesBounds xs a i p
bounds-quiet (last_bound d) p q = last_bound (bound-quiet d p q)
bounds-quiet (more_bounds t k d d') p q = more_bounds t k d (bounds-quiet d' p q)
