-- How often names are declared in a tree: none of those that a form binds is declared again in the expressions that it is made of.
use Rattle.std.proofs.Common.{◌≡◌, ℕ, ◌+◌, ◌≤◌, Bool, true, false, cond, List, [], ◌∷◌, ◌++◌, map, refl, sym, ap, ◌∙◌, arith}
use Rattle.tla_symbols.specs.declared.lexeme.Lexeme.{Lexeme}
use Rattle.tla_symbols.specs.declared.lexeme.Span.{Span}
use Rattle.tla_tree.specs.declared.form.Form.TheVariants as Form
use Rattle.tla_tree.specs.Forms.{helps}
use Rattle.tla_tree.specs.Syntax.{Trees, Node, Nil, Cons}
use Rattle.tla_model.specs.declared.ids.Callee.{Callee}
use Rattle.tla_model.specs.declared.entity.Entity.TheVariants as entity
use Rattle.tla_model.specs.declared.names.Binder.{Binder}
use Rattle.tla_model.specs.declared.names.Binding.TheVariants as as_binding
use Rattle.tla_model.specs.declared.names.Meaning.TheVariants.{BuiltIn, Declared}
use Rattle.tla_model.specs.Entities.{Binding, Entity, Meaning, Text, all_placed, binding_in, binding_of, bound_as, declared_among, declared_in, declared_round, defined, follows_first, is_group, meant, own, placed, same_meaning, within}
use Rattle.tla_model.specs.Scopes.{all_grouped, binders, names_in}
use Rattle.tree_kinds.specs.Expanding.{Part, Outer, Helper, Whole, part_of, stands_outside}
use Rattle.tree_kinds.specs.Standing.{same_standing}
use Rattle.tla_model.specs.Same.{same-alike}
use Rattle.tree_kinds.proofs.Standings.{standing-unlike}
use Rattle.flat_depths.proofs.Joining.{no-group, no-name}
use Rattle.flattened_trees.specs.Agreeing.{AreNew, is_seen}

-- ---- expressions among parts

-- an expression is no helper form
pub whole-plain : (form : Form.the_data) → part_of form ≡ Whole → helps form ≡ false
whole-plain form e = by_tests (stands_outside form) (helps form) e
  where
    by_tests : (a b : Bool) → cond a Outer (cond b Helper Whole) ≡ Whole → b ≡ false
    by_tests true b e = cc
    by_tests false true e = cc
    by_tests false false e = refl

pub plain-whole : (form : Form.the_data) → helps form ≡ false → part_of form ≡ Whole
plain-whole Form.Bound e = cc
plain-whole Form.TupleBound e = cc
plain-whole Form.IndexStep e = cc
plain-whole form e = ap (λ b. cond b Helper Whole) e

-- ---- counting

same-entity : (m : Meaning) (e f : Entity) (callee : Callee) → same_meaning m (Declared e callee) ≡ same_meaning m (Declared f callee)
same-entity BuiltIn e f callee = refl
same-entity (Declared g other) e f callee = refl

module _ (text : Text) where
  -- how many of these names mean the same as this
  abbrev pub times : Meaning → List Binder → ℕ
  times m [] = 0
  times m (b ∷ rest) = cond (same_meaning m (meant text b)) 1 0 + times m rest

  -- what none of these names means stands as none
  pub first-unlike : (b : Binder) (rest : List Binder) (m : Meaning) → times m (b ∷ rest) ≡ 0 → same_standing m (meant text b) ≡ false
  first-unlike b rest m e = standing-unlike m (meant text b) (by_same (same_meaning m (meant text b)) e)
    where
      by_same : (t : Bool) → cond t 1 0 + times m rest ≡ 0 → t ≡ false
      by_same true e = absurd (omega (arith, e))
      by_same false e = refl

  pub rest-none : (b : Binder) (rest : List Binder) (m : Meaning) → times m (b ∷ rest) ≡ 0 → times m rest ≡ 0
  rest-none b rest m e = omega (arith, e)

  -- the same of names with their places
  abbrev placed_times : Meaning → List (Lexeme × ℕ) → ℕ
  placed_times m [] = 0
  placed_times m (n ∷ rest) = cond (same_meaning m (Declared entity.Module (own text n.0))) 1 0 + placed_times m rest

  pub times-joins : (m : Meaning) (a b : List Binder) → times m (a ++ b) ≡ times m a + times m b
  times-joins m [] b = omega arith
  times-joins m (x ∷ a) b = omega (arith, times-joins m a b)

  placed-joins : (m : Meaning) (a b : List (Lexeme × ℕ)) → placed_times m (a ++ b) ≡ placed_times m a + placed_times m b
  placed-joins m [] b = omega arith
  placed-joins m (x ∷ a) b = omega (arith, placed-joins m a b)

  times-bound : (m : Meaning) (binding : Binding) (names : List (Lexeme × ℕ)) → times m (bound_as binding names) ≡ placed_times m names
  times-bound m binding [] = refl
  times-bound m binding (n ∷ rest) =
      ap (λ b. cond b 1 0 + times m (bound_as binding rest)) (same-entity m _ entity.Module (own text n.0))
      ∙ ap (λ k. cond (same_meaning m (Declared entity.Module (own text n.0))) 1 0 + k) (times-bound m binding rest)

  -- the names that are declared in the expressions which parts are made of
  abbrev pub inner_names : Trees → List Binder
  inner_names Nil = []
  inner_names (Cons (Node form s parts) rest) = (elim (part_of form) [ Outer ↦ inner_names parts | Helper ↦ inner_names parts | Whole ↦ within (Node form s parts) ]) ++ inner_names rest

  -- names that are declared behind those that stand at a form
  abbrev behind_names : Binding → Form.the_data → Trees → List Binder
  behind_names binding form parts = cond (follows_first form) (declared_round form parts) (defined form parts ++ declared_among (binding_in binding form) parts)

  round-counts : (m : Meaning) (binding : Binding) (form : Form.the_data) (parts : Trees) (n : ℕ) → ((b : Binding) → n ≤ times m (declared_among b parts)) → times m (defined form parts) + n ≤ times m (behind_names binding form parts)
  round-counts m binding form parts n least = by_first (follows_first form)
    where
      round : (xs : Trees) → ((b : Binding) → n ≤ times m (declared_among b xs)) → times m (defined form xs) + n ≤ times m (declared_round form xs)
      round Nil l = let k = l binding in omega (arith, k)
      round (Cons x rest) l =
          let k = l (binding_of form) in
          let e : times m (declared_among (binding_of form) (Cons x rest)) ≡ times m (declared_in (binding_of form) x) + times m (declared_among (binding_of form) rest) = times-joins m (declared_in (binding_of form) x) (declared_among (binding_of form) rest) in
          let f : times m (declared_round form (Cons x rest)) ≡ times m (declared_in (binding_of form) x ++ defined form (Cons x rest)) + times m (declared_among (binding_of form) rest) = times-joins m (declared_in (binding_of form) x ++ defined form (Cons x rest)) (declared_among (binding_of form) rest) in
          let g = times-joins m (declared_in (binding_of form) x) (defined form (Cons x rest)) in
          omega (arith, k, e, f, g)

      by_first : (b : Bool) → times m (defined form parts) + n ≤ times m (cond b (declared_round form parts) (defined form parts ++ declared_among (binding_in binding form) parts))
      by_first true = round parts least
      by_first false = let e = times-joins m (defined form parts) (declared_among (binding_in binding form) parts) in let k = least (binding_in binding form) in omega (arith, e, k)

  -- a tree declares the same names whatever it is a part of, if it is no group
  pub in-counts : (m : Meaning) (a b : Binding) (form : Form.the_data) (s : Span) (parts : Trees) → is_group form ≡ false → times m (declared_in a (Node form s parts)) ≡ times m (declared_in b (Node form s parts))
  in-counts m a b form s parts none =
      times-joins m (bound_as a (placed form)) (behind_names a form parts)
      ∙ ap (λ n. n + times m (behind_names a form parts)) (times-bound m a (placed form) ∙ sym (times-bound m b (placed form)))
      ∙ ap (λ (c : Binding). times m (bound_as b (placed form)) + times m (cond (follows_first form) (declared_round form parts) (defined form parts ++ declared_among c parts))) (ap (λ g. cond g a (binding_of form)) none ∙ sym (ap (λ g. cond g b (binding_of form)) none))
      ∙ sym (times-joins m (bound_as b (placed form)) (behind_names b form parts))

  grouped-few : (m : Meaning) (b : Bool) (parts : Trees) → placed_times m (names_in b parts) ≤ placed_times m (all_placed parts)
  grouped-few m true parts = omega arith
  grouped-few m false parts = omega arith

  part-counts : (m : Meaning) (binding : Binding) (form : Form.the_data) (s : Span) (parts : Trees) → ((b : Binding) → placed_times m (all_placed parts) + placed_times m (all_grouped parts) + times m (inner_names parts) ≤ times m (declared_among b parts)) → (p : Part) → part_of form ≡ p → placed_times m (placed form) + placed_times m (names_in (is_group form) parts) + times m (elim p [ Outer ↦ inner_names parts | Helper ↦ inner_names parts | Whole ↦ within (Node form s parts) ]) ≤ times m (declared_in binding (Node form s parts))
  part-counts m binding form s parts least p e = by_part p e
    where
      apart : placed_times m (placed form) + placed_times m (names_in (is_group form) parts) + times m (inner_names parts) ≤ times m (declared_in binding (Node form s parts))
      apart =
          let k = round-counts m binding form parts _ least in
          let j = times-joins m (bound_as binding (placed form)) (behind_names binding form parts) in
          let b = times-bound m binding (placed form) in
          let g = grouped-few m (is_group form) parts in
          omega (arith, k, j, b, g)

      whole : (helps form ≡ false) → placed_times m (placed form) + placed_times m (names_in (is_group form) parts) + times m (within (Node form s parts)) ≤ times m (declared_in binding (Node form s parts))
      whole plain =
          let n = ap (placed_times m) (no-name form plain) in
          let g = ap (λ b. placed_times m (names_in b parts)) (no-group form plain) in
          let i = in-counts m (as_binding.Bound false) binding form s parts (no-group form plain) in
          omega (arith, n, g, i)

      by_part : (p : Part) → part_of form ≡ p → placed_times m (placed form) + placed_times m (names_in (is_group form) parts) + times m (elim p [ Outer ↦ inner_names parts | Helper ↦ inner_names parts | Whole ↦ within (Node form s parts) ]) ≤ times m (declared_in binding (Node form s parts))
      by_part Outer e = apart
      by_part Helper e = apart
      by_part Whole e = whole (whole-plain form e)

  among-counts : (m : Meaning) (parts : Trees) (binding : Binding) → placed_times m (all_placed parts) + placed_times m (all_grouped parts) + times m (inner_names parts) ≤ times m (declared_among binding parts)
  among-counts m Nil binding = omega arith
  among-counts m (Cons (Node form s parts) rest) binding =
      let h = part-counts m binding form s parts (among-counts m parts) (part_of form) refl in
      let t = among-counts m rest binding in
      let a = placed-joins m (placed form) (all_placed rest) in
      let b = placed-joins m (names_in (is_group form) parts) (all_grouped rest) in
      let c = times-joins m (elim (part_of form) [ Outer ↦ inner_names parts | Helper ↦ inner_names parts | Whole ↦ within (Node form s parts) ]) (inner_names rest) in
      let d = times-joins m (declared_in binding (Node form s parts)) (declared_among binding rest) in
      omega (arith, h, t, a, b, c, d)

  -- what a form defines and binds, and what is declared in the expressions that it is made of
  pub within-counts : (m : Meaning) (form : Form.the_data) (s : Span) (parts : Trees) → times m (defined form parts ++ binders form parts) + times m (inner_names parts) ≤ times m (within (Node form s parts))
  within-counts m form s parts =
      let k = round-counts m (as_binding.Bound false) form parts _ (among-counts m parts) in
      let j = times-joins m (bound_as (as_binding.Bound false) (placed form)) (behind_names (as_binding.Bound false) form parts) in
      let b = bound (is_group form) in
      let d = times-joins m (defined form parts) (binders form parts) in
      omega (arith, k, j, b, d)
    where
      bound : (b : Bool) → times m (cond b [] (bound_as (binding_of form) (all_placed parts ++ all_grouped parts))) ≤ placed_times m (all_placed parts) + placed_times m (all_grouped parts)
      bound true = omega arith
      bound false = let e = times-bound m (binding_of form) (all_placed parts ++ all_grouped parts) in let f = placed-joins m (all_placed parts) (all_grouped parts) in omega (arith, e, f)

  -- ---- names that are new

  -- each of these is declared once, and none was seen
  abbrev pub New : List Meaning → List Binder → Type 0
  New seen names = (m : Meaning) → times m names + cond (is_seen seen m) 1 0 ≤ 1

  pub new-from : (names : List Binder) (seen : List Meaning) → AreNew seen (map (meant text) names) → New seen names
  new-from [] seen new m = by_seen (is_seen seen m)
    where
      by_seen : (b : Bool) → 0 + cond b 1 0 ≤ 1
      by_seen true = omega arith
      by_seen false = omega arith
  new-from (b ∷ rest) seen new m = by_same (same_meaning m (meant text b)) refl (new-from rest (meant text b ∷ seen) new.1 m)
    where
      seen-same : (xs : List Meaning) (a c : Meaning) → same_meaning a c ≡ true → is_seen xs a ≡ is_seen xs c
      seen-same [] a c e = refl
      seen-same (x ∷ xs) a c e = ap (λ (t : Bool). cond t true (is_seen xs a)) (same-alike a c x e) ∙ ap (λ (t : Bool). cond (same_meaning c x) true t) (seen-same xs a c e)

      by_same : (t : Bool) → same_meaning m (meant text b) ≡ t → times m rest + cond (cond t true (is_seen seen m)) 1 0 ≤ 1 → (cond t 1 0 + times m rest) + cond (is_seen seen m) 1 0 ≤ 1
      by_same true e l = let f = ap {B = ℕ} (λ t. cond t 1 0) (seen-same seen m (meant text b) e ∙ new.0) in omega (arith, l, f)
      by_same false e l = omega (arith, l)

  pub seen-alike : (seen : List Meaning) (a b : Meaning) → same_meaning a b ≡ true → is_seen seen a ≡ is_seen seen b
  seen-alike [] a b e = refl
  seen-alike (x ∷ seen) a b e = ap (λ (t : Bool). cond t true (is_seen seen a)) (same-alike a b x e) ∙ ap (λ (t : Bool). cond (same_meaning b x) true t) (seen-alike seen a b e)

  -- with more names
  abbrev pub and_seen : List Binder → List Meaning → List Meaning
  and_seen names seen = map (meant text) names ++ seen

  seen-more : (names : List Binder) (seen : List Meaning) (m : Meaning) → cond (is_seen (and_seen names seen) m) 1 0 ≤ times m names + cond (is_seen seen m) 1 0
  seen-more [] seen m = omega arith
  seen-more (b ∷ names) seen m = by_same (same_meaning m (meant text b)) (seen-more names seen m)
    where
      by_same : (t : Bool) → cond (is_seen (and_seen names seen) m) 1 0 ≤ times m names + cond (is_seen seen m) 1 0 → cond (cond t true (is_seen (and_seen names seen) m)) 1 0 ≤ (cond t 1 0 + times m names) + cond (is_seen seen m) 1 0
      by_same true l = omega arith
      by_same false l = omega (arith, l)

  pub new-behind : (names whole others : List Binder) (seen : List Meaning) → ((m : Meaning) → times m names + times m others ≤ times m whole) → New seen whole → New (and_seen names seen) others
  new-behind names whole others seen few new m = let a = few m in let b = new m in let c = seen-more names seen m in omega (arith, a, b, c)

  pub new-fewer : (whole others : List Binder) (seen : List Meaning) → ((m : Meaning) → times m others ≤ times m whole) → New seen whole → New seen others
  new-fewer whole others seen few new m = let a = few m in let b = new m in omega (arith, a, b)

  pub still-seen : (names : List Binder) (seen : List Meaning) (m : Meaning) → is_seen seen m ≡ true → is_seen (and_seen names seen) m ≡ true
  still-seen [] seen m e = e
  still-seen (b ∷ names) seen m e = by_same (same_meaning m (meant text b)) (still-seen names seen m e)
    where
      by_same : (t : Bool) → is_seen (and_seen names seen) m ≡ true → cond t true (is_seen (and_seen names seen) m) ≡ true
      by_same true f = refl
      by_same false f = f

  pub not-seen : (names : List Binder) (seen : List Meaning) (m : Meaning) → is_seen (and_seen names seen) m ≡ false → (is_seen seen m ≡ false) × (times m names ≡ 0)
  not-seen [] seen m e = (e, refl)
  not-seen (b ∷ names) seen m e = by_same (same_meaning m (meant text b)) e (not-seen names seen m)
    where
      by_same : (t : Bool) → cond t true (is_seen (and_seen names seen) m) ≡ false → (is_seen (and_seen names seen) m ≡ false → (is_seen seen m ≡ false) × (times m names ≡ 0)) → (is_seen seen m ≡ false) × (cond t 1 0 + times m names ≡ 0)
      by_same true e next = cc
      by_same false e next = let r = next e in (r.0, omega (arith, r.1))

  pub seen-none : (names : List Binder) (seen : List Meaning) (m : Meaning) → New seen names → is_seen seen m ≡ true → times m names ≡ 0
  seen-none names seen m new e = let a = new m in let b = ap {B = ℕ} (λ t. cond t 1 0) e in omega (arith, a, b)
