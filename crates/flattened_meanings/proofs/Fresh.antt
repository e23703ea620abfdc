-- How often names are declared in trees: those of a scope are others than those in what stands there.
use Rattle.std.proofs.Common.{◌≡◌, inl, inr, ℕ, ◌+◌, ◌≤◌, Bool, true, false, cond, List, [], ◌∷◌, ◌++◌, map, refl, sym, ap, ◌∙◌, arith}
use Rattle.std.specs.Prelude.{◌⊎◌, not}
use Rattle.std.proofs.lemmas.List.{map-append}
use Rattle.tla_symbols.specs.declared.lexeme.Lexeme.{Lexeme}
use Rattle.tla_symbols.specs.declared.lexeme.Span.{Span}
use Rattle.tla_tree.specs.declared.form.Form.TheVariants as Form
use Rattle.tla_tree.specs.Syntax.{Tree, Trees, Node, Nil, Cons}
use Rattle.tla_model.specs.declared.names.Binder.{Binder}
use Rattle.tla_model.specs.declared.names.Binding.TheVariants as as_binding
use Rattle.tla_model.specs.declared.ids.Callee.{Callee}
use Rattle.tla_model.specs.declared.names.Meaning.TheVariants.{BuiltIn, Declared}
use Rattle.tla_model.specs.Entities.{Binding, Entity, Meaning, Text, all_placed, bound_as, declared_among, declared_in, declared_round, defined, entity_of, follows_first, is_group, binding_in, binding_of, meant, own, placed, same_meaning, within}
use Rattle.tla_model.specs.Scopes.{all_grouped, binders, names_in}
use Rattle.tla_model.specs.Same.{meaning-itself, same-alike}
use Rattle.tree_kinds.specs.Expanding.{Outer, Helper, Whole, Part, part_of}
use Rattle.tree_kinds.specs.Standing.{same_standing}
use Rattle.tree_kinds.proofs.Standings.{standing-unlike}
use Rattle.flattened_trees.specs.Agreeing.{AreNew, is_seen}

-- ---- marks

-- once or never
abbrev pub mark : Bool → ℕ
mark true = 1
mark false = 0

-- as whatever it is declared, a name is the same
same-entity : (m : Meaning) (e f : Entity) (c : Callee) → same_meaning m (Declared e c) ≡ same_meaning m (Declared f c)
same-entity BuiltIn e f c = refl
same-entity (Declared g d) e f c = refl

pub seen-alike : (seen : List Meaning) (a b : Meaning) → same_meaning a b ≡ true → is_seen seen a ≡ is_seen seen b
seen-alike [] a b same = refl
seen-alike (first ∷ rest) a b same =
    ap (λ t. cond t true (is_seen rest a)) (same-alike a b first same) ∙ ap (λ u. cond (same_meaning b first) true u) (seen-alike rest a b same)

module _ (text : Text) where
  -- how often a meaning is among names
  abbrev pub times : Meaning → List Binder → ℕ
  times m [] = 0
  times m (name ∷ rest) = mark (same_meaning m (meant text name)) + times m rest

  mark-none : (b : Bool) (n : ℕ) → mark b + n ≡ 0 → b ≡ false
  mark-none true n e = absurd (omega (arith, e))
  mark-none false n e = refl

  -- what is none of these names stands as none
  pub first-unlike : (name : Binder) (rest : List Binder) (m : Meaning) → times m (name ∷ rest) ≡ 0 → same_standing m (meant text name) ≡ false
  first-unlike name rest m none = standing-unlike m (meant text name) (mark-none (same_meaning m (meant text name)) (times m rest) none)

  pub rest-none : (name : Binder) (rest : List Binder) (m : Meaning) → times m (name ∷ rest) ≡ 0 → times m rest ≡ 0
  rest-none name rest m none = omega (arith, none)

  pub times-append : (m : Meaning) (a b : List Binder) → times m (a ++ b) ≡ times m a + times m b
  times-append m [] b = omega arith
  times-append m (x ∷ a) b = let e = times-append m a b in omega (arith, e)

  -- these names were not seen, and none is there twice
  abbrev pub Fresh : (Meaning → Bool) → List Binder → Type 0
  Fresh seen names = (m : Meaning) → times m names + mark (seen m) ≤ 1

  pub new-times : (seen : List Meaning) (names : List Binder) → AreNew seen (map (meant text) names) → (m : Meaning) → times m names + mark (is_seen seen m) ≤ 1
  new-times seen [] new m = by_mark (is_seen seen m)
    where
      by_mark : (b : Bool) → 0 + mark b ≤ 1
      by_mark true = omega arith
      by_mark false = omega arith
  new-times seen (x ∷ rest) new m =
      by_sameness (same_meaning m (meant text x)) refl (new-times (meant text x ∷ seen) rest new.1 m)
    where
      by_sameness : (b : Bool) → same_meaning m (meant text x) ≡ b → times m rest + mark (cond b true (is_seen seen m)) ≤ 1 → (mark b + times m rest) + mark (is_seen seen m) ≤ 1
      by_sameness true e others =
          let unseen : mark (is_seen seen m) ≡ 0 = ap mark (seen-alike seen m (meant text x) e ∙ new.0) in
          omega (arith, others, unseen)
      by_sameness false e others = omega (arith, others)

  pub others-none : (names : List Binder) (m : Meaning) → is_seen (map (meant text) names) m ≡ false → times m names ≡ 0
  others-none [] m e = refl
  others-none (x ∷ rest) m e = by_sameness (same_meaning m (meant text x)) e (others-none rest m)
    where
      by_sameness : (b : Bool) → cond b true (is_seen (map (meant text) rest) m) ≡ false → (is_seen (map (meant text) rest) m ≡ false → times m rest ≡ 0) → mark b + times m rest ≡ 0
      by_sameness true none again = absurd (cc none)
      by_sameness false none again = let z = again none in omega (arith, z)

  -- new names are those that were not seen where all others were
  pub new-fresh : (seen : List Meaning) (names : List Binder) → AreNew seen (map (meant text) names) → Fresh (λ m. not (is_seen (map (meant text) names) m)) names
  new-fresh seen names new m = by_sameness (is_seen (map (meant text) names) m) (others-none names m) (new-times seen names new m)
    where
      by_sameness : (b : Bool) → (b ≡ false → times m names ≡ 0) → times m names + mark (is_seen seen m) ≤ 1 → times m names + mark (not b) ≤ 1
      by_sameness true none l = omega (arith, l)
      by_sameness false none l = let z = none refl in omega (arith, z)

  -- what was seen is none of the new names
  pub seen-other : (seen : List Meaning) (names : List Binder) (m : Meaning) → AreNew seen (map (meant text) names) → is_seen seen m ≡ true → not (is_seen (map (meant text) names) m) ≡ true
  seen-other seen names m new is =
      ap not (by_times names (let l = new-times seen names new m in let k : mark (is_seen seen m) ≡ 1 = ap mark is in omega (arith, l, k)))
    where
      by_times : (ns : List Binder) → times m ns ≡ 0 → is_seen (map (meant text) ns) m ≡ false
      by_times [] e = refl
      by_times (x ∷ rest) e = by_sameness (same_meaning m (meant text x)) e (by_times rest)
        where
          by_sameness : (b : Bool) → mark b + times m rest ≡ 0 → (times m rest ≡ 0 → is_seen (map (meant text) rest) m ≡ false) → cond b true (is_seen (map (meant text) rest) m) ≡ false
          by_sameness true z again = absurd (omega (arith, z))
          by_sameness false z again = again (omega (arith, z))

  -- ---- names that were seen with these

  -- it was seen, or is one of these
  abbrev pub seen-with : List Binder → (Meaning → Bool) → Meaning → Bool
  seen-with [] seen m = seen m
  seen-with (x ∷ rest) seen m = cond (same_meaning m (meant text x)) true (seen-with rest seen m)

  pub seen-most : (names : List Binder) (seen : Meaning → Bool) (m : Meaning) → mark (seen-with names seen m) ≤ times m names + mark (seen m)
  seen-most [] seen m = omega arith
  seen-most (x ∷ rest) seen m = by_sameness (same_meaning m (meant text x)) (seen-most rest seen m)
    where
      by_sameness : (b : Bool) → mark (seen-with rest seen m) ≤ times m rest + mark (seen m) → mark (cond b true (seen-with rest seen m)) ≤ (mark b + times m rest) + mark (seen m)
      by_sameness true l = omega arith
      by_sameness false l = omega (arith, l)

  pub seen-still : (names : List Binder) (seen : Meaning → Bool) (m : Meaning) → seen m ≡ true → seen-with names seen m ≡ true
  seen-still [] seen m is = is
  seen-still (x ∷ rest) seen m is = by_sameness (same_meaning m (meant text x)) (seen-still rest seen m is)
    where
      by_sameness : (b : Bool) → seen-with rest seen m ≡ true → cond b true (seen-with rest seen m) ≡ true
      by_sameness true l = refl
      by_sameness false l = l

  -- what was not seen with these was not seen, and is none of these
  pub unseen-before : (names : List Binder) (seen : Meaning → Bool) (m : Meaning) → seen-with names seen m ≡ false → (seen m ≡ false) × (times m names ≡ 0)
  unseen-before [] seen m none = (none, refl)
  unseen-before (x ∷ rest) seen m none = by_sameness (same_meaning m (meant text x)) none (unseen-before rest seen m)
    where
      by_sameness : (b : Bool) → cond b true (seen-with rest seen m) ≡ false → (seen-with rest seen m ≡ false → (seen m ≡ false) × (times m rest ≡ 0)) → (seen m ≡ false) × (mark b + times m rest ≡ 0)
      by_sameness true e again = absurd (cc e)
      by_sameness false e again = let before = again e in (before.0, let z = before.1 in omega (arith, z))

  -- names among others, with what stands in the scope of these
  pub fresh-among : (seen : Meaning → Bool) (all names part : List Binder) → Fresh seen all → ((m : Meaning) → times m names + times m part ≤ times m all) → Fresh (seen-with names seen) part
  fresh-among seen all names part fresh within m =
      let a = fresh m in let b = within m in let c = seen-most names seen m in omega (arith, a, b, c)

  pub fresh-less : (seen : Meaning → Bool) (all part : List Binder) → Fresh seen all → ((m : Meaning) → times m part ≤ times m all) → Fresh seen part
  fresh-less seen all part fresh within m = let a = fresh m in let b = within m in omega (arith, a, b)

  pub fresh-left : (seen : Meaning → Bool) (a b : List Binder) → Fresh seen (a ++ b) → Fresh seen a
  fresh-left seen a b fresh = fresh-less seen (a ++ b) a fresh (λ m. let e = times-append m a b in omega (arith, e))

  pub fresh-right : (seen : Meaning → Bool) (a b : List Binder) → Fresh seen (a ++ b) → Fresh seen b
  fresh-right seen a b fresh = fresh-less seen (a ++ b) b fresh (λ m. let e = times-append m a b in omega (arith, e))

  -- ---- names that are one of these

  -- a meaning is that of one of these names
  abbrev pub IsOneOf : List Binder → Meaning → Type 0
  IsOneOf [] m = ⊥
  IsOneOf (name ∷ rest) m = (m ≡ meant text name) ⊎ IsOneOf rest m

  pub one-counts : (names : List Binder) (m : Meaning) → IsOneOf names m → 1 ≤ times m names
  one-counts [] m one = absurd one
  one-counts (x ∷ rest) m (inl same) =
      let e : same_meaning m (meant text x) ≡ true = ap (λ n. same_meaning m n) (sym same) ∙ meaning-itself m in
      let k : mark (same_meaning m (meant text x)) ≡ 1 = ap mark e in omega (arith, k)
  one-counts (x ∷ rest) m (inr one) = let l = one-counts rest m one in omega (arith, l)

  -- what was seen is none of these
  pub seen-none : (seen : Meaning → Bool) (names : List Binder) (m : Meaning) → Fresh seen names → seen m ≡ true → times m names ≡ 0
  seen-none seen names m fresh is = let a = fresh m in let b : mark (seen m) ≡ 1 = ap mark is in omega (arith, a, b)

  -- ---- what is declared in trees

  -- what a tree declares behind its own place
  abbrev declared-rest : Binding → Form.the_data → Trees → List Binder
  declared-rest b form parts = cond (follows_first form) (declared_round form parts) (defined form parts ++ declared_among (binding_in b form) parts)

  -- the binding of names is not looked at
  times-bound : (m : Meaning) (a b : Binding) (names : List (Lexeme × ℕ)) → times m (bound_as a names) ≡ times m (bound_as b names)
  times-bound m a b [] = refl
  times-bound m a b (name ∷ rest) =
      ap (λ t. mark t + times m (bound_as a rest)) (same-entity m (entity_of a name.1) (entity_of b name.1) (own text name.0))
      ∙ ap (λ n. mark (same_meaning m (Declared (entity_of b name.1) (own text name.0))) + n) (times-bound m a b rest)

  bound-append : (a : Binding) (xs ys : List (Lexeme × ℕ)) → bound_as a (xs ++ ys) ≡ bound_as a xs ++ bound_as a ys
  bound-append a xs ys = map-append _ xs ys

  -- names that are declared or bound so
  abbrev placed-times : Meaning → List (Lexeme × ℕ) → ℕ
  placed-times m names = times m (bound_as as_binding.Constant names)

  placed-append : (m : Meaning) (xs ys : List (Lexeme × ℕ)) → placed-times m (xs ++ ys) ≡ placed-times m xs + placed-times m ys
  placed-append m xs ys = ap (times m) (bound-append as_binding.Constant xs ys) ∙ times-append m (bound_as as_binding.Constant xs) (bound_as as_binding.Constant ys)

  -- how often a meaning is declared among parts, whatever it is bound as
  abbrev pub among : Meaning → Trees → ℕ
  among m parts = times m (declared_among as_binding.Constant parts)

  -- the same in a tree
  abbrev pub in-tree : Meaning → Tree → ℕ
  in-tree m x = times m (declared_in as_binding.Constant x)

  rest-any : (m : Meaning) (b : Binding) (form : Form.the_data) (parts : Trees) (first : Bool) → ((c : Binding) → times m (declared_among c parts) ≡ among m parts) → times m (cond first (declared_round form parts) (defined form parts ++ declared_among (binding_in b form) parts)) ≡ times m (cond first (declared_round form parts) (defined form parts ++ declared_among (binding_in as_binding.Constant form) parts))
  rest-any m b form parts true all = refl
  rest-any m b form parts false all =
      times-append m (defined form parts) (declared_among (binding_in b form) parts)
      ∙ ap (λ n. times m (defined form parts) + n) (all (binding_in b form) ∙ sym (all (binding_in as_binding.Constant form)))
      ∙ sym (times-append m (defined form parts) (declared_among (binding_in as_binding.Constant form) parts))

  mutual
    pub tree-any : (m : Meaning) (b : Binding) (x : Tree) → times m (declared_in b x) ≡ in-tree m x
    tree-any m b (Node form s parts) =
        times-append m (bound_as b (placed form)) (declared-rest b form parts)
        ∙ ap (λ n. n + times m (declared-rest b form parts)) (times-bound m b as_binding.Constant (placed form))
        ∙ ap (λ n. placed-times m (placed form) + n) (rest-any m b form parts (follows_first form) (λ c. among-any m c parts))
        ∙ sym (times-append m (bound_as as_binding.Constant (placed form)) (declared-rest as_binding.Constant form parts))

    pub among-any : (m : Meaning) (b : Binding) (parts : Trees) → times m (declared_among b parts) ≡ among m parts
    among-any m b Nil = refl
    among-any m b (Cons x rest) =
        times-append m (declared_in b x) (declared_among b rest)
        ∙ ap (λ n. n + times m (declared_among b rest)) (tree-any m b x)
        ∙ ap (λ n. in-tree m x + n) (among-any m b rest)
        ∙ sym (times-append m (declared_in as_binding.Constant x) (declared_among as_binding.Constant rest))

  pub among-next : (m : Meaning) (x : Tree) (rest : Trees) → among m (Cons x rest) ≡ in-tree m x + among m rest
  among-next m x rest = times-append m (declared_in as_binding.Constant x) (declared_among as_binding.Constant rest)

  -- what a node declares itself, and what its parts do
  pub node-names : (m : Meaning) (form : Form.the_data) (s : Span) (parts : Trees) → in-tree m (Node form s parts) ≡ placed-times m (placed form) + (times m (defined form parts) + among m parts)
  node-names m form s parts =
      times-append m (bound_as as_binding.Constant (placed form)) (declared-rest as_binding.Constant form parts)
      ∙ ap (λ n. placed-times m (placed form) + n) (rest-names (follows_first form) parts)
    where
      rest-names : (first : Bool) (ps : Trees) → times m (cond first (declared_round form ps) (defined form ps ++ declared_among (binding_in as_binding.Constant form) ps)) ≡ times m (defined form ps) + among m ps
      rest-names false ps =
          times-append m (defined form ps) (declared_among (binding_in as_binding.Constant form) ps)
          ∙ ap (λ n. times m (defined form ps) + n) (among-any m (binding_in as_binding.Constant form) ps)
      rest-names true Nil = let none : times m (defined form Nil) ≡ times m (defined form Nil) + 0 = omega arith in none
      rest-names true (Cons x rest) =
          let a = times-append m (declared_in (binding_of form) x ++ defined form (Cons x rest)) (declared_among (binding_of form) rest) in
          let b = times-append m (declared_in (binding_of form) x) (defined form (Cons x rest)) in
          let c = tree-any m (binding_of form) x in
          let d = among-any m (binding_of form) rest in
          let e = among-next m x rest in
          let whole : times m ((declared_in (binding_of form) x ++ defined form (Cons x rest)) ++ declared_among (binding_of form) rest) ≡ times m (defined form (Cons x rest)) + among m (Cons x rest) = omega (arith, a, b, c, d, e) in
          whole

  -- ---- what is declared in expressions

  -- the names in the expressions that parts are made of
  abbrev pub whole-names : Trees → List Binder
  whole-names Nil = []
  whole-names (Cons (Node form s parts) rest) =
      (elim (part_of form) [ Outer ↦ whole-names parts | Helper ↦ whole-names parts | Whole ↦ declared_in as_binding.Constant (Node form s parts) ]) ++ whole-names rest

  -- an expression binds no name as a part
  pub whole-plain : (form : Form.the_data) → part_of form ≡ Whole → (placed form ≡ []) × (is_group form ≡ false)
  whole-plain (Form.Name l) e = cc
  whole-plain (Form.OperatorParameter l n) e = cc
  whole-plain (Form.PrefixParameter l) e = cc
  whole-plain (Form.InfixParameter l) e = cc
  whole-plain (Form.PostfixParameter l) e = cc
  whole-plain Form.Names e = cc
  whole-plain Form.TupleNames e = cc
  whole-plain Form.Bound e = cc
  whole-plain Form.TupleBound e = cc
  whole-plain Form.Bounds e = cc
  whole-plain form e = (refl, refl)

  -- the names that parts bind are others than those in their expressions
  wholes-within : (m : Meaning) (parts : Trees) → (times m (whole-names parts) + placed-times m (all_placed parts)) + placed-times m (all_grouped parts) ≤ among m parts
  wholes-within m Nil = omega arith
  wholes-within m (Cons (Node form s parts) rest) =
      let first : List Binder = elim (part_of form) [ Outer ↦ whole-names parts | Helper ↦ whole-names parts | Whole ↦ declared_in as_binding.Constant (Node form s parts) ] in
      let a = times-append m first (whole-names rest) in
      let b = placed-append m (placed form) (all_placed rest) in
      let c = placed-append m (names_in (is_group form) parts) (all_grouped rest) in
      let d = among-next m (Node form s parts) rest in
      let e = wholes-within m rest in
      let g = by_part (part_of form) refl (is_group form) refl (wholes-within m parts) (node-names m form s parts) in
      omega (arith, a, b, c, d, e, g)
    where
      by_part : (p : Part) → part_of form ≡ p → (group : Bool) → is_group form ≡ group → (times m (whole-names parts) + placed-times m (all_placed parts)) + placed-times m (all_grouped parts) ≤ among m parts → in-tree m (Node form s parts) ≡ placed-times m (placed form) + (times m (defined form parts) + among m parts) → (times m (elim p [ Outer ↦ whole-names parts | Helper ↦ whole-names parts | Whole ↦ declared_in as_binding.Constant (Node form s parts) ]) + placed-times m (placed form)) + placed-times m (names_in group parts) ≤ in-tree m (Node form s parts)
      by_part Whole e true g l all = let both = whole-plain form e in absurd (cc (both.1, g))
      by_part Whole e false g l all = let both = whole-plain form e in let none : placed-times m (placed form) ≡ 0 = ap (placed-times m) both.0 in omega (arith, none)
      by_part Outer e true g l all = omega (arith, l, all)
      by_part Outer e false g l all = omega (arith, l, all)
      by_part Helper e true g l all = omega (arith, l, all)
      by_part Helper e false g l all = omega (arith, l, all)

  -- the names of a form's scope are others than those in its expressions
  pub scope-within : (m : Meaning) (form : Form.the_data) (s : Span) (parts : Trees) → times m (defined form parts ++ binders form parts) + times m (whole-names parts) ≤ in-tree m (Node form s parts)
  scope-within m form s parts =
      let a = times-append m (defined form parts) (binders form parts) in
      let b = node-names m form s parts in
      let c = wholes-within m parts in
      let d = by_group (is_group form) in
      omega (arith, a, b, c, d)
    where
      by_group : (group : Bool) → times m (cond group [] (bound_as (binding_of form) (all_placed parts ++ all_grouped parts))) ≤ placed-times m (all_placed parts) + placed-times m (all_grouped parts)
      by_group true = omega arith
      by_group false =
          let a = times-bound m (binding_of form) as_binding.Constant (all_placed parts ++ all_grouped parts) in
          let b = placed-append m (all_placed parts) (all_grouped parts) in
          omega (arith, a, b)
