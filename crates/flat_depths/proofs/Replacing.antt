-- Replacements that are each as deep as what replaces their symbol are so together.
use Rattle.std.proofs.Common.{◌≡◌, ℕ, ◌≤◌, max, Bool, true, false, cond, List, [], ◌∷◌, ◌++◌, map, refl, sym, ap, ◌∙◌, subst, arith}
use Rattle.std.specs.Prelude.{◌||◌}
use Rattle.std.proofs.Math.Nat.{zero-max}
use Rattle.std.proofs.lemmas.Bool.{or_parts}
use Rattle.tla_symbols.specs.declared.lexeme.Lexeme.{Lexeme}
use Rattle.tla_symbols.specs.declared.lexeme.Span.{Span}
use Rattle.tla_tree.specs.declared.form.Form.TheVariants as Form
use Rattle.tla_tree.specs.Forms.{helps}
use Rattle.tla_tree.specs.Syntax.{Trees, Node, Nil, Cons}
use Rattle.tla_model.specs.Tables.{Named, is_among, same_named}
use Rattle.tla_model.specs.Entities.{Meaning, Text, binding_of, bound_as, name_of}
use Rattle.tla_model.specs.Contexts.{bind_all}
use Rattle.tla_model.specs.Scopes.{all_grouped, names_in}
use Rattle.module_model.specs.Exports.{Exports, Known}
use Rattle.module_model.specs.Instances.{left_sides}
use Rattle.kind_text.specs.FlatModule.{FlatModule, Replacement}
use Rattle.level_text.specs.Depth.{depth as depth_at, greatest}
use Rattle.tree_kinds.specs.Standing.{Outside}
use Rattle.tree_kinds.specs.TreeDepths.{Beneath, depth, implied_depth, in_scope, name_depth, parts_depth}
use Rattle.flat_trees.proofs.Meanings.{named-equal, named-itself}
use Rattle.flat_depths.specs.Parts.{AreEachAsDeep, AreRightSides, right_depth}
use Rattle.flat_depths.proofs.Joining.{no-group, no-name}

-- what is said of one side and of the rest
above-next : (b a : Bool) (whole right rest later name : ℕ) → whole ≡ right → later ≤ max rest (cond a 0 name) → cond b right later ≤ max (max whole rest) (cond (b || a) 0 name)
above-next true a whole right rest later name e l = omega (arith, e)
above-next false a whole right rest later name e l = omega (arith, l)

implied-next : (b a : Bool) (right later name : ℕ) → cond a 0 name ≤ later → cond (b || a) 0 name ≤ cond b right later
implied-next true a right later name l = omega arith
implied-next false a right later name l = l

most-next : (a b c d e : ℕ) → a ≤ max b c → d ≤ max b e → max a d ≤ max b (max c e)
most-next a b c d e l m = omega (arith, l, m)

least-next : (a b c d : ℕ) → a ≤ c → b ≤ d → max a b ≤ max c d
least-next a b c d l m = omega (arith, l, m)

both-below : (a b most : ℕ) → a ≤ most → b ≤ most → max a b ≤ most
both-below a b most l m = omega (arith, l, m)

squeezed : (most a b : ℕ) → most ≤ max a b → a ≤ most → b ≤ most → most ≡ max a b
squeezed most a b l m n = omega (arith, l, m, n)

module _ (flat : FlatModule) (text : Text) (known : Known) (named : List ℕ → Outside) (around : Beneath) where
  -- a right side binds nothing
  right-alone : (l : Lexeme) (s at : Span) (form : Form.the_data) (parts : Trees) → helps form ≡ false → depth text known named around (Node (Form.Replacement l) s (Cons (Node form at parts) Nil)) ≡ parts_depth text known named around around (Cons (Node form at parts) Nil)
  right-alone l s at form parts plain =
      zero-max (parts_depth text known named around (in_scope text known named around (Form.Replacement l) (Cons (Node form at parts) Nil)) (Cons (Node form at parts) Nil))
      ∙ ap (λ (names : List (Lexeme × ℕ)). parts_depth text known named around (record around { context = bind_all text around.context (bound_as (binding_of (Form.Replacement l)) names) }) (Cons (Node form at parts) Nil))
      (ap (λ (ns : List (Lexeme × ℕ)). (ns ++ []) ++ all_grouped (Cons (Node form at parts) Nil)) (no-name form plain) ∙ ap (λ b. names_in b parts ++ []) (no-group form plain))

  -- the greatest depth of what replaces these symbols
  abbrev most : Trees → Exports → ℕ
  most rights [] = 0
  most rights (parameter ∷ rest) = max (right_depth text known named around rights parameter.0) (most rights rest)

  each-most : (rights : Trees) (parameters : Exports) (made : List Replacement) → AreEachAsDeep flat text known named around rights parameters made → greatest (depth_at flat) (map (λ r. r.root) made) ≡ most rights parameters
  each-most rights [] [] each = refl
  each-most rights [] (r ∷ made) each = absurd each
  each-most rights (parameter ∷ rest) [] each = absurd each
  each-most rights (parameter ∷ rest) (r ∷ made) each =
      ap (λ n. max n (greatest (depth_at flat) (map (λ (r : Replacement). r.root) made))) each.0
      ∙ ap (max (right_depth text known named around rights parameter.0)) (each-most rights rest made each.1)

  above : (symbols before : List Named) (rights : Trees) → AreRightSides text symbols before rights → (name : Named) → right_depth text known named around rights name ≤ max (parts_depth text known named around around rights) (cond (is_among (left_sides text.source rights) name) 0 (name_depth around name))
  above symbols before Nil sides name = omega arith
  above symbols before (Cons (Node (Form.Replacement l) s (Cons (Node form at parts) Nil)) rest) (there, new, plain, more) name =
      above-next (same_named name (name_of text.source l)) (is_among (left_sides text.source rest) name)
      (depth text known named around (Node (Form.Replacement l) s (Cons (Node form at parts) Nil))) (parts_depth text known named around around (Cons (Node form at parts) Nil))
      (parts_depth text known named around around rest) (right_depth text known named around rest name) (name_depth around name)
      (right-alone l s at form parts plain) (above symbols (name_of text.source l ∷ before) rest more name)
  above symbols before (Cons x rest) sides name = absurd sides

  implied-below : (rights : Trees) (name : Named) → cond (is_among (left_sides text.source rights) name) 0 (name_depth around name) ≤ right_depth text known named around rights name
  implied-below Nil name = omega arith
  implied-below (Cons (Node (Form.Replacement l) s right) rest) name =
      implied-next (same_named name (name_of text.source l)) (is_among (left_sides text.source rest) name) (parts_depth text known named around around right) (right_depth text known named around rest name) (name_depth around name)
      (implied-below rest name)
  implied-below (Cons (Node form s parts) rest) name = implied-below rest name

  most-above : (rights : Trees) (symbols : List Named) → AreRightSides text symbols [] rights → (parameters : Exports) → most rights parameters ≤ max (parts_depth text known named around around rights) (implied_depth around (left_sides text.source rights) parameters)
  most-above rights symbols sides [] = omega arith
  most-above rights symbols sides (parameter ∷ rest) =
      most-next (right_depth text known named around rights parameter.0) (parts_depth text known named around around rights) (cond (is_among (left_sides text.source rights) parameter.0) 0 (name_depth around parameter.0)) (most rights rest) (implied_depth around (left_sides text.source rights) rest)
      (above symbols [] rights sides parameter.0) (most-above rights symbols sides rest)

  implied-most : (rights : Trees) (parameters : Exports) → implied_depth around (left_sides text.source rights) parameters ≤ most rights parameters
  implied-most rights [] = omega arith
  implied-most rights (parameter ∷ rest) = least-next _ _ _ _ (implied-below rights parameter.0) (implied-most rights rest)

  among-most : (rights : Trees) (parameters : Exports) (name : Named) → is_among (map (λ p. p.0) parameters) name ≡ true → right_depth text known named around rights name ≤ most rights parameters
  among-most rights [] name there = cc
  among-most rights (parameter ∷ rest) name there = by_sameness (same_named name parameter.0) refl there (λ later. among-most rights rest name later)
    where
      by_sameness : (b : Bool) → same_named name parameter.0 ≡ b → (b || is_among (map (λ (p : Named × Meaning). p.0) rest) name) ≡ true → (is_among (map (λ (p : Named × Meaning). p.0) rest) name ≡ true → right_depth text known named around rights name ≤ most rights rest) → right_depth text known named around rights name ≤ most rights (parameter ∷ rest)
      by_sameness true e there next =
          let same = ap (right_depth text known named around rights) (named-equal name parameter.0 e) in
          first-most (right_depth text known named around rights name) (right_depth text known named around rights parameter.0) (most rights rest) same
        where
          first-most : (a b c : ℕ) → a ≡ b → a ≤ max b c
          first-most a b c e = omega (arith, e)
      by_sameness false e there next = later-most (right_depth text known named around rights name) (right_depth text known named around rights parameter.0) (most rights rest) (next there)
        where
          later-most : (a b c : ℕ) → a ≤ c → a ≤ max b c
          later-most a b c l = omega (arith, l)

  -- each right side counts: the first one for a name is that of a symbol
  rights-most : (whole : Trees) (parameters : Exports) (before : List Named) (rights : Trees) → AreRightSides text (map (λ p. p.0) parameters) before rights → ((name : Named) → is_among before name ≡ false → right_depth text known named around whole name ≡ right_depth text known named around rights name) → parts_depth text known named around around rights ≤ most whole parameters
  rights-most whole parameters before Nil sides first = omega arith
  rights-most whole parameters before (Cons (Node (Form.Replacement l) s (Cons (Node form at parts) Nil)) rest) (there, new, plain, more) first =
      both-below (depth text known named around (Node (Form.Replacement l) s (Cons (Node form at parts) Nil))) (parts_depth text known named around around rest) (most whole parameters)
      (subst (λ n. n ≤ most whole parameters)
      (first (name_of text.source l) new
      ∙ ap (λ b. cond b (parts_depth text known named around around (Cons (Node form at parts) Nil)) (right_depth text known named around rest (name_of text.source l))) (named-itself (name_of text.source l))
      ∙ sym (right-alone l s at form parts plain))
      (among-most whole parameters (name_of text.source l) there))
      (rights-most whole parameters (name_of text.source l ∷ before) rest more (λ name others.
      let both = or_parts (same_named name (name_of text.source l)) (is_among before name) others in
      first name both.1
      ∙ ap (λ b. cond b (parts_depth text known named around around (Cons (Node form at parts) Nil)) (right_depth text known named around rest name)) both.0))
  rights-most whole parameters before (Cons x rest) sides first = absurd sides

  pub each-together : (rights : Trees) (parameters : Exports) (made : List Replacement) → AreRightSides text (map (λ p. p.0) parameters) [] rights → AreEachAsDeep flat text known named around rights parameters made → greatest (depth_at flat) (map (λ r. r.root) made) ≡ max (parts_depth text known named around around rights) (implied_depth around (left_sides text.source rights) parameters)
  each-together rights parameters made sides each =
      each-most rights parameters made each
      ∙ squeezed (most rights parameters) (parts_depth text known named around around rights) (implied_depth around (left_sides text.source rights) parameters)
      (most-above rights (map (λ (p : Named × Meaning). p.0) parameters) sides parameters)
      (rights-most rights parameters [] rights sides (λ name none. refl))
      (implied-most rights parameters)
