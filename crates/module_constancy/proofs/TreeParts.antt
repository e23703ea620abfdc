-- Trees of nodes, by their forms and their parts.
use Rattle.std.proofs.Common.{◌≡◌, ℕ, zero, suc, ◌+◌, ◌<◌, Bool, true, false, List, [], ◌∷◌, drop, get_or, length, refl, sym, ap, subst, ◌∙◌, arith}
use Rattle.std.specs.Prelude.{◌&&◌, map}
use Rattle.std.specs.List.{AllByRecursion}
use Rattle.list_laws.proofs.Lists.{all-left, all-right, rest-at}
use Rattle.tla_tree.specs.Arena.{Node as ArenaNode, node_at, tree_at}
use Rattle.tla_tree.specs.Syntax.{trees}
use Rattle.tla_tree.proofs.Nodes.{tree_at-form, tree_at-node}
use Rattle.tla_model.specs.Lexemes.{LiesIn, all_lexemes, form_lexemes, lexemes}
use Rattle.tree_kinds.specs.Standing.{Outside}
use Rattle.module_kinds.specs.Constancy.{are_constant_trees, is_constant_form, is_constant_tree}

and-false : (b : Bool) → (b && false) ≡ false
and-false true = refl
and-false false = refl

module _ (source : List ℕ) (nodes : List ArenaNode) where
  -- ---- lexemes

  -- the lexeme that a node holds
  pub held-lies : (node : ℕ) → node < length nodes → AllByRecursion (LiesIn source) (lexemes (tree_at nodes node)) → AllByRecursion (LiesIn source) (form_lexemes (node_at nodes node).form)
  held-lies node there lie =
      let found = tree_at-form nodes node there in
      all-left (LiesIn source) (form_lexemes (node_at nodes node).form) (all_lexemes found.0) (subst (λ x. AllByRecursion (LiesIn source) (lexemes x)) found.1 lie)

  lies-at : (numbers : List ℕ) (i : ℕ) → i < length numbers → AllByRecursion (LiesIn source) (all_lexemes (trees (map (tree_at nodes) numbers))) → AllByRecursion (LiesIn source) (lexemes (tree_at nodes (get_or numbers i 0)))
  lies-at [] i there lie = absurd (omega arith)
  lies-at (n ∷ numbers) zero there lie = all-left (LiesIn source) (lexemes (tree_at nodes n)) (all_lexemes (trees (map (tree_at nodes) numbers))) lie
  lies-at (n ∷ numbers) (suc i) there lie = lies-at numbers i (omega (arith, there)) (all-right (LiesIn source) (lexemes (tree_at nodes n)) (all_lexemes (trees (map (tree_at nodes) numbers))) lie)

  -- those of a part
  pub part-lies : (node : ℕ) (children : List ℕ) (i : ℕ) → node < length nodes → children ≡ (node_at nodes node).children → AllByRecursion (λ child. child < node) children → i < length children
      → AllByRecursion (LiesIn source) (lexemes (tree_at nodes node)) → AllByRecursion (LiesIn source) (lexemes (tree_at nodes (get_or children i 0)))
  part-lies node children i there are before within lie =
      let whole = tree_at-node nodes node there (subst (AllByRecursion (λ child. child < node)) are before) in
      let form = (node_at nodes node).form in
      let below = all-right (LiesIn source) (form_lexemes form) (all_lexemes (trees (map (tree_at nodes) (node_at nodes node).children))) (subst (λ x. AllByRecursion (LiesIn source) (lexemes x)) whole lie) in
      lies-at children i within (subst (λ ns. AllByRecursion (LiesIn source) (all_lexemes (trees (map (tree_at nodes) ns)))) (sym are) below)

  -- a part stands before its node
  pub part-before : (node : ℕ) (children : List ℕ) (i : ℕ) → AllByRecursion (λ child. child < node) children → i < length children → get_or children i 0 < node
  part-before node [] i before within = absurd (omega arith)
  part-before node (n ∷ children) zero before within = before.0
  part-before node (n ∷ children) (suc i) before within = part-before node children i before.1 (omega (arith, within))

  -- ---- which go not beyond constants
  module _ (named : List ℕ → Outside) where
    abbrev pub are_constant : List ℕ → Bool
    are_constant numbers = are_constant_trees source named (trees (map (tree_at nodes) numbers))

    pub tree-parts : (node : ℕ) (children : List ℕ) → node < length nodes → children ≡ (node_at nodes node).children → AllByRecursion (λ child. child < node) children
        → is_constant_tree source named (tree_at nodes node) ≡ (is_constant_form source named (node_at nodes node).form && are_constant children)
    tree-parts node children there are before =
        ap (is_constant_tree source named) (tree_at-node nodes node there (subst (AllByRecursion (λ child. child < node)) are before))
        ∙ ap (λ ns. is_constant_form source named (node_at nodes node).form && are_constant ns) (sym are)

    -- behind a part that does not
    pub parts-on : (children : List ℕ) (i : ℕ) (all part : Bool) → i < length children → part ≡ is_constant_tree source named (tree_at nodes (get_or children i 0)) → part ≡ true → are_constant (drop i children) ≡ all → are_constant (drop (i + 1) children) ≡ all
    parts-on children i all part within is constant holds =
        ap (λ b. b && are_constant (drop (i + 1) children)) (sym constant ∙ is) ∙ sym (ap are_constant (rest-at children i 0 within)) ∙ holds

    -- at a part that does
    pub parts-beyond : (children : List ℕ) (i : ℕ) (all part : Bool) → i < length children → part ≡ is_constant_tree source named (tree_at nodes (get_or children i 0)) → part ≡ false → are_constant (drop i children) ≡ all → false ≡ all
    parts-beyond children i all part within is beyond holds =
        ap (λ b. b && are_constant (drop (i + 1) children)) (sym beyond ∙ is) ∙ sym (ap are_constant (rest-at children i 0 within)) ∙ holds
