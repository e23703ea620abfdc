-- Names that lie in a text, since the lexemes of trees do.
use Rattle.std.proofs.Common.{◌≡◌, ℕ, ◌<◌, List, Bool, true, false, length, subst}
use Rattle.std.specs.Prelude.{Option, Some, None}
use Rattle.std.specs.List.{AllByRecursion}
use Rattle.tla_symbols.specs.declared.lexeme.Lexeme.{Lexeme}
use Rattle.tla_tree.specs.Arena.{Node as ArenaNode, node_at, tree_at}
use Rattle.tla_tree.specs.Syntax.{Node}
use Rattle.tla_tree.proofs.Nodes.{tree_at-form}
use Rattle.tla_model.specs.Lexemes.{LiesIn, all_lexemes, form_lexemes, lexemes}
use Rattle.list_laws.proofs.Lists.{all-left, all-right}
use Rattle.declared_names.specs.Nodes.{form_at, parts_at}

-- ---- a lexeme that may be there

unfoldable pub is_named : Option Lexeme → Bool
is_named None = false
is_named (Some l) = true

-- ---- names in a text

module _ (source : List ℕ) where
  abbrev L : Lexeme → Type 0
  L = LiesIn source

  module _ (nodes : List ArenaNode) (node : ℕ) where
    -- the lexeme that a node holds
    pub held-lies : node < length nodes → AllByRecursion L (lexemes (tree_at nodes node)) → AllByRecursion L (form_lexemes (form_at nodes node))
    held-lies there lie =
        let found = tree_at-form nodes node there in
        all-left L (form_lexemes (form_at nodes node)) (all_lexemes found.0) (subst (λ t. AllByRecursion L (lexemes t)) found.1 lie)

    -- those of its parts
    pub parts-lie : tree_at nodes node ≡ Node (form_at nodes node) (node_at nodes node).span (parts_at nodes node) → AllByRecursion L (lexemes (tree_at nodes node)) → AllByRecursion L (all_lexemes (parts_at nodes node))
    parts-lie whole lie = all-right L (form_lexemes (form_at nodes node)) (all_lexemes (parts_at nodes node)) (subst (λ t. AllByRecursion L (lexemes t)) whole lie)
