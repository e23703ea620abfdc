-- The INSTANCE of a module definition among its parts, and names that lie in the text.
use Rattle.std.proofs.Common.{◌≡◌, ℕ, ◌<◌, List, [], ◌∷◌, ◌++◌, Bool, true, false, true≢false, Some, None, sym, ap, subst, length}
use Rattle.std.specs.Prelude.{Option, map, unwrap_or}
use Rattle.std.specs.List.{AllByRecursion}
use Rattle.list_laws.proofs.Lists.{all-left, all-right}
use Rattle.tla_symbols.specs.declared.lexeme.Lexeme.{Lexeme}
use Rattle.tla_tree.specs.declared.form.Form.TheVariants as Form
use Rattle.tla_tree.specs.Arena.{Node as ArenaNode, node_at, tree_at}
use Rattle.tla_tree.specs.Syntax.{trees}
use Rattle.tla_model.specs.Lexemes.{LiesIn, all_lexemes, form_lexemes, lexemes}
use Rattle.tree_flattener.specs.Making.{left_of, module_of}
use Rattle.tree_flattener.specs.Worlds.{AreNodes, IsNode, World}
use Rattle.tree_flattener.proofs.Lying.{held-lies, kids-lie}

is_named : Option Lexeme → Bool
is_named None = false
is_named (Some l) = true

left-held : (source : List ℕ) (form : Form.the_data) (l : Lexeme) → left_of form ≡ Some l → AllByRecursion (LiesIn source) (form_lexemes form) → LiesIn source l
unfolding is_named
left-held source (Form.Replacement n) l e lie = subst (LiesIn source) (ap (λ found. unwrap_or found n) e) lie.0
left-held source _ l e lie = absurd (true≢false (sym (ap is_named e)))

module-held : (source : List ℕ) (form : Form.the_data) (l : Lexeme) → module_of form ≡ Some l → AllByRecursion (LiesIn source) (form_lexemes form) → LiesIn source l
unfolding is_named
module-held source (Form.Instance n) l e lie = subst (LiesIn source) (ap (λ found. unwrap_or found n) e) lie.0
module-held source _ l e lie = absurd (true≢false (sym (ap is_named e)))

-- the left side of a replacement lies in the text
pub left-lies : (w : World) (node : ℕ) (l : Lexeme) → IsNode w node → left_of (node_at w.nodes node).form ≡ Some l → LiesIn w.text.source l
left-lies w node l known e = left-held w.text.source (node_at w.nodes node).form l e (held-lies w.text.source w.nodes node known.there known.lie)

-- and so does the name of the module of an INSTANCE
pub module-lies : (w : World) (node : ℕ) (l : Lexeme) → IsNode w node → module_of (node_at w.nodes node).form ≡ Some l → LiesIn w.text.source l
module-lies w node l known e = module-held w.text.source (node_at w.nodes node).form l e (held-lies w.text.source w.nodes node known.there known.lie)

lie-mid : (source : List ℕ) (nodes : List ArenaNode) (before after : List ℕ) (n : ℕ) → AllByRecursion (LiesIn source) (all_lexemes (trees (map (tree_at nodes) (before ++ n ∷ after)))) → AllByRecursion (LiesIn source) (lexemes (tree_at nodes n))
lie-mid source nodes [] after n lie = all-left (LiesIn source) (lexemes (tree_at nodes n)) (all_lexemes (trees (map (tree_at nodes) after))) lie
lie-mid source nodes (b ∷ before) after n lie = lie-mid source nodes before after n (all-right (LiesIn source) (lexemes (tree_at nodes b)) (all_lexemes (trees (map (tree_at nodes) (before ++ n ∷ after)))) lie)

-- one of the children of a node is a node before it
pub placed-node : (w : World) (node n : ℕ) (kids before after : List ℕ) → IsNode w node → kids ≡ (node_at w.nodes node).children → AllByRecursion (λ child. child < node) kids → kids ≡ before ++ n ∷ after → IsNode w n × (n < node)
placed-node w node n kids before after known are earlier split =
    let lie = subst (AreNodes w.text.source w.nodes) split (kids-lie w node kids known are earlier) in (
      record { there = (all-right (λ x. x < length w.nodes) before (n ∷ after) lie.there).0; lie = lie-mid w.text.source w.nodes before after n lie.lie },
      (all-right (λ x. x < node) before (n ∷ after) (subst (AllByRecursion (λ child. child < node)) split earlier)).0,
    )
