-- Names that lie in a text, since the lexemes of trees do.
use Rattle.std.proofs.Common.{◌≡◌, ℕ, zero, suc, ◌<◌, List, [], ◌∷◌, length, get_or, subst, sym, arith}
use Rattle.std.specs.Prelude.{IfSome, map}
use Rattle.std.specs.List.{AllByRecursion}
use Rattle.list_laws.proofs.Lists.{all-left, all-right}
use Rattle.tla_tree.specs.declared.form.Form.TheVariants as Form
use Rattle.tla_tree.specs.Arena.{Node as ArenaNode, node_at, tree_at}
use Rattle.tla_tree.specs.Syntax.{trees}
use Rattle.tla_tree.proofs.Nodes.{before-there, tree_at-form, tree_at-node}
use Rattle.tla_model.specs.Lexemes.{LiesIn, all_lexemes, form_lexemes, lexemes}
use Rattle.tree_flattener.specs.Making.{segment_of}
use Rattle.tree_flattener.specs.Worlds.{AreNodes, IsNode, World}
use Rattle.tree_flattener.proofs.Walking.{all-at}

module _ (source : List ℕ) (nodes : List ArenaNode) where
  -- the lexemes of each of these lie in the text
  lies-at : (numbers : List ℕ) (i d : ℕ) → i < length numbers → AllByRecursion (LiesIn source) (all_lexemes (trees (map (tree_at nodes) numbers))) → AllByRecursion (LiesIn source) (lexemes (tree_at nodes (get_or numbers i d)))
  lies-at [] i d there lie = absurd (omega arith)
  lies-at (n ∷ numbers) zero d there lie = all-left (LiesIn source) (lexemes (tree_at nodes n)) (all_lexemes (trees (map (tree_at nodes) numbers))) lie
  lies-at (n ∷ numbers) (suc i) d there lie = lies-at numbers i d (omega (arith, there)) (all-right (LiesIn source) (lexemes (tree_at nodes n)) (all_lexemes (trees (map (tree_at nodes) numbers))) lie)

  -- and so does the lexeme that a node holds
  pub held-lies : (node : ℕ) → node < length nodes → AllByRecursion (LiesIn source) (lexemes (tree_at nodes node)) → AllByRecursion (LiesIn source) (form_lexemes (node_at nodes node).form)
  held-lies node there lie =
      let found = tree_at-form nodes node there in
      all-left (LiesIn source) (form_lexemes (node_at nodes node).form) (all_lexemes found.0) (subst (λ t. AllByRecursion (LiesIn source) (lexemes t)) found.1 lie)

  -- the children of a node are there, and the names of their trees lie in the text
  pub children-lie : (node : ℕ) → node < length nodes → AllByRecursion (LiesIn source) (lexemes (tree_at nodes node)) → AllByRecursion (λ child. child < node) (node_at nodes node).children → AreNodes source nodes (node_at nodes node).children
  children-lie node there lie before =
      record {
        there = before-there nodes node (node_at nodes node).children there before;
        lie = all-right (LiesIn source) (form_lexemes (node_at nodes node).form) (all_lexemes (trees (map (tree_at nodes) (node_at nodes node).children)))
            (subst (λ t. AllByRecursion (LiesIn source) (lexemes t)) (tree_at-node nodes node there before) lie);
      }

  segment-lies : (form : Form.the_data) → AllByRecursion (LiesIn source) (form_lexemes form) → IfSome (segment_of form) (LiesIn source)
  segment-lies (Form.Segment l) lie = lie.0
  segment-lies _ lie = tt

  -- the name of a segment lies in the text
  pub segment-at : (numbers : List ℕ) (i d : ℕ) → i < length numbers → AreNodes source nodes numbers → IfSome (segment_of (node_at nodes (get_or numbers i d)).form) (LiesIn source)
  segment-at numbers i d there known =
      let n = get_or numbers i d in
      segment-lies (node_at nodes n).form (held-lies n (all-at (λ n. n < length nodes) numbers i d known.there there) (lies-at numbers i d there known.lie))

-- one of the children of a node is a node
pub child-node : (w : World) (numbers : List ℕ) (i d : ℕ) → i < length numbers → AreNodes w.text.source w.nodes numbers → IsNode w (get_or numbers i d)
child-node w numbers i d there known =
    record {
      there = all-at (λ n. n < length w.nodes) numbers i d known.there there;
      lie = lies-at w.text.source w.nodes numbers i d there known.lie;
    }

-- the same of the children of a node, as code has them
pub kids-lie : (w : World) (node : ℕ) (kids : List ℕ) → IsNode w node → kids ≡ (node_at w.nodes node).children → AllByRecursion (λ child. child < node) kids → AreNodes w.text.source w.nodes kids
kids-lie w node kids known are before =
    subst (AreNodes w.text.source w.nodes) (sym are) (children-lie w.text.source w.nodes node known.there known.lie (subst (AllByRecursion (λ child. child < node)) are before))
