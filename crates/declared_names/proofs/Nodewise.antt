-- Lists made of the trees of nodes, one node after another.
use Rattle.std.proofs.Common.{◌≡◌, ℕ, suc, zero, ◌+◌, ◌<◌, List, [], ◌∷◌, ◌++◌, true, false, length, drop, get_or, append_assoc, refl, ap, sym, ◌∙◌, drop-cons, add-one, arith}
use Rattle.std.specs.Prelude.{map}
use Rattle.std.specs.List.{AllByRecursion}
use Rattle.std.proofs.lemmas.List.{append-nil, map-append}
use Rattle.tla_symbols.specs.declared.lexeme.Lexeme.{Lexeme}
use Rattle.tla_tree.specs.declared.form.Form.{Form}
use Rattle.tla_tree.specs.Arena.{Node as ArenaNode, AreThere, node_at, tree_at}
use Rattle.tla_tree.specs.Syntax.{Tree, Trees, Node, Nil, Cons, trees, form}
use Rattle.tla_tree.proofs.Nodes.{tree_at-node, tree_at-form}
use Rattle.tla_model.specs.declared.names.Binder.{Binder}
use Rattle.tla_model.specs.Entities.{Binding, all_placed, bound_as, is_group, orders, placed}
use Rattle.tla_model.specs.Scopes.{all_grouped, names_in}
use Rattle.declared_names.specs.Nodes.{form_at, parts_at}

pub tree-at : (nodes : List ArenaNode) (node : ℕ) → node < length nodes → AllByRecursion (λ child. child < node) (node_at nodes node).children → tree_at nodes node ≡ Node (form_at nodes node) (node_at nodes node).span (parts_at nodes node)
tree-at nodes node there below = tree_at-node nodes node there below

pub form-at : (nodes : List ArenaNode) (node : ℕ) → node < length nodes → form (tree_at nodes node) ≡ form_at nodes node
form-at nodes node there = ap form (tree_at-form nodes node there).1

rest-at : (numbers : List ℕ) (i d : ℕ) → i < length numbers → drop i numbers ≡ get_or numbers i d ∷ drop (i + 1) numbers
rest-at numbers i d lt = rw (add-one, drop-cons numbers i d) refl

pub there-at : (nodes : List ArenaNode) (numbers : List ℕ) (i d : ℕ) → AreThere nodes numbers → i < length numbers → get_or numbers i d < length nodes
there-at nodes [] i d there lt = elim lt [ ]
there-at nodes (x ∷ numbers) zero d there lt = there.0
there-at nodes (x ∷ numbers) (suc i) d there lt = there-at nodes numbers i d there.1 (omega (arith, lt))

-- one more node
pub onward : {A : Type 0} (F : Trees → List A) (f : Tree → List A) → ((t : Tree) (ts : Trees) → F (Cons t ts) ≡ f t ++ F ts) → (nodes : List ArenaNode) (numbers : List ℕ) (i d : ℕ) → i < length numbers → (names names' all : List A) →
    names' ≡ names ++ f (tree_at nodes (get_or numbers i d)) → names ++ F (trees (map (tree_at nodes) (drop i numbers))) ≡ all → names' ++ F (trees (map (tree_at nodes) (drop (i + 1) numbers))) ≡ all
onward F f law nodes numbers i d lt names names' all more before =
    ap (λ z. z ++ F (trees (map (tree_at nodes) (drop (i + 1) numbers)))) more
    ∙ append_assoc names (f (tree_at nodes (get_or numbers i d))) (F (trees (map (tree_at nodes) (drop (i + 1) numbers))))
    ∙ ap (λ z. names ++ z) (sym (law (tree_at nodes (get_or numbers i d)) (trees (map (tree_at nodes) (drop (i + 1) numbers)))))
    ∙ ap (λ z. names ++ F (trees (map (tree_at nodes) z))) (sym (rest-at numbers i d lt))
    ∙ before

bound-append : (binding : Binding) (a b : List (Lexeme × ℕ)) → bound_as binding (a ++ b) ≡ bound_as binding a ++ bound_as binding b
bound-append binding a b = map-append _ a b

placed-law : (binding : Binding) (t : Tree) (ts : Trees) → bound_as binding (all_placed (Cons t ts)) ≡ bound_as binding (placed (form t)) ++ bound_as binding (all_placed ts)
placed-law binding (Node f s parts) ts = bound-append binding (placed f) (all_placed ts)

grouped-law : (binding : Binding) (t : Tree) (ts : Trees) → bound_as binding (all_grouped (Cons t ts)) ≡ bound_as binding (all_grouped (Cons t Nil)) ++ bound_as binding (all_grouped ts)
grouped-law binding (Node f s parts) ts =
    bound-append binding (names_in (is_group f) parts) (all_grouped ts)
    ∙ ap (λ z. bound_as binding z ++ bound_as binding (all_grouped ts)) (sym (append-nil (names_in (is_group f) parts)))

orders-law : (t : Tree) (ts : Trees) → orders (Cons t ts) ≡ map (λ name. name.1) (placed (form t)) ++ orders ts
orders-law (Node f s parts) ts = map-append _ (placed f) (all_placed ts)

module _ (nodes : List ArenaNode) (numbers : List ℕ) (i d : ℕ) (lt : i < length numbers) where
  pub placed-onward : (binding : Binding) (names names' all : List Binder) (found : Form) → AreThere nodes numbers → found ≡ form_at nodes (get_or numbers i d) →
      names' ≡ names ++ bound_as binding (placed found) → names ++ bound_as binding (all_placed (trees (map (tree_at nodes) (drop i numbers)))) ≡ all → names' ++ bound_as binding (all_placed (trees (map (tree_at nodes) (drop (i + 1) numbers)))) ≡ all
  placed-onward binding names names' all found there is more before =
      onward (λ ts. bound_as binding (all_placed ts)) (λ t. bound_as binding (placed (form t))) (placed-law binding) nodes numbers i d lt names names' all
      (more ∙ ap (λ z. names ++ bound_as binding (placed z)) (is ∙ sym (form-at nodes (get_or numbers i d) (there-at nodes numbers i d there lt)))) before

  pub grouped-onward : (binding : Binding) (names names' all : List Binder) →
      names' ≡ names ++ bound_as binding (all_grouped (Cons (tree_at nodes (get_or numbers i d)) Nil)) → names ++ bound_as binding (all_grouped (trees (map (tree_at nodes) (drop i numbers)))) ≡ all → names' ++ bound_as binding (all_grouped (trees (map (tree_at nodes) (drop (i + 1) numbers)))) ≡ all
  grouped-onward binding names names' all more before =
      onward (λ ts. bound_as binding (all_grouped ts)) (λ t. bound_as binding (all_grouped (Cons t Nil))) (grouped-law binding) nodes numbers i d lt names names' all more before

  pub orders-onward : (names names' all : List ℕ) (found : Form) → AreThere nodes numbers → found ≡ form_at nodes (get_or numbers i d) →
      names' ≡ names ++ map (λ name. name.1) (placed found) → names ++ orders (trees (map (tree_at nodes) (drop i numbers))) ≡ all → names' ++ orders (trees (map (tree_at nodes) (drop (i + 1) numbers))) ≡ all
  orders-onward names names' all found there is more before =
      onward orders (λ t. map (λ name. name.1) (placed (form t))) orders-law nodes numbers i d lt names names' all
      (more ∙ ap (λ z. names ++ map (λ name. name.1) (placed z)) (is ∙ sym (form-at nodes (get_or numbers i d) (there-at nodes numbers i d there lt)))) before

-- the names of a group, and of none
pub group-names : (binding : Binding) (nodes : List ArenaNode) (node : ℕ) → node < length nodes → AllByRecursion (λ child. child < node) (node_at nodes node).children → is_group (form_at nodes node) ≡ true →
    bound_as binding (all_placed (parts_at nodes node)) ≡ bound_as binding (all_grouped (Cons (tree_at nodes node) Nil))
group-names binding nodes node there below group = rw (tree-at nodes node there below, group) (ap (bound_as binding) (sym (append-nil (all_placed (parts_at nodes node)))))

pub no-names : (binding : Binding) (nodes : List ArenaNode) (node : ℕ) → node < length nodes → is_group (form_at nodes node) ≡ false → bound_as binding (all_grouped (Cons (tree_at nodes node) Nil)) ≡ []
no-names binding nodes node there alone = rw ((tree_at-form nodes node there).1, alone) refl
