-- The nodes of forms, by how these are made.
use Rattle.std.proofs.Common.{◌≡◌, ℕ, ◌<◌, List, [], ◌∷◌, ◌++◌, Bool, true, false, true≢false, Some, None, refl, sym, ap, ◌∙◌, length, drop, get_or, append_assoc, arith}
use Rattle.std.specs.Prelude.{Option, unwrap_or}
use Rattle.std.specs.List.{AllByRecursion}
use Rattle.std.proofs.lemmas.List.{append-nil}
use Rattle.list_laws.proofs.Lists.{all-both, all-right}
use Rattle.tla_symbols.specs.declared.lexeme.Lexeme.{Lexeme}
use Rattle.tla_tree.specs.declared.form.Form.TheVariants as Form
use Rattle.tla_tree.specs.Arena.{Node as ArenaNode, AreThere, node_at, tree_at}
use Rattle.tla_tree.proofs.Nodes.{tree_at-form}
use Rattle.tla_tree.specs.Syntax.{Tree, Trees, Node, Nil, Cons}
use Rattle.tla_model.specs.Entities.{Meaning}
use Rattle.tla_model.specs.Lexemes.{LiesIn, all_lexemes, lexemes}
use Rattle.tree_kinds.specs.TreeDepths.{path_names}
use Rattle.flattened_trees.specs.Leads.{Setting}
use Rattle.flattened_trees.specs.NodeForms.{constant_node, form_node, rule_order, last_first, lead_of, name_node, path_node, path_places}
use Rattle.tree_flattener.specs.declared.shapes.Making.TheVariants as making
use Rattle.tree_flattener.specs.Making.{head_of, made_node, making_of, segment_of}
use Rattle.tree_flattener.specs.Worlds.{AreNodes}
use Rattle.tree_flattener.proofs.Walking.{at_nodes}

module _ (source : List ℕ) (means : ℕ → Option Meaning) (setting : Setting) where
  form-made : (form : Form.the_data) (parts : Trees) (is : List ℕ) → form_node source means setting form parts is ≡ made_node source means setting (making_of form) form parts is
  form-made Form.Identifier parts is = refl
  form-made (Form.Number l) parts is = refl
  form-made (Form.Text l) parts is = refl
  form-made (Form.At l) parts is = refl
  form-made (Form.Symbol l) parts is = refl
  form-made (Form.Prefix l) parts is = refl
  form-made (Form.Infix l) parts is = refl
  form-made (Form.Postfix l) parts is = refl
  form-made Form.Parentheses parts is = refl
  form-made (Form.BoundedQuantifier l) parts is = refl
  form-made _ parts is = refl

  -- the node of a form that is made so
  pub form-made-as : (made : making.the_data) (form read : Form.the_data) → made ≡ making_of read → read ≡ form → (parts : Trees) (is : List ℕ) → made_node source means setting made form parts is ≡ form_node source means setting form parts is
  form-made-as made form read by same parts is = ap (λ z. made_node source means setting z form parts is) (by ∙ ap making_of same) ∙ sym (form-made form parts is)

  -- ---- paths

  is_named : Option Lexeme → Bool
  is_named None = false
  is_named (Some l) = true

  headed : (name : Lexeme) (x : Tree) (rest : Trees) (is : List ℕ) → Some name ≡ head_of (Cons x rest)
      → path_node source means setting (Cons x rest) is ≡ name_node (path_places source means (Cons x rest)) (lead_of setting.leads (means name.span.start) (path_names source rest)) is
  unfolding is_named
  headed name (Node (Form.Segment l) s arguments) rest is e =
      ap (λ (z : Lexeme). name_node (path_places source means (Cons (Node (Form.Segment l) s arguments) rest)) (lead_of setting.leads (means z.span.start) (path_names source rest)) is) (sym (ap (λ found. unwrap_or found l) e))
  headed name (Node _ s arguments) rest is e = absurd (true≢false (ap is_named e))

  not-headed : (segments : Trees) (is : List ℕ) → None ≡ head_of segments → path_node source means setting segments is ≡ constant_node
  unfolding is_named
  not-headed Nil is e = refl
  not-headed (Cons (Node (Form.Segment l) s arguments) rest) is e = absurd (true≢false (sym (ap is_named e)))
  not-headed (Cons (Node _ s arguments) rest) is e = refl

  pub path-none : (segments : Trees) (is : List ℕ) → None ≡ head_of segments → constant_node ≡ path_node source means setting segments is
  path-none segments is e = sym (not-headed segments is e)

  pub path-named : (nodes : List ArenaNode) (numbers : List ℕ) (name : Lexeme) (is : List ℕ) → Some name ≡ head_of (at_nodes nodes numbers)
      → name_node (path_places source means (at_nodes nodes numbers)) (lead_of setting.leads (means name.span.start) (path_names source (at_nodes nodes (drop 1 numbers)))) is ≡ path_node source means setting (at_nodes nodes numbers) is
  path-named nodes [] name is e = cc
  path-named nodes (n ∷ numbers) name is e = sym (headed name (tree_at nodes n) (at_nodes nodes numbers) is e)

-- the first segment is that of the first node
pub head-is : (nodes : List ArenaNode) (numbers : List ℕ) (d : ℕ) → 0 < length numbers → AreThere nodes numbers → segment_of (node_at nodes (get_or numbers 0 d)).form ≡ head_of (at_nodes nodes numbers)
head-is nodes [] d there known = absurd (omega arith)
head-is nodes (n ∷ numbers) d there known = let found = tree_at-form nodes n known.0 in sym (ap (λ z. head_of (Cons z (at_nodes nodes numbers))) found.1)

-- without the first of nodes, the others are nodes
pub nodes-rest : (source : List ℕ) (nodes : List ArenaNode) (numbers : List ℕ) → AreNodes source nodes numbers → AreNodes source nodes (drop 1 numbers)
nodes-rest source nodes [] known = known
nodes-rest source nodes (n ∷ numbers) known =
    record { there = known.there.1; lie = all-right (LiesIn source) (lexemes (tree_at nodes n)) (all_lexemes (at_nodes nodes numbers)) known.lie }

-- ---- orders of operands

pub last-first-is : (before xs : List ℕ) (x : ℕ) → last_first before (xs ++ x ∷ []) ≡ x ∷ (before ++ xs)
last-first-is before [] x = ap (λ z. x ∷ z) (sym (append-nil before))
last-first-is before (y ∷ []) x = refl
last-first-is before (y ∷ (z ∷ zs)) x = last-first-is (before ++ y ∷ []) (z ∷ zs) x ∙ ap (λ w. x ∷ w) (append_assoc before (y ∷ []) (z ∷ zs))

pub last-first-all : (P : ℕ → Type 0) (before is : List ℕ) → AllByRecursion P before → AllByRecursion P is → AllByRecursion P (last_first before is)
last-first-all P before [] all more = all
last-first-all P before (i ∷ []) all more = (more.0, all)
last-first-all P before (i ∷ (j ∷ is)) all more = last-first-all P (before ++ i ∷ []) (j ∷ is) (all-both P before (i ∷ []) all (more.0, tt)) more.1

pub in-order-all : (P : ℕ → Type 0) (form : Form.the_data) (is : List ℕ) → AllByRecursion P is → AllByRecursion P (rule_order form is)
in-order-all P (Form.Fairness l) [] all = all
in-order-all P (Form.Fairness l) (i ∷ []) all = all
in-order-all P (Form.Fairness l) (i ∷ (j ∷ [])) all = (all.1.0, (all.0, tt))
in-order-all P (Form.Fairness l) (i ∷ (j ∷ (k ∷ is))) all = all
in-order-all P _ is all = all
