-- What the nodes of trees give, step by step.
use Rattle.std.proofs.Common.{◌≡◌, ℕ, ◌+◌, ◌<◌, List, [], ◌∷◌, ◌++◌, append_assoc, drop, get_or, length, reverse, refl, ap, sym, subst, ◌∙◌, arith, inl, inr}
use Rattle.std.specs.Prelude.{false, is_some, map, Option, None, Some}
use Rattle.std.specs.List.{AllByRecursion}
use Rattle.std.proofs.lemmas.List.{append-nil, map-append}
use Rattle.list_laws.proofs.Lists.{drop-from}
use Rattle.list_laws.proofs.Tests.{same-or-other}
use Rattle.tla_symbols.specs.declared.lexeme.Lexeme.{Lexeme}
use Rattle.tla_tree.specs.Arena.{Node as ArenaNode, AreThere, node_at, tree_at}
use Rattle.tla_tree.specs.Syntax.{Tree, Trees, Node, Nil, Cons, trees}
use Rattle.tla_tree.specs.declared.form.Form.TheVariants as Form
use Rattle.tla_tree.specs.declared.unit.Unit.TheVariants as unit
use Rattle.tla_tree.proofs.Nodes.{tree_at-node}
use Rattle.unit_grammar.specs.Units.{UnitTree, Variables, Constants, OperatorDefinition, FunctionDefinition, ModuleDefinition, Instance, Assumption, Theorem, Line, ModuleBegin, ModuleEnd}
use Rattle.unit_grammar.specs.UnitNodes.{nodes_in, unit_at}
use Rattle.tla_model.specs.Stretches.{one_of}
use Rattle.tla_model.specs.ModuleNames.{instance_names, instances, instances_from, instances_in, instantiated}
use Rattle.module_model.specs.Instances.{all_named_instances, all_path_starts, named_instance, named_instances, path_start, path_starts, paths_in, unit_trees}
use Rattle.instance_names.specs.Forms.{word_at, word_start}
use Rattle.instance_names.specs.Collected.{HoldsNone, IsTaken, all_collected, collected, due_trees, parts_of, root_in}
use Rattle.instance_names.proofs.TreeWalk.{unit-due, unit-there}

module _ {A : Type 0} (given : Form.the_data → Trees → List A) where
  collected-append : (a b : List Tree) → all_collected given (trees (a ++ b)) ≡ all_collected given (trees a) ++ all_collected given (trees b)
  collected-append [] b = refl
  collected-append (x ∷ a) b = ap (λ z. collected given x ++ z) (collected-append a b) ∙ sym (append_assoc (collected given x) (all_collected given (trees a)) (all_collected given (trees b)))

  -- what is due gives what a node that is taken gives, and what is due then
  collected-taken : (nodes : List ArenaNode) (node : ℕ) (old new : List ℕ) → IsTaken nodes node old new →
      all_collected given (trees (due_trees nodes old)) ≡ given (node_at nodes node).form (trees (parts_of nodes node)) ++ all_collected given (trees (due_trees nodes new))
  collected-taken nodes node old new step =
      let own = given (node_at nodes node).form (trees (parts_of nodes node)) in
      let rest = all_collected given (trees step.rest) in
      ap (λ z. all_collected given (trees z)) step.before ∙ ap (λ x. collected given x ++ rest) step.tree
      ∙ append_assoc own (all_collected given (trees (parts_of nodes node))) rest
      ∙ ap (λ z. own ++ z) (sym (collected-append (parts_of nodes node) step.rest) ∙ ap (λ z. all_collected given (trees z)) (sym step.after))

  pub next-taken : (nodes : List ArenaNode) (node : ℕ) (old new : List ℕ) (now next all : List A) → IsTaken nodes node old new → next ≡ now ++ given (node_at nodes node).form (trees (parts_of nodes node)) →
      now ++ all_collected given (trees (due_trees nodes old)) ≡ all → next ++ all_collected given (trees (due_trees nodes new)) ≡ all
  next-taken nodes node old new now next all step more so =
      let own = given (node_at nodes node).form (trees (parts_of nodes node)) in
      let rest = all_collected given (trees (due_trees nodes new)) in
      ap (λ z. z ++ rest) more ∙ append_assoc now own rest ∙ ap (λ z. now ++ z) (sym (collected-taken nodes node old new step)) ∙ so

  -- before a walk all of a unit is due
  pub first-due : (nodes : List ArenaNode) (u : unit.the_data) (todo : List ℕ) (now : List A) → todo ≡ root_in u →
      now ++ all_collected given (trees (due_trees nodes todo)) ≡ now ++ all_collected given (unit_trees (unit_at nodes u))
  first-due nodes u todo now is =
      ap (λ z. now ++ all_collected given (trees (due_trees nodes z))) is ∙ ap (λ z. now ++ all_collected given z) (sym (unit-due nodes u))

  -- behind it nothing is
  pub none-due : (nodes : List ArenaNode) (todo : List ℕ) (now all : List A) → todo ≡ [] → now ++ all_collected given (trees (due_trees nodes todo)) ≡ all → now ≡ all
  none-due nodes todo now all none so = sym (append-nil now) ∙ ap (λ z. now ++ all_collected given (trees (due_trees nodes z))) (sym none) ∙ so

  -- ---- nodes that give nothing

  -- of the nodes before one, none holds something
  abbrev pub NoneBefore : List ArenaNode → ℕ → Type 0
  NoneBefore nodes count = (node : ℕ) → node < count → node < length nodes → collected given (tree_at nodes node) ≡ []

  children-none : (nodes : List ArenaNode) (count : ℕ) → count < length nodes → NoneBefore nodes count → (children : List ℕ) → AllByRecursion (λ child. child < count) children → all_collected given (trees (map (tree_at nodes) children)) ≡ []
  children-none nodes count there none [] before = refl
  children-none nodes count there none (child ∷ children) before =
      (λ i. none child before.0 (omega (arith, there, before.0)) i ++ children-none nodes count there none children before.1 i)

  pub none-next : (nodes : List ArenaNode) (node : ℕ) → node < length nodes → AllByRecursion (λ child. child < node) (node_at nodes node).children → given (node_at nodes node).form (trees (parts_of nodes node)) ≡ [] → NoneBefore nodes node → NoneBefore nodes (node + 1)
  none-next nodes node there before own none other lt within = elim (same-or-other other node) as (λ _. collected given (tree_at nodes other) ≡ []) [
    | inl same ↦ ap (λ n. collected given (tree_at nodes n)) same ∙ ap (collected given) (tree_at-node nodes node there before) ∙ (λ i. own i ++ children-none nodes node there none (node_at nodes node).children before i)
    | inr apart ↦ none other (omega (arith, lt, apart)) within
  ]

  due-none : (nodes : List ArenaNode) (todo : List ℕ) → HoldsNone given nodes → AreThere nodes todo → all_collected given (trees (map (tree_at nodes) todo)) ≡ []
  due-none nodes [] none there = refl
  due-none nodes (node ∷ todo) none there = (λ i. none node there.0 i ++ due-none nodes todo none there.1 i)

  -- then a unit gives nothing
  pub unit-none : (nodes : List ArenaNode) (u : unit.the_data) → HoldsNone given nodes → AreThere nodes (nodes_in u) → all_collected given (unit_trees (unit_at nodes u)) ≡ []
  unit-none nodes u none there = ap (all_collected given) (unit-due nodes u) ∙ due-none nodes (reverse (root_in u)) none (unit-there nodes u there)

-- a test that finds nothing
pub nothing-given : {A : Type 0} {gives : List A} (found : Option A) → one_of found ≡ gives → is_some found ≡ false → gives ≡ []
nothing-given None is none = sym is
nothing-given (Some x) is none = cc

-- ---- paths

mutual
  path-collected : (x : Tree) → collected path_start x ≡ path_starts x
  path-collected (Node form s parts) = ap (λ z. path_start form parts ++ z) (paths-collected parts)

  pub paths-collected : (xs : Trees) → all_collected path_start xs ≡ all_path_starts xs
  paths-collected Nil = refl
  paths-collected (Cons x rest) = (λ i. path-collected x i ++ paths-collected rest i)

pub no-paths : (nodes : List ArenaNode) (units : List unit.the_data) → HoldsNone path_start nodes → AllByRecursion (λ u. AreThere nodes (nodes_in u)) units → [] ≡ paths_in (map (unit_at nodes) units)
no-paths nodes [] none there = refl
no-paths nodes (u ∷ units) none there =
    (λ i. sym (unit-none path_start nodes u none there.0) i ++ no-paths nodes units none there.1 i) ∙ ap (λ z. z ++ paths_in (map (unit_at nodes) units)) (paths-collected (unit_trees (unit_at nodes u)))

-- one more unit
pub paths-next : (nodes : List ArenaNode) (units items : List unit.the_data) → items ≡ units → (i : ℕ) (u : unit.the_data) (now next all : List ℕ) → i < length items → u ≡ get_or items i u →
    next ≡ now ++ all_collected path_start (unit_trees (unit_at nodes u)) → now ++ paths_in (map (unit_at nodes) (drop i units)) ≡ all → next ++ paths_in (map (unit_at nodes) (drop (i + 1) units)) ≡ all
paths-next nodes units items same i u now next all lt is more so =
    let rest = paths_in (map (unit_at nodes) (drop (i + 1) units)) in
    let own = all_path_starts (unit_trees (unit_at nodes u)) in
    ap (λ z. z ++ rest) (more ∙ ap (λ z. now ++ z) (paths-collected (unit_trees (unit_at nodes u)))) ∙ append_assoc now own rest
    ∙ ap (λ z. now ++ paths_in (map (unit_at nodes) z)) (sym (drop-from units i u (subst (λ z. i < length z) same lt) (subst (λ z. u ≡ get_or z i u) same is))) ∙ so

-- ---- words INSTANCE

abbrev pub start_of : Lexeme → ℕ
start_of l = l.span.start

own-word : (form : Form.the_data) → word_start form ≡ map start_of (instantiated form)
own-word (Form.Instance l) = refl
own-word _ = refl

mutual
  word-collected : (x : Tree) → collected word_at x ≡ map start_of (instances x)
  word-collected (Node form s parts) = (λ i. own-word form i ++ words-collected parts i) ∙ sym (map-append start_of (instantiated form) (instances_in parts))

  pub words-collected : (xs : Trees) → all_collected word_at xs ≡ map start_of (instances_in xs)
  words-collected Nil = refl
  words-collected (Cons x rest) = (λ i. word-collected x i ++ words-collected rest i) ∙ sym (map-append start_of (instances x) (instances_in rest))

unit-names : (u : UnitTree) → instances_in (unit_trees u) ≡ instance_names u
unit-names (Variables names) = refl
unit-names (Constants declarations) = refl
unit-names (OperatorDefinition local x) = append-nil (instances x)
unit-names (FunctionDefinition local x) = append-nil (instances x)
unit-names (ModuleDefinition local x) = append-nil (instances x)
unit-names (Instance local x) = append-nil (instances x)
unit-names (Assumption word name x) = append-nil (instances x)
unit-names (Theorem word name x) = append-nil (instances x)
unit-names (Line dashes) = refl
unit-names (ModuleBegin dashes name extends) = refl
unit-names (ModuleEnd closing) = refl

-- where the module names of units begin
abbrev pub words_from : List UnitTree → List ℕ
words_from units = map start_of (instances_from units)

unit-words : (u : UnitTree) → all_collected word_at (unit_trees u) ≡ map start_of (instance_names u)
unit-words u = words-collected (unit_trees u) ∙ ap (map start_of) (unit-names u)

words-more : (u : UnitTree) (units : List UnitTree) → words_from (u ∷ units) ≡ all_collected word_at (unit_trees u) ++ words_from units
words-more u units = map-append start_of (instance_names u) (instances_from units) ∙ ap (λ z. z ++ words_from units) (sym (unit-words u))

pub no-words : (nodes : List ArenaNode) (units : List unit.the_data) → HoldsNone word_at nodes → AllByRecursion (λ u. AreThere nodes (nodes_in u)) units → [] ≡ words_from (map (unit_at nodes) units)
no-words nodes [] none there = refl
no-words nodes (u ∷ units) none there =
    (λ i. sym (unit-none word_at nodes u none there.0) i ++ no-words nodes units none there.1 i) ∙ sym (words-more (unit_at nodes u) (map (unit_at nodes) units))

pub words-next : (nodes : List ArenaNode) (units items : List unit.the_data) → items ≡ units → (i : ℕ) (u : unit.the_data) (now next all : List ℕ) → i < length items → u ≡ get_or items i u →
    next ≡ now ++ all_collected word_at (unit_trees (unit_at nodes u)) → now ++ words_from (map (unit_at nodes) (drop i units)) ≡ all → next ++ words_from (map (unit_at nodes) (drop (i + 1) units)) ≡ all
words-next nodes units items same i u now next all lt is more so =
    let rest = words_from (map (unit_at nodes) (drop (i + 1) units)) in
    let own = all_collected word_at (unit_trees (unit_at nodes u)) in
    ap (λ z. z ++ rest) more ∙ append_assoc now own rest ∙ ap (λ z. now ++ z) (sym (words-more (unit_at nodes u) (map (unit_at nodes) (drop (i + 1) units))))
    ∙ ap (λ z. now ++ words_from (map (unit_at nodes) z)) (sym (drop-from units i u (subst (λ z. i < length z) same lt) (subst (λ z. u ≡ get_or z i u) same is))) ∙ so

-- ---- named instances

mutual
  named-collected : (x : Tree) → collected named_instance x ≡ named_instances x
  named-collected (Node form s parts) = ap (λ z. named_instance form parts ++ z) (all-named-collected parts)

  pub all-named-collected : (xs : Trees) → all_collected named_instance xs ≡ all_named_instances xs
  all-named-collected Nil = refl
  all-named-collected (Cons x rest) = (λ i. named-collected x i ++ all-named-collected rest i)
