-- Declaring names, from what is due.
use Rattle.std.proofs.Common.{◌≡◌, ℕ, zero, suc, ◌+◌, ◌<◌, List, [], ◌∷◌, ◌++◌, Bool, true, false, length, take, drop, reverse, append_assoc, refl, ap, sym, subst, ◌∙◌, arith, true≢false}
use Rattle.std.specs.Prelude.{map, if◌then◌else◌}
use Rattle.std.specs.List.{AllByRecursion}
use Rattle.std.proofs.lemmas.List.{append-nil, map-append, reverse-append}
use Rattle.tla_tree.specs.declared.form.Form.TheVariants as Form
use Rattle.tla_tree.specs.Arena.{Node as ArenaNode, AreThere, node_at, tree_at}
use Rattle.tla_tree.specs.Syntax.{Node, Nil, Cons, trees}
use Rattle.tla_tree.proofs.Nodes.{before-there}
use Rattle.tla_model.specs.declared.names.Binder.{Binder}
use Rattle.tla_model.specs.Entities.{Binding, binding_in, binding_of, bound_as, declared_among, declared_in, declared_round, defined as defined_by, follows_first, placed}
use Rattle.declared_names.specs.declared.declared.Due.TheVariants as due
use Rattle.declared_names.specs.Nodes.{form_at, parts_at, defined_at}
use Rattle.declared_names.specs.Collecting.{Due, AreDue, IsOpened, IsTaken, all_due, all_size, due_of, lead, names_of, size, sizes, stack}
use Rattle.declared_names.proofs.Nodewise.{tree-at}

regroup : {A : Type 0} (a b c d e : List A) → (a ++ (b ++ (c ++ d))) ++ e ≡ a ++ (b ++ (c ++ (d ++ e)))
regroup a b c d e = append_assoc a (b ++ (c ++ d)) e ∙ ap (λ z. a ++ z) (append_assoc b (c ++ d) e ∙ ap (λ z. b ++ z) (append_assoc c d e))

module _ (nodes : List ArenaNode) where
  pub due-append : (a b : List Due) → all_due nodes (a ++ b) ≡ all_due nodes a ++ all_due nodes b
  due-append [] b = refl
  due-append (x ∷ a) b = ap (λ z. due_of nodes x ++ z) (due-append a b) ∙ sym (append_assoc (due_of nodes x) (all_due nodes a) (all_due nodes b))

  size-append : (a b : List Due) → all_size nodes (a ++ b) ≡ all_size nodes a + all_size nodes b
  size-append [] b = omega arith
  size-append (x ∷ a) b = omega (arith, size-append a b)

  there-append : (a b : List Due) → AreDue nodes a → AreDue nodes b → AreDue nodes (a ++ b)
  there-append [] b first second = second
  there-append (x ∷ a) b first second = (first.0, there-append a b first.1 second)

  pub names-there : (binding : Binding) (numbers : List ℕ) → AreThere nodes numbers → AreDue nodes (names_of binding numbers)
  names-there binding [] there = tt
  names-there binding (x ∷ numbers) there = (there.0, names-there binding numbers there.1)

  pub names-due : (binding : Binding) (numbers : List ℕ) → all_due nodes (names_of binding numbers) ≡ declared_among binding (trees (map (tree_at nodes) numbers))
  names-due binding [] = refl
  names-due binding (x ∷ numbers) = ap (λ z. declared_in binding (tree_at nodes x) ++ z) (names-due binding numbers)

  names-size : (binding : Binding) (numbers : List ℕ) → all_size nodes (names_of binding numbers) ≡ sizes (trees (map (tree_at nodes) numbers))
  names-size binding [] = refl
  names-size binding (x ∷ numbers) = ap (λ z. size (tree_at nodes x) + z) (names-size binding numbers)

  take-there : (k : ℕ) (numbers : List ℕ) → AreThere nodes numbers → AreThere nodes (take k numbers)
  take-there zero numbers there = tt
  take-there (suc k) [] there = tt
  take-there (suc k) (x ∷ numbers) there = (there.0, take-there k numbers there.1)

  drop-there : (k : ℕ) (numbers : List ℕ) → AreThere nodes numbers → AreThere nodes (drop k numbers)
  drop-there zero numbers there = there
  drop-there (suc k) [] there = there
  drop-there (suc k) (x ∷ numbers) there = drop-there k numbers there.1

  split-size : (binding : Binding) (k : ℕ) (numbers : List ℕ) → all_size nodes (names_of binding (take k numbers)) + all_size nodes (names_of binding (drop k numbers)) ≡ sizes (trees (map (tree_at nodes) numbers))
  split-size binding zero numbers = omega (arith, names-size binding numbers)
  split-size binding (suc k) [] = refl
  split-size binding (suc k) (x ∷ numbers) = omega (arith, split-size binding k numbers)

  -- a form's parts and its own name, in the order of the text
  split-names : (binding : Binding) (form : Form.the_data) (follows : Bool) (numbers : List ℕ) → follows_first form ≡ follows →
      (if follows then declared_round form (trees (map (tree_at nodes) numbers)) else defined_by form (trees (map (tree_at nodes) numbers)) ++ declared_among (binding_in binding form) (trees (map (tree_at nodes) numbers)))
      ≡ all_due nodes (names_of (binding_in binding form) (take (lead follows numbers) numbers))
      ++ (defined_by form (trees (map (tree_at nodes) numbers)) ++ all_due nodes (names_of (binding_in binding form) (drop (lead follows numbers) numbers)))
  split-names binding form false numbers e = ap (λ z. defined_by form (trees (map (tree_at nodes) numbers)) ++ z) (sym (names-due (binding_in binding form) numbers))
  split-names binding form true [] e = sym (append-nil (defined_by form Nil))
  split-names binding form true (x ∷ numbers) e =
      let others = declared_among (binding_of form) (trees (map (tree_at nodes) numbers)) in
      let own = defined_by form (Cons (tree_at nodes x) (trees (map (tree_at nodes) numbers))) in
      subst
      (λ b. (declared_in (binding_of form) (tree_at nodes x) ++ own) ++ others ≡ (declared_in b (tree_at nodes x) ++ []) ++ (own ++ all_due nodes (names_of b numbers)))
      (sym (split-binding binding form e))
      (append_assoc (declared_in (binding_of form) (tree_at nodes x)) own others
      ∙ ap (λ z. declared_in (binding_of form) (tree_at nodes x) ++ (own ++ z)) (sym (names-due (binding_of form) numbers))
      ∙ ap (λ z. z ++ (own ++ all_due nodes (names_of (binding_of form) numbers))) (sym (append-nil (declared_in (binding_of form) (tree_at nodes x)))))
    where
      split-binding : (binding : Binding) (form : Form.the_data) → follows_first form ≡ true → binding_in binding form ≡ binding_of form
      split-binding binding (Form.InfixDefinition l) e = refl
      split-binding binding (Form.PostfixDefinition l) e = refl
      split-binding binding _ e = absurd (true≢false (sym e))

  pub opened : (node : ℕ) (binding : Binding) (children : List ℕ) (k : ℕ) (old new : List Due) → node < length nodes → AreDue nodes old →
      children ≡ (node_at nodes node).children → AllByRecursion (λ child. child < node) children → k ≡ lead (follows_first (form_at nodes node)) children →
      new ≡ names_of (binding_in binding (form_at nodes node)) (take k children) ++ (due.Defined node ∷ (names_of (binding_in binding (form_at nodes node)) (drop k children) ++ old)) → IsOpened nodes node binding old new
  opened node binding children k old new there are is below leads e =
      let form = form_at nodes node in
      let b = binding_in binding form in
      let k' = lead (follows_first form) children in
      let before = names_of b (take k' children) in
      let behind = names_of b (drop k' children) in
      let there_at : tree_at nodes node ≡ Node form (node_at nodes node).span (parts_at nodes node) = tree-at nodes node there (subst (AllByRecursion (λ child. child < node)) is below) in
      let in_place : AreThere nodes children = before-there nodes node children there below in
      let parts : trees (map (tree_at nodes) children) ≡ parts_at nodes node = ap (λ z. trees (map (tree_at nodes) z)) is in
      let e' : new ≡ before ++ (due.Defined node ∷ (behind ++ old)) = subst (λ n. new ≡ names_of b (take n children) ++ (due.Defined node ∷ (names_of b (drop n children) ++ old))) leads e in
      let split = subst (λ p. (if follows_first form then declared_round form p else defined_by form p ++ declared_among b p) ≡ all_due nodes before ++ (defined_by form p ++ all_due nodes behind)) parts (split-names binding form (follows_first form) children refl) in
      let all : all_due nodes new ≡ all_due nodes before ++ (defined_at nodes node ++ (all_due nodes behind ++ all_due nodes old)) =
      ap (all_due nodes) e' ∙ due-append before (due.Defined node ∷ (behind ++ old)) ∙ ap (λ z. all_due nodes before ++ (defined_at nodes node ++ z)) (due-append behind old) in
      let counted : all_size nodes new ≡ all_size nodes before + (1 + (all_size nodes behind + all_size nodes old)) =
      ap (all_size nodes) e' ∙ size-append before (due.Defined node ∷ (behind ++ old)) ∙ ap (λ z. all_size nodes before + (1 + z)) (size-append behind old) in
      record {
        due = subst (AreDue nodes) (sym e') (there-append before (due.Defined node ∷ (behind ++ old)) (names-there b (take k' children) (take-there k' children in_place)) (there, there-append behind old (names-there b (drop k' children) (drop-there k' children in_place)) are));
        names = ap (λ z. declared_in binding z ++ all_due nodes old) there_at ∙ ap (λ z. (bound_as binding (placed form) ++ z) ++ all_due nodes old) split
            ∙ regroup (bound_as binding (placed form)) (all_due nodes before) (defined_at nodes node) (all_due nodes behind) (all_due nodes old) ∙ ap (λ z. bound_as binding (placed form) ++ z) (sym all);
        less = rw (counted, there_at) (omega (arith, split-size b k' children ∙ ap sizes parts));
      }

  pub taken-names : (node : ℕ) (binding : Binding) (before after : List Binder) (found : Form.the_data) (old new : List Due) → IsOpened nodes node binding old new → found ≡ form_at nodes node → after ≡ before ++ bound_as binding (placed found) → IsTaken nodes (due.Names node binding) before after old new
  taken-names node binding before after found old new opened is more = record {
    due = opened.due;
    names = ap (λ z. before ++ z) (opened.names ∙ ap (λ z. bound_as binding (placed z) ++ all_due nodes new) (sym is)) ∙ sym (append_assoc before (bound_as binding (placed found)) (all_due nodes new)) ∙ ap (λ z. z ++ all_due nodes new) (sym more);
    less = opened.less;
  }

  pub taken-defined : (node : ℕ) (before after : List Binder) (old : List Due) → AreDue nodes old → after ≡ before ++ defined_at nodes node → IsTaken nodes (due.Defined node) before after old old
  taken-defined node before after old are more = record {
    due = are;
    names = sym (append_assoc before (defined_at nodes node) (all_due nodes old)) ∙ ap (λ z. z ++ all_due nodes old) (sym more);
    less = omega arith;
  }

pub pushed : (item : Due) (items new : List Due) → new ≡ items ++ item ∷ [] → stack new ≡ item ∷ stack items
pushed item items new is = ap (λ z. reverse z) is ∙ reverse-append items (item ∷ [])

names-append : (binding : Binding) (a b : List ℕ) → names_of binding (a ++ b) ≡ names_of binding a ++ names_of binding b
names-append binding a b = map-append _ a b

names-reverse : (binding : Binding) (numbers : List ℕ) → reverse (names_of binding (reverse numbers)) ≡ names_of binding numbers
names-reverse binding [] = refl
names-reverse binding (x ∷ numbers) =
    ap reverse (ap (names_of binding) (reverse-append (x ∷ []) numbers) ∙ names-append binding (reverse numbers) (x ∷ []))
    ∙ reverse-append (names_of binding (reverse numbers)) (names_of binding (x ∷ [])) ∙ ap (λ z. due.Names x binding ∷ z) (names-reverse binding numbers)

pub nodes-pushed : (binding : Binding) (numbers : List ℕ) (old new : List Due) → new ≡ old ++ names_of binding (reverse numbers) → stack new ≡ names_of binding numbers ++ stack old
nodes-pushed binding numbers old new is = ap reverse is ∙ reverse-append old (names_of binding (reverse numbers)) ∙ ap (λ z. z ++ reverse old) (names-reverse binding numbers)
