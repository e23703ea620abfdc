-- The faults of what is to be looked at.
use Rattle.std.proofs.Common.{◌≡◌, ℕ, suc, ◌+◌, ◌<◌, ◌≤◌, List, [], ◌∷◌, ◌++◌, Bool, true, false, Option, length, append_assoc, refl, ap, sym, subst, ◌∙◌, arith}
use Rattle.std.specs.Prelude.{map, if◌then◌else◌}
use Rattle.std.specs.List.{AllByRecursion}
use Rattle.tla_tree.specs.Arena.{Node as ArenaNode, AreThere, node_at, tree_at}
use Rattle.tla_tree.specs.Syntax.{Trees, span, trees}
use Rattle.tla_tree.proofs.Nodes.{before-there, tree_at-form}
use Rattle.tla_model.specs.declared.Diagnostic.{Diagnostic}
use Rattle.tla_model.specs.Entities.{Entity}
use Rattle.declared_names.specs.Nodes.{form_at}
use Rattle.declared_names.proofs.Nodewise.{form-at, tree-at}
use Rattle.list_laws.proofs.Lists.{all-both}
use Rattle.arity_rules.specs.declared.walk.Task.{Task}
use Rattle.arity_rules.specs.Arities as arities
use Rattle.arity_rules.specs.Arities.{Due, Role, count, is_known, is_part_inside, is_path, own_faults, part_due, part_faults, path_faults, role_of, tree_faults}
use Rattle.arity_rules.specs.Tasks.{AreDue, IsTaken, all_faults, all_size, below, part_tasks, path_tasks, segment_due, size, sizes}

regroup : {A : Type 0} (a b c d : List A) → a ++ ((b ++ c) ++ d) ≡ (a ++ b) ++ (c ++ d)
regroup a b c d = ap (λ z. a ++ z) (append_assoc b c d) ∙ sym (append_assoc a b (c ++ d))

module _ (means : ℕ → Option Entity) (nodes : List ArenaNode) where
  abbrev at : List ℕ → Trees
  at numbers = trees (map (tree_at nodes) numbers)

  faults-append : (a b : List Task) → all_faults means nodes (a ++ b) ≡ all_faults means nodes a ++ all_faults means nodes b
  faults-append [] b = refl
  faults-append (t ∷ a) b = ap (λ z. tree_faults means t.due t.inside (tree_at nodes t.node) ++ z) (faults-append a b) ∙ sym (append_assoc (tree_faults means t.due t.inside (tree_at nodes t.node)) (all_faults means nodes a) (all_faults means nodes b))

  size-append : (a b : List Task) → all_size nodes (a ++ b) ≡ all_size nodes a + all_size nodes b
  size-append [] b = omega arith
  size-append (t ∷ a) b = omega (arith, size-append a b)

  count-at : (numbers : List ℕ) → count (at numbers) ≡ length numbers
  count-at [] = refl
  count-at (x ∷ numbers) = ap suc (count-at numbers)

  span-at : (node : ℕ) → node < length nodes → span (tree_at nodes node) ≡ (node_at nodes node).span
  span-at node there = ap span (tree_at-form nodes node there).1

  -- ---- the segments of a path

  due-at : (d : Due) (rest : List ℕ) → arities.segment_due d (at rest) ≡ segment_due d rest
  due-at d [] = refl
  due-at d (next ∷ rest) = refl

  faults-if : (b : Bool) (tasks : List Task) (faults : List Diagnostic) → all_faults means nodes tasks ≡ faults → all_faults means nodes (if b then tasks else []) ≡ (if b then faults else [])
  faults-if true tasks faults e = e
  faults-if false tasks faults e = refl

  path-faults : (d : Due) (inside : Bool) (numbers : List ℕ) → AreThere nodes numbers → all_faults means nodes (path_tasks means nodes d inside numbers) ≡ path_faults means d inside (at numbers)
  path-faults d inside [] there = refl
  path-faults d inside (x ∷ rest) there =
      rw (form-at nodes x there.0, due-at d rest)
      (ap (λ z. tree_faults means (segment_due d rest) inside (tree_at nodes x) ++ z)
      (faults-if (is_known means (form_at nodes x)) (path_tasks means nodes d inside rest) (path_faults means d inside (at rest)) (path-faults d inside rest there.1)))

  due-if : (b : Bool) (tasks : List Task) → AreDue nodes tasks → AreDue nodes (if b then tasks else [])
  due-if true tasks due = due
  due-if false tasks due = tt

  path-due : (d : Due) (inside : Bool) (numbers : List ℕ) → AreThere nodes numbers → AreDue nodes (path_tasks means nodes d inside numbers)
  path-due d inside [] there = tt
  path-due d inside (x ∷ rest) there = (there.0, due-if (is_known means (form_at nodes x)) (path_tasks means nodes d inside rest) (path-due d inside rest there.1))

  size-if : (b : Bool) (tasks : List Task) (n : ℕ) → all_size nodes tasks ≤ n → all_size nodes (if b then tasks else []) ≤ n
  size-if true tasks n less = less
  size-if false tasks n less = omega arith

  path-size : (d : Due) (inside : Bool) (numbers : List ℕ) → all_size nodes (path_tasks means nodes d inside numbers) ≤ sizes (at numbers)
  path-size d inside [] = omega arith
  path-size d inside (x ∷ rest) = omega (arith, size-if (is_known means (form_at nodes x)) (path_tasks means nodes d inside rest) (sizes (at rest)) (path-size d inside rest))

  -- ---- the parts of other forms

  pub part-faults : (r : Role) (inside : Bool) (index : ℕ) (numbers : List ℕ) → AreThere nodes numbers → all_faults means nodes (part_tasks means nodes r inside index numbers) ≡ part_faults means r inside index (at numbers)
  part-faults r inside index [] there = refl
  part-faults r inside index (x ∷ rest) there =
      rw (form-at nodes x there.0, span-at x there.0)
      (ap (λ z. tree_faults means (part_due means r index (node_at nodes x).span) (is_part_inside r inside (form_at nodes x)) (tree_at nodes x) ++ z) (part-faults r inside (suc index) rest there.1))

  pub part-due : (r : Role) (inside : Bool) (index : ℕ) (numbers : List ℕ) → AreThere nodes numbers → AreDue nodes (part_tasks means nodes r inside index numbers)
  part-due r inside index [] there = tt
  part-due r inside index (x ∷ rest) there = (there.0, part-due r inside (suc index) rest there.1)

  part-size : (r : Role) (inside : Bool) (index : ℕ) (numbers : List ℕ) → all_size nodes (part_tasks means nodes r inside index numbers) ≤ sizes (at numbers)
  part-size r inside index [] = omega arith
  part-size r inside index (x ∷ rest) = omega (arith, part-size r inside (suc index) rest)

  -- ---- what stands below a form

  below-faults : (d : Due) (inside : Bool) (r : Role) (numbers : List ℕ) → AreThere nodes numbers → all_faults means nodes (below means nodes d inside r numbers) ≡ (if is_path r then path_faults means d inside (at numbers) else part_faults means r inside 0 (at numbers))
  below-faults d inside r numbers there = by (is_path r)
    where
      by : (b : Bool) → all_faults means nodes (if b then path_tasks means nodes d inside numbers else part_tasks means nodes r inside 0 numbers) ≡ (if b then path_faults means d inside (at numbers) else part_faults means r inside 0 (at numbers))
      by true = path-faults d inside numbers there
      by false = part-faults r inside 0 numbers there

  below-due : (d : Due) (inside : Bool) (r : Role) (numbers : List ℕ) → AreThere nodes numbers → AreDue nodes (below means nodes d inside r numbers)
  below-due d inside r numbers there = by (is_path r)
    where
      by : (b : Bool) → AreDue nodes (if b then path_tasks means nodes d inside numbers else part_tasks means nodes r inside 0 numbers)
      by true = path-due d inside numbers there
      by false = part-due r inside 0 numbers there

  below-size : (d : Due) (inside : Bool) (r : Role) (numbers : List ℕ) → all_size nodes (below means nodes d inside r numbers) ≤ sizes (at numbers)
  below-size d inside r numbers = by (is_path r)
    where
      by : (b : Bool) → all_size nodes (if b then path_tasks means nodes d inside numbers else part_tasks means nodes r inside 0 numbers) ≤ sizes (at numbers)
      by true = path-size d inside numbers
      by false = part-size r inside 0 numbers

  -- ---- a node

  module _ (next : Task) (there : next.node < length nodes) (before : AllByRecursion (λ child. child < next.node) (node_at nodes next.node).children) where
    abbrev kids : List ℕ
    kids = (node_at nodes next.node).children

    abbrev r : Role
    r = role_of (form_at nodes next.node)

    abbrev own : List Diagnostic
    own = own_faults means next.due next.inside r (length kids)

    in-place : AreThere nodes kids
    in-place = before-there nodes next.node kids there before

    node-faults : tree_faults means next.due next.inside (tree_at nodes next.node) ≡ own ++ all_faults means nodes (below means nodes next.due next.inside r kids)
    node-faults =
        ap (tree_faults means next.due next.inside) (tree-at nodes next.node there before)
        ∙ ap (λ n. own_faults means next.due next.inside r n ++ (if is_path r then path_faults means next.due next.inside (at kids) else part_faults means r next.inside 0 (at kids))) (count-at kids)
        ∙ ap (λ z. own ++ z) (sym (below-faults next.due next.inside r kids in-place))

    node-size : size (tree_at nodes next.node) ≡ suc (sizes (at kids))
    node-size = ap size (tree-at nodes next.node there before)

    pub taken : (faults faults' : List Diagnostic) (old new : List Task) → AreDue nodes old → faults' ≡ faults ++ own → new ≡ below means nodes next.due next.inside r kids ++ old → IsTaken means nodes next faults faults' old new
    taken faults faults' old new due more is =
        let opened = below means nodes next.due next.inside r kids in
        record {
          due = subst (AreDue nodes) (sym is) (all-both _ opened old (below-due next.due next.inside r kids in-place) due);
          faults = ap (λ z. faults ++ (z ++ all_faults means nodes old)) node-faults
              ∙ regroup faults own (all_faults means nodes opened) (all_faults means nodes old)
              ∙ ap (λ z. z ++ (all_faults means nodes opened ++ all_faults means nodes old)) (sym more)
              ∙ ap (λ z. faults' ++ z) (sym (ap (all_faults means nodes) is ∙ faults-append opened old));
          less = rw (is, node-size, size-append opened old) (omega (arith, below-size next.due next.inside r kids));
        }
