-- How the nodes are kept, as nodes are added.
use Rattle.std.proofs.Common.{◌≡◌, ℕ, zero, suc, ◌+◌, ◌-◌, ◌<◌, ◌≤◌, ◌⊎◌, inl, inr, Bool, true, false, List, [], ◌∷◌, ◌++◌, length, take, drop, refl, ap, sym, subst, ◌∙◌, length-append, length-drop, arith}
use Rattle.std.specs.Prelude.{map, max, cond, slice_index_or}
use Rattle.std.specs.List.{AllByRecursion}
use Rattle.std.proofs.Math.ListN.{get_or-append}
use Rattle.std.proofs.Math.Seq.{get_or-append_seam, take-length, drop-append_seam}
use Rattle.std.proofs.lemmas.List.{take-append-le, drop-append-le}
use Rattle.tla_tree.specs.declared.tree.Node.{Node}
use Rattle.tla_tree.specs.Forms.{helps}
use Rattle.tla_tree.specs.Arena as Arena
use Rattle.tla_tree.specs.Arena.{node_at, tree_at, tree_of, grown, height_at}
use Rattle.tla_tree.specs.Syntax.{trees, highest, above}
use Rattle.tla_tree.specs.Stored.{node_of, nodes_of, nowhere, kept_at, IsStretch, highest_of, IsStored}
use Rattle.tla_tree.proofs.Nodes.{tree_at-old, tree_at-new, node_at-old, node_at-new}

pub length-nodes_of : (numbers : List ℕ) (nodes : List Node) → length (nodes_of numbers nodes) ≡ length nodes
length-nodes_of numbers [] = refl
length-nodes_of numbers (node ∷ nodes) = let h : length (nodes_of numbers nodes) ≡ length nodes = length-nodes_of numbers nodes in omega arith

nodes_of-append : (numbers : List ℕ) (nodes more : List Node) → nodes_of numbers (nodes ++ more) ≡ nodes_of numbers nodes ++ nodes_of numbers more
nodes_of-append numbers [] more = refl
nodes_of-append numbers (node ∷ nodes) more = rw (nodes_of-append numbers nodes more)

pub node_at-nodes_of : (numbers : List ℕ) (nodes : List Node) (number : ℕ) → number < length nodes → node_at (nodes_of numbers nodes) number ≡ node_of numbers (kept_at nodes number)
node_at-nodes_of numbers [] number there = absurd (omega arith)
node_at-nodes_of numbers (node ∷ nodes) zero there = refl
node_at-nodes_of numbers (node ∷ nodes) (suc number) there = node_at-nodes_of numbers nodes number (omega arith)

pub stretch_at : (numbers : List ℕ) (nodes : List Node) (number : ℕ) → AllByRecursion (IsStretch numbers) nodes → number < length nodes → IsStretch numbers (kept_at nodes number)
stretch_at numbers [] number all there = absurd (omega arith)
stretch_at numbers (node ∷ nodes) zero all there = all.0
stretch_at numbers (node ∷ nodes) (suc number) all there = stretch_at numbers nodes number all.1 (omega arith)

node_of-more : (numbers more : List ℕ) (node : Node) → IsStretch numbers node → node_of (numbers ++ more) node ≡ node_of numbers node
node_of-more numbers more node s =
    let inside : node.first ≤ length numbers = omega (arith, s.0, s.1) in
    let short : node.end - node.first ≤ length (drop node.first numbers) = omega (arith, s.0, s.1, length-drop node.first numbers) in
    rw (drop-append-le node.first numbers more inside, take-append-le (node.end - node.first) (drop node.first numbers) more short)

pub nodes_of-more : (numbers more : List ℕ) (nodes : List Node) → AllByRecursion (IsStretch numbers) nodes → nodes_of (numbers ++ more) nodes ≡ nodes_of numbers nodes
nodes_of-more numbers more [] all = refl
nodes_of-more numbers more (node ∷ nodes) all = rw (node_of-more numbers more node all.0, nodes_of-more numbers more nodes all.1)

stretches-more : (numbers more : List ℕ) (nodes : List Node) → AllByRecursion (IsStretch numbers) nodes → AllByRecursion (IsStretch (numbers ++ more)) nodes
stretches-more numbers more [] all = tt
stretches-more numbers more (node ∷ nodes) all = ((all.0.0, omega (arith, all.0.1, length-append numbers more)), stretches-more numbers more nodes all.1)

stretches-snoc : (numbers : List ℕ) (nodes : List Node) (node : Node) → AllByRecursion (IsStretch numbers) nodes → IsStretch numbers node → AllByRecursion (IsStretch numbers) (nodes ++ node ∷ [])
stretches-snoc numbers [] node all s = (s, tt)
stretches-snoc numbers (first ∷ nodes) node all s = (all.0, stretches-snoc numbers nodes node all.1 s)

-- more numbers after the stretches change nothing
pub stored-more : (numbers more : List ℕ) (nodes : List Node) → IsStored numbers nodes → IsStored (numbers ++ more) nodes
stored-more numbers more nodes s = record {
  stretches = stretches-more numbers more nodes s.stretches;
  before = rw (nodes_of-more numbers more nodes s.stretches) s.before;
  heights = rw (nodes_of-more numbers more nodes s.stretches) s.heights;
  low = s.low;
}

-- the greatest height of the children is that of their trees
highest-of : (numbers : List ℕ) (nodes : List Node) (children : List ℕ) → IsStored numbers nodes → AllByRecursion (λ child. child < length nodes) children → highest (trees (map (tree_at (nodes_of numbers nodes)) children)) ≡ highest_of nodes children
highest-of numbers nodes [] s all = refl
highest-of numbers nodes (child ∷ children) s all =
    rw (highest-of numbers nodes children s all.1, ← (s.heights child all.0))

pub low-of : (numbers : List ℕ) (nodes : List Node) (children : List ℕ) → IsStored numbers nodes → AllByRecursion (λ child. child < length nodes) children → highest_of nodes children ≤ length nodes
low-of numbers nodes [] s all = omega arith
low-of numbers nodes (child ∷ children) s all =
    let h : (kept_at nodes child).height ≤ length nodes = s.low child all.0 in
    let i : highest_of nodes children ≤ length nodes = low-of numbers nodes children s all.1 in
    omega arith

pub kept-there : (numbers : List ℕ) (nodes : List Node) (view : List Arena.Node) (number : ℕ) → nodes_of numbers nodes ≡ view → number < length view → number < length nodes
kept-there numbers nodes view number is there =
    let count : length view ≡ length nodes = rw (← is) (length-nodes_of numbers nodes) in
    omega (arith, count)

pub kept-node : (numbers : List ℕ) (nodes : List Node) (view : List Arena.Node) (number : ℕ) → nodes_of numbers nodes ≡ view → number < length view → node_at view number ≡ node_of numbers (kept_at nodes number)
kept-node numbers nodes view number is there =
    ap (λ v. node_at v number) (sym is) ∙ node_at-nodes_of numbers nodes number (kept-there numbers nodes view number is there)

pub kept-height : (numbers : List ℕ) (nodes : List Node) (view : List Arena.Node) (number : ℕ) → nodes_of numbers nodes ≡ view → IsStored numbers nodes → number < length view → (kept_at nodes number).height ≡ height_at view number
kept-height numbers nodes view number is s there =
    s.heights number (kept-there numbers nodes view number is there) ∙ ap (λ v. height_at v number) is

pub kept-before : (numbers : List ℕ) (nodes : List Node) (view : List Arena.Node) (number : ℕ) → nodes_of numbers nodes ≡ view → IsStored numbers nodes → number < length view → AllByRecursion (λ child. child < number) (node_at view number).children
kept-before numbers nodes view number is s there =
    subst (λ v. AllByRecursion (λ child. child < number) (node_at v number).children) is
    (s.before number (kept-there numbers nodes view number is there))

-- one child more
step-suc : (nodes : List Node) (children : List ℕ) (i most : ℕ) → i < length children → max (max (kept_at nodes (slice_index_or children i 0)).height most) (highest_of nodes (drop (suc i) children)) ≡ max most (highest_of nodes (drop i children))
step-suc nodes [] i most there = absurd (omega arith)
step-suc nodes (child ∷ children) zero most there = omega arith
step-suc nodes (child ∷ children) (suc i) most there = step-suc nodes children i most (omega arith)

pub highest_of-step : (nodes : List Node) (children : List ℕ) (i most : ℕ) → i < length children → max (max (kept_at nodes (slice_index_or children i 0)).height most) (highest_of nodes (drop (i + 1) children)) ≡ max most (highest_of nodes (drop i children))
highest_of-step nodes children i most there = let e : i + 1 ≡ suc i = omega arith in rw e (step-suc nodes children i most there)

pub view-pushed : (numbers children : List ℕ) (nodes : List Node) (node : Node) → AllByRecursion (IsStretch numbers) nodes → node.first ≡ length numbers → node.end ≡ length (numbers ++ children) → nodes_of (numbers ++ children) (nodes ++ node ∷ []) ≡ nodes_of numbers nodes ++ record { form = node.form; span = node.span; children = children } ∷ []
view-pushed numbers children nodes node all first end =
    let count : node.end - node.first ≡ length children = omega (arith, first, end, length-append numbers children) in
    let kept : take (node.end - node.first) (drop node.first (numbers ++ children)) ≡ children =
    rw (first, drop-append_seam numbers children, ← first, count, take-length children)
    in
    rw (nodes_of-append (numbers ++ children) nodes (node ∷ []), nodes_of-more numbers children nodes all, kept)

last-or : (number count : ℕ) → number < count + 1 → (number < count) ⊎ (number ≡ count)
last-or number count less = grind arith

all-less : (m n : ℕ) (numbers : List ℕ) → m ≤ n → AllByRecursion (λ child. child < m) numbers → AllByRecursion (λ child. child < n) numbers
all-less m n [] l all = tt
all-less m n (number ∷ numbers) l all = (let h : number < m = all.0 in omega arith, all-less m n numbers l all.1)

trees-known : (nodes : List Arena.Node) (children : List ℕ) → map (tree_of (grown [] nodes)) children ≡ map (tree_at nodes) children
unfolding tree_at
trees-known nodes children = refl

before-pushed : (numbers children : List ℕ) (nodes : List Node) (added : Arena.Node) (number : ℕ) → IsStored numbers nodes → AllByRecursion (λ child. child < length nodes) children → added.children ≡ children → (number < length nodes) ⊎ (number ≡ length nodes) → AllByRecursion (λ child. child < number) (node_at (nodes_of numbers nodes ++ added ∷ []) number).children
before-pushed numbers children nodes added number s all is (inl old) =
    rw (node_at-old (nodes_of numbers nodes) added number (omega (arith, old, length-nodes_of numbers nodes))) (s.before number old)
before-pushed numbers children nodes added number s all is (inr new) =
    rw (node_at-new (nodes_of numbers nodes) added number (omega (arith, new, length-nodes_of numbers nodes)), is, new) all

heights-pushed : (numbers children : List ℕ) (nodes : List Node) (node : Node) (added : Arena.Node) (number : ℕ) → IsStored numbers nodes → AllByRecursion (λ child. child < length nodes) children → added.children ≡ children → added.form ≡ node.form → node.height ≡ above node.form (highest_of nodes children) → (number < length nodes) ⊎ (number ≡ length nodes) → (kept_at (nodes ++ node ∷ []) number).height ≡ height_at (nodes_of numbers nodes ++ added ∷ []) number
heights-pushed numbers children nodes node added number s all is same tall (inl old) =
    rw (get_or-append nodes (node ∷ []) nowhere number old, tree_at-old (nodes_of numbers nodes) added number (omega (arith, old, length-nodes_of numbers nodes)))
    (s.heights number old)
heights-pushed numbers children nodes node added number s all is same tall (inr new) =
    rw (tree_at-new (nodes_of numbers nodes) added number (omega (arith, new, length-nodes_of numbers nodes)), is, same, trees-known (nodes_of numbers nodes) children, highest-of numbers nodes children s all, new, get_or-append_seam nodes node [] nowhere)
    tall

low-pushed : (numbers children : List ℕ) (nodes : List Node) (node : Node) (number : ℕ) → IsStored numbers nodes → AllByRecursion (λ child. child < length nodes) children → node.height ≡ above node.form (highest_of nodes children) → (number < length nodes) ⊎ (number ≡ length nodes) → (kept_at (nodes ++ node ∷ []) number).height ≤ length nodes + 1
low-pushed numbers children nodes node number s all tall (inl old) =
    rw (get_or-append nodes (node ∷ []) nowhere number old) (omega (arith, s.low number old))
low-pushed numbers children nodes node number s all tall (inr new) =
    rw (new, get_or-append_seam nodes node [] nowhere, tall) (most-above (helps node.form) (low-of numbers nodes children s all))
  where
    most-above : (b : Bool) → highest_of nodes children ≤ length nodes → cond b (highest_of nodes children) (suc (highest_of nodes children)) ≤ length nodes + 1
    most-above true l = omega arith
    most-above false l = omega arith

-- a node is added over children that are there
pub stored-pushed : (numbers children : List ℕ) (nodes : List Node) (node : Node) → IsStored numbers nodes → AllByRecursion (λ child. child < length nodes) children → node.first ≡ length numbers → node.end ≡ length (numbers ++ children) → node.height ≡ above node.form (highest_of nodes children) → IsStored (numbers ++ children) (nodes ++ node ∷ [])
stored-pushed numbers children nodes node s all first end tall =
    let added : Arena.Node = record { form = node.form; span = node.span; children = children } in
    let is : nodes_of (numbers ++ children) (nodes ++ node ∷ []) ≡ nodes_of numbers nodes ++ added ∷ [] = view-pushed numbers children nodes node s.stretches first end in
    let longer : length (nodes ++ node ∷ []) ≡ length nodes + 1 = length-append nodes (node ∷ []) in
    let low : length numbers ≤ length (numbers ++ children) = omega (arith, length-append numbers children) in
    record {
      stretches = stretches-snoc (numbers ++ children) nodes node (stretches-more numbers children nodes s.stretches) (omega (arith, first, end, low), omega (arith, end));
      before = λ number there. rw is (before-pushed numbers children nodes added number s all refl (last-or number (length nodes) (omega (arith, there, longer))));
      heights = λ number there. rw is (heights-pushed numbers children nodes node added number s all refl refl tall (last-or number (length nodes) (omega (arith, there, longer))));
      low = λ number there. rw longer (low-pushed numbers children nodes node number s all tall (last-or number (length nodes) (omega (arith, there, longer))));
    }

pub length-view : (numbers : List ℕ) (nodes : List Node) (view : List Arena.Node) → nodes_of numbers nodes ≡ view → length nodes ≡ length view
length-view numbers nodes view is = sym (length-nodes_of numbers nodes) ∙ ap (λ v. length v) is

pub children-there : (numbers : List ℕ) (nodes : List Node) (view : List Arena.Node) (children : List ℕ) → nodes_of numbers nodes ≡ view → Arena.AreThere view children → AllByRecursion (λ child. child < length nodes) children
children-there numbers nodes view children is there = rw (length-view numbers nodes view is) there

pub height-room : (numbers : List ℕ) (nodes : List Node) (view : List Arena.Node) (children : List ℕ) → nodes_of numbers nodes ≡ view → IsStored numbers nodes → Arena.AreThere view children → length view < 4294967295 → highest_of nodes children < 4294967295
height-room numbers nodes view children is s there room =
    omega (arith, room, length-view numbers nodes view is, low-of numbers nodes children s (children-there numbers nodes view children is there))

-- what stands when the numbers were added and then the node
pub added-stored : (numbers numbers' children : List ℕ) (nodes nodes' : List Node) (view : List Arena.Node) (node : Node) → nodes_of numbers nodes ≡ view → IsStored numbers nodes → Arena.AreThere view children → numbers' ≡ numbers ++ children → nodes' ≡ nodes ++ node ∷ [] → node.first ≡ length numbers → node.end ≡ length numbers' → node.height ≡ above node.form (highest_of nodes children) → IsStored numbers' nodes'
added-stored numbers numbers' children nodes nodes' view node is s there more one first end tall =
    rw (more, one) (stored-pushed numbers children nodes node s (children-there numbers nodes view children is there) first (end ∙ ap (λ n. length n) more) tall)

pub added-view : (numbers numbers' children : List ℕ) (nodes nodes' : List Node) (view : List Arena.Node) (node : Node) → nodes_of numbers nodes ≡ view → IsStored numbers nodes → numbers' ≡ numbers ++ children → nodes' ≡ nodes ++ node ∷ [] → node.first ≡ length numbers → node.end ≡ length numbers' → nodes_of numbers' nodes' ≡ view ++ record { form = node.form; span = node.span; children = children } ∷ []
added-view numbers numbers' children nodes nodes' view node is s more one first end =
    rw (more, one, ← is) (view-pushed numbers children nodes node s.stretches first (end ∙ ap (λ n. length n) more))

pub same-view : (numbers numbers' children : List ℕ) (nodes nodes' : List Node) (view : List Arena.Node) → nodes_of numbers nodes ≡ view → IsStored numbers nodes → numbers' ≡ numbers ++ children → nodes' ≡ nodes → nodes_of numbers' nodes' ≡ view
same-view numbers numbers' children nodes nodes' view is s more one = rw (more, one) (nodes_of-more numbers children nodes s.stretches ∙ is)
