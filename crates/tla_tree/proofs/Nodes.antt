-- The trees of nodes as nodes are added.
use Rattle.std.proofs.Common.{◌≡◌, ℕ, zero, suc, ◌+◌, ◌<◌, List, [], ◌∷◌, ◌++◌, length, refl, ap, sym, subst, ◌∙◌, length-append, arith}
use Rattle.std.specs.Prelude.{map}
use Rattle.std.specs.List.{AllByRecursion}
use Rattle.std.proofs.Math.ListN.{get_or-append}
use Rattle.std.proofs.Math.Seq.{get_or-append_seam}
use Rattle.tla_tree.specs.Arena.{AreThere, Node, node_at, nowhere, tree_of, tree_over, grown, tree_at}
use Rattle.tla_tree.specs.Syntax as Syntax
use Rattle.tla_tree.specs.Syntax.{Tree, trees}

grown-snoc : (known : List Tree) (nodes : List Node) (node : Node) → grown known (nodes ++ node ∷ []) ≡ grown known nodes ++ tree_over (grown known nodes) node ∷ []
unfolding grown
grown-snoc known [] node = refl
grown-snoc known (first ∷ nodes) node = grown-snoc (known ++ tree_over known first ∷ []) nodes node

length-grown : (known : List Tree) (nodes : List Node) → length (grown known nodes) ≡ length known + length nodes
unfolding grown
length-grown known [] = omega arith
length-grown known (first ∷ nodes) =
    let more : List Tree = known ++ tree_over known first ∷ [] in
    omega (arith, length-grown more nodes, length-append known (tree_over known first ∷ []))

-- the trees of the nodes that are there stay
pub tree_at-old : (nodes : List Node) (node : Node) (number : ℕ) → number < length nodes → tree_at (nodes ++ node ∷ []) number ≡ tree_at nodes number
unfolding tree_at
tree_at-old nodes node number there =
    let known : number < length (grown [] nodes) = omega (arith, length-grown [] nodes) in
    rw (grown-snoc [] nodes node) (get_or-append (grown [] nodes) _ _ number known)

-- a new node is above the trees of its children
pub tree_at-new : (nodes : List Node) (node : Node) (number : ℕ) → number ≡ length nodes → tree_at (nodes ++ node ∷ []) number ≡ tree_over (grown [] nodes) node
unfolding tree_at
tree_at-new nodes node number last =
    let count : length (grown [] nodes) ≡ length nodes = omega (arith, length-grown [] nodes) in
    rw (last, ← count, grown-snoc [] nodes node) (get_or-append_seam (grown [] nodes) (tree_over (grown [] nodes) node) [] _)

pub node_at-old : (nodes : List Node) (node : Node) (number : ℕ) → number < length nodes → node_at (nodes ++ node ∷ []) number ≡ node_at nodes number
node_at-old nodes node number there = get_or-append nodes (node ∷ []) nowhere number there

pub node_at-new : (nodes : List Node) (node : Node) (number : ℕ) → number ≡ length nodes → node_at (nodes ++ node ∷ []) number ≡ node
node_at-new nodes node number last = rw last (get_or-append_seam nodes node [] nowhere)

-- the trees that are known stay
grown-known : (known : List Tree) (nodes : List Node) (number : ℕ) → number < length known → tree_of (grown known nodes) number ≡ tree_of known number
unfolding grown
grown-known known [] number there = refl
grown-known known (first ∷ nodes) number there =
    let more : number < length (known ++ tree_over known first ∷ []) = omega (arith, there, length-append known (tree_over known first ∷ [])) in
    grown-known (known ++ tree_over known first ∷ []) nodes number more ∙ get_or-append known _ _ number there

grown-first : (known : List Tree) (first : Node) (nodes : List Node) → tree_of (grown known (first ∷ nodes)) (length known + 0) ≡ tree_over known first
unfolding grown
grown-first known first nodes =
    let e : length known + 0 ≡ length known = omega arith in
    let last : length known < length (known ++ tree_over known first ∷ []) = omega (arith, length-append known (tree_over known first ∷ [])) in
    rw e (grown-known (known ++ tree_over known first ∷ []) nodes (length known) last ∙ get_or-append_seam known (tree_over known first) [] _)

children-known : (known : List Tree) (nodes : List Node) (children : List ℕ) → AllByRecursion (λ child. child < length known) children → map (tree_of known) children ≡ map (tree_of (grown known nodes)) children
children-known known nodes [] before = refl
children-known known nodes (child ∷ children) before =
    rw (grown-known known nodes child before.0, children-known known nodes children before.1) refl

grown-at : (known : List Tree) (nodes : List Node) (number : ℕ) → number < length nodes → AllByRecursion (λ child. child < length known + number) (node_at nodes number).children → tree_of (grown known nodes) (length known + number) ≡ tree_over (grown known nodes) (node_at nodes number)
unfolding grown
grown-at known [] number there before = absurd (omega (arith, there))
grown-at known (first ∷ nodes) zero there before =
    let e : length known + 0 ≡ length known = omega arith in
    let same : map (tree_of known) first.children ≡ map (tree_of (grown known (first ∷ nodes))) first.children =
    children-known known (first ∷ nodes) first.children (subst (λ n. AllByRecursion (λ child. child < n) first.children) e before)
    in
    grown-first known first nodes ∙ ap (λ xs. Syntax.Node first.form first.span (trees xs)) same
grown-at known (first ∷ nodes) (suc number) there before =
    let more : List Tree = known ++ tree_over known first ∷ [] in
    let e : length known + suc number ≡ length more + number = omega (arith, length-append known (tree_over known first ∷ [])) in
    ap (λ n. tree_of (grown known (first ∷ nodes)) n) e ∙ grown-at more nodes number (omega (arith, there)) (subst (λ n. AllByRecursion (λ child. child < n) (node_at nodes number).children) e before)

-- the tree at a node is its form and span over the trees at its children
pub tree_at-node : (nodes : List Node) (number : ℕ) → number < length nodes → AllByRecursion (λ child. child < number) (node_at nodes number).children → tree_at nodes number ≡ Syntax.Node (node_at nodes number).form (node_at nodes number).span (trees (map (tree_at nodes) (node_at nodes number).children))
unfolding tree_at
tree_at-node nodes number there before =
    let e : 0 + number ≡ number = omega arith in
    subst (λ n. AllByRecursion (λ child. child < n) (node_at nodes number).children → tree_of (grown [] nodes) n ≡ tree_over (grown [] nodes) (node_at nodes number)) e (grown-at [] nodes number there) before

-- children that come before a node are there
pub before-there : (nodes : List Node) (number : ℕ) (children : List ℕ) → number < length nodes → AllByRecursion (λ child. child < number) children → AreThere nodes children
before-there nodes number [] there before = tt
before-there nodes number (child ∷ children) there before = (omega (arith, there, before.0), before-there nodes number children there before.1)

grown-form : (known : List Tree) (nodes : List Node) (number : ℕ) → number < length nodes → (parts : Syntax.Trees) × (tree_of (grown known nodes) (length known + number) ≡ Syntax.Node (node_at nodes number).form (node_at nodes number).span parts)
unfolding grown
grown-form known [] number there = absurd (omega (arith, there))
grown-form known (first ∷ nodes) zero there = (trees (map (tree_of known) first.children), grown-first known first nodes)
grown-form known (first ∷ nodes) (suc number) there =
    let more : List Tree = known ++ tree_over known first ∷ [] in
    let e : length known + suc number ≡ length more + number = omega (arith, length-append known (tree_over known first ∷ [])) in
    let rest : (parts : Syntax.Trees) × (tree_of (grown more nodes) (length more + number) ≡ Syntax.Node (node_at nodes number).form (node_at nodes number).span parts) = grown-form more nodes number (omega (arith, there)) in
    (rest.0, ap (λ n. tree_of (grown known (first ∷ nodes)) n) e ∙ rest.1)

-- whatever its children are, it has its form and span
pub tree_at-form : (nodes : List Node) (number : ℕ) → number < length nodes → (parts : Syntax.Trees) × (tree_at nodes number ≡ Syntax.Node (node_at nodes number).form (node_at nodes number).span parts)
unfolding tree_at
tree_at-form nodes number there =
    let e : 0 + number ≡ number = omega arith in
    let is : (parts : Syntax.Trees) × (tree_of (grown [] nodes) (0 + number) ≡ Syntax.Node (node_at nodes number).form (node_at nodes number).span parts) = grown-form [] nodes number there in
    (is.0, ap (λ n. tree_of (grown [] nodes) n) (sym e) ∙ is.1)
