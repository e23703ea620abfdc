-- Parts of a node, one after another, as code goes through them.
use Rattle.std.proofs.Common.{◌≡◌, ℕ, zero, suc, ◌+◌, ◌<◌, ◌≤◌, List, [], ◌∷◌, ◌++◌, Option, refl, sym, ap, subst, ◌∙◌, length, drop, get_or, arith}
use Rattle.std.specs.List.{AllByRecursion}
use Rattle.tla_tree.specs.Arena.{tree_at}
use Rattle.tla_tree.specs.Syntax.{Trees, Nil}
use Rattle.kind_text.specs.FlatModule.{FlatModule}
use Rattle.flattened_trees.specs.Questions as asking
use Rattle.tree_flattener.specs.declared.rules.Taken.TheVariants as taken
use Rattle.tree_flattener.specs.declared.state.Flattening.{Flattening}
use Rattle.tree_flattener.specs.Flattens.{LinksSome, Links, OfParts, Reads, ReadsAll, ReadsSome, operands_of, updates_of}
use Rattle.tree_flattener.specs.Steps.{Steps}
use Rattle.tree_flattener.specs.Worlds.{AreNodes, IsNode, IsReady, World, setting_of}
use Rattle.tree_flattener.proofs.Chains.{links-on}
use Rattle.tree_flattener.proofs.Lying.{child-node, kids-lie}
use Rattle.tree_flattener.proofs.MadeForms.{nodes-rest}
use Rattle.tree_flattener.proofs.Reading.{reads-end, reads-on}
use Rattle.tree_flattener.proofs.Stepping.{length-both, ready-on, same-setting}
use Rattle.tree_flattener.proofs.Walking.{all-at, at_nodes, rest-trees}
use Rattle.tla_tree.specs.Arena.{node_at}

pub drop-past : (xs : List ℕ) (i : ℕ) → length xs ≤ i → drop i xs ≡ []
drop-past [] zero past = refl
drop-past [] (suc i) past = refl
drop-past (x ∷ xs) zero past = absurd (omega (arith, past))
drop-past (x ∷ xs) (suc i) past = drop-past xs i (omega (arith, past))

-- what holds of all behind the first holds of them
pub all-rest : (P : ℕ → Type 0) (xs : List ℕ) → AllByRecursion P xs → AllByRecursion P (drop 1 xs)
all-rest P [] all = tt
all-rest P (x ∷ xs) all = all.1

module _ (w : World) (children : List ℕ) (i : ℕ) where
  -- one more
  pub some-on : (P : OfParts) (s t u : Flattening) (before mid after : List ℕ) → i < length children
      → ReadsSome P s t (at_nodes w.nodes children) (at_nodes w.nodes (drop i children)) before mid
      → Reads P t u (tree_at w.nodes (get_or children i 0)) mid after
      → ReadsSome P s u (at_nodes w.nodes children) (at_nodes w.nodes (drop (i + 1) children)) before after
  some-on P s t u before mid after there so_far next =
      reads-on P s t u (at_nodes w.nodes children) (at_nodes w.nodes (drop (i + 1) children)) (tree_at w.nodes (get_or children i 0)) before mid after
      (subst (λ z. ReadsSome P s t (at_nodes w.nodes children) z before mid) (rest-trees w.nodes children i 0 there) so_far) next

  -- all of them
  pub all-done : (P : OfParts) (s t : Flattening) (before after : List ℕ) → ((more : FlatModule) → P more Nil [] []) → length children ≤ i
      → ReadsSome P s t (at_nodes w.nodes children) (at_nodes w.nodes (drop i children)) before after
      → ReadsAll P s t (at_nodes w.nodes children) before after
  all-done P s t before after none past so_far =
      reads-end P s t (at_nodes w.nodes children) before after none
      (subst (λ z. ReadsSome P s t (at_nodes w.nodes children) (at_nodes w.nodes z) before after) (drop-past children i past) so_far)

  module _ (s t u : Flattening) (frame : ℕ) (olds : List ℕ) where
    pub operands-on : (which : taken.the_data) (before mid after : List ℕ) → i < length children → frame < length s.frames.items
        → ReadsSome (operands_of w (setting_of w s frame olds) which) s t (at_nodes w.nodes children) (at_nodes w.nodes (drop i children)) before mid
        → Reads (operands_of w (setting_of w t frame olds) which) t u (tree_at w.nodes (get_or children i 0)) mid after
        → ReadsSome (operands_of w (setting_of w s frame olds) which) s u (at_nodes w.nodes children) (at_nodes w.nodes (drop (i + 1) children)) before after
    operands-on which before mid after there framed so_far next =
        some-on (operands_of w (setting_of w s frame olds) which) s t u before mid after there so_far
        (subst (λ z. Reads (operands_of w z which) t u (tree_at w.nodes (get_or children i 0)) mid after) (same-setting w s t frame olds so_far.steps.frames so_far.locals framed) next)

    pub updates-on : (f : ℕ) (before mid after : List ℕ) → i < length children → frame < length s.frames.items
        → ReadsSome (updates_of w (setting_of w s frame olds) f) s t (at_nodes w.nodes children) (at_nodes w.nodes (drop i children)) before mid
        → Reads (updates_of w (setting_of w t frame olds) f) t u (tree_at w.nodes (get_or children i 0)) mid after
        → ReadsSome (updates_of w (setting_of w s frame olds) f) s u (at_nodes w.nodes children) (at_nodes w.nodes (drop (i + 1) children)) before after
    updates-on f before mid after there framed so_far next =
        some-on (updates_of w (setting_of w s frame olds) f) s t u before mid after there so_far
        (subst (λ z. Reads (updates_of w z f) t u (tree_at w.nodes (get_or children i 0)) mid after) (same-setting w s t frame olds so_far.steps.frames so_far.locals framed) next)

    pub chain-on : (body next_body : Option ℕ) (roots next_roots : List ℕ) → i < length children
        → LinksSome w s t frame olds (at_nodes w.nodes children) (at_nodes w.nodes (drop i children)) body roots
        → Links w t u frame olds (tree_at w.nodes (get_or children i 0)) body next_body roots next_roots
        → LinksSome w s u frame olds (at_nodes w.nodes children) (at_nodes w.nodes (drop (i + 1) children)) next_body next_roots
    chain-on body next_body roots next_roots there so_far next =
        links-on w frame olds s t u (at_nodes w.nodes children) (at_nodes w.nodes (drop (i + 1) children)) (tree_at w.nodes (get_or children i 0)) body next_body roots next_roots
        (subst (λ z. LinksSome w s t frame olds (at_nodes w.nodes children) z body roots) (rest-trees w.nodes children i 0 there) so_far) next

  pub chain-done : (s t : Flattening) (frame : ℕ) (olds : List ℕ) (body : Option ℕ) (roots : List ℕ) → length children ≤ i
      → LinksSome w s t frame olds (at_nodes w.nodes children) (at_nodes w.nodes (drop i children)) body roots
      → LinksSome w s t frame olds (at_nodes w.nodes children) Nil body roots
  chain-done s t frame olds body roots past so_far = subst (λ z. LinksSome w s t frame olds (at_nodes w.nodes children) (at_nodes w.nodes z) body roots) (drop-past children i past) so_far

-- what stands round stays, once parts are read
pub some-ready : (w : World) (P : OfParts) (s t : Flattening) (frame : ℕ) (olds : List ℕ) (all rest : Trees) (before after : List ℕ) → ReadsSome P s t all rest before after → IsReady w s frame olds → IsReady w t frame olds
some-ready w P s t frame olds all rest before after r ready = ready-on w s t frame olds r.steps.extends r.steps.frames r.locals ready

pub all-ready : (w : World) (P : OfParts) (s t : Flattening) (frame : ℕ) (olds : List ℕ) (all : Trees) (before after : List ℕ) → ReadsAll P s t all before after → IsReady w s frame olds → IsReady w t frame olds
all-ready w P s t frame olds all before after r ready = ready-on w s t frame olds r.steps.extends r.steps.frames r.locals ready

-- a child of a node is one, and comes before it
pub kid-node : (w : World) (node : ℕ) (children : List ℕ) (i : ℕ) → IsNode w node → children ≡ (node_at w.nodes node).children → AllByRecursion (λ child. child < node) children → i < length children → IsNode w (get_or children i 0)
kid-node w node children i known are before there = child-node w children i 0 there (kids-lie w node children known are before)

-- what was asked stays
pub asked-longer : (s t : Flattening) (xs : List asking.Question) → Steps s t xs → length s.asked.items ≤ length t.asked.items
asked-longer s t xs steps = let l = ap length steps.questions ∙ length-both s.asked.items steps.more in omega (arith, l)

-- the first of the children of a node is a node before it
pub function-node : (w : World) (node function : ℕ) (kids rest : List ℕ) → IsNode w node → kids ≡ (node_at w.nodes node).children → AllByRecursion (λ child. child < node) kids → (node_at w.nodes node).children ≡ function ∷ rest → IsNode w function × (function < node)
function-node w node function kids rest known are before first =
    let e = are ∙ first in
    let lie = subst (AreNodes w.text.source w.nodes) e (kids-lie w node kids known are before) in
    (child-node w (function ∷ rest) 0 0 (omega arith) lie, (subst (AllByRecursion (λ child. child < node)) e before).0)

-- the others are nodes before it, too
pub update-node : (w : World) (node : ℕ) (kids updates : List ℕ) (i : ℕ) → IsNode w node → kids ≡ (node_at w.nodes node).children → AllByRecursion (λ child. child < node) kids → updates ≡ drop 1 kids → i < length updates → IsNode w (get_or updates i 0) × (get_or updates i 0 < node)
update-node w node kids updates i known are before rest there = (
  child-node w updates i 0 there (subst (AreNodes w.text.source w.nodes) (sym rest) (nodes-rest w.text.source w.nodes kids (kids-lie w node kids known are before))),
  all-at (λ child. child < node) updates i 0 (subst (AllByRecursion (λ child. child < node)) (sym rest) (all-rest (λ child. child < node) kids before)) there,
)

-- what holds of the first node and of those behind it holds of all
pub started-there : (P : ℕ → Type 0) (start first is : List ℕ) (f : ℕ) → start ≡ f ∷ [] → is ≡ start ++ first → P f → AllByRecursion P first → AllByRecursion P is
started-there P start first is f starts are here there = subst (AllByRecursion P) (sym (are ∙ ap (λ z. z ++ first) starts)) (here, there)
