-- The first unit that is too high, in a tree of nodes.
use Rattle.std.proofs.Common.{◌≡◌, ℕ, ◌<◌, List, length, get_or, sym, ap, ◌∙◌, subst}
use Rattle.std.specs.Prelude.{map}
use Rattle.tla_symbols.specs.declared.lexeme.Lexeme.{Lexeme}
use Rattle.tla_tree.specs.Arena.{Node, node_at, tree_at}
use Rattle.tla_tree.specs.Syntax.{span}
use Rattle.tla_tree.specs.declared.unit.Unit.TheVariants as unit
use Rattle.tla_tree.specs.declared.unit.ModuleTree.{ModuleTree}
use Rattle.tla_tree.proofs.Nodes.{tree_at-form}
use Rattle.unit_grammar.specs.Heights.{module_height}
use Rattle.unit_grammar.specs.UnitNodes.{unit_at}
use Rattle.unit_heights.specs.TooHigh.{MOST_HEIGHT, IsFirstHigh, IsRead, IsHigh}
use Rattle.unit_heights.specs.FirstHigh.{BeginsFurther, before_high}
use Rattle.unit_heights.proofs.HighUnits.{before-within, before-high}

-- a tree stands where its node does
pub node-start : (nodes : List Node) (number : ℕ) → number < length nodes → (node_at nodes number).span.start ≡ (span (tree_at nodes number)).start
node-start nodes number there = ap (λ x. (span x).start) (sym (tree_at-form nodes number there).1)

counted : (tree : ModuleTree) (lexemes : List Lexeme) (units : List unit.the_data) (index : ℕ) → (h : IsRead tree lexemes) → units ≡ tree.units → index ≡ before_high lexemes (map (unit_at tree.tree) units) → index ≡ before_high lexemes h.0.units
counted tree lexemes units index h same is = is ∙ (ap (λ us. before_high lexemes (map (unit_at tree.tree) us)) same ∙ ap (before_high lexemes) h.2.units.are)

too-high : (tree : ModuleTree) (lexemes : List Lexeme) (h : IsRead tree lexemes) → MOST_HEIGHT < tree.height → MOST_HEIGHT < module_height h.0
too-high tree lexemes h lt = subst (λ n. MOST_HEIGHT < n) h.2.height lt

pub index-within : (tree : ModuleTree) (lexemes : List Lexeme) (units : List unit.the_data) (index : ℕ) → IsRead tree lexemes → BeginsFurther 0 lexemes → MOST_HEIGHT < tree.height → units ≡ tree.units → index ≡ before_high lexemes (map (unit_at tree.tree) units) → index < length lexemes
index-within tree lexemes units index h further lt same is =
    subst (λ n. n < length lexemes) (sym (counted tree lexemes units index h same is)) (before-within h.0 lexemes further h.1 (too-high tree lexemes h lt))

pub index-high : (tree : ModuleTree) (lexemes : List Lexeme) (units : List unit.the_data) (index : ℕ) (d : Lexeme) → IsRead tree lexemes → BeginsFurther 0 lexemes → MOST_HEIGHT < tree.height → units ≡ tree.units → index ≡ before_high lexemes (map (unit_at tree.tree) units) → IsHigh tree lexemes (get_or lexemes index d)
index-high tree lexemes units index d h further lt same is =
    (h.0, h.1, h.2, subst (λ n. IsFirstHigh h.0 lexemes (get_or lexemes n d)) (sym (counted tree lexemes units index h same is)) (before-high h.0 lexemes d further h.1 (too-high tree lexemes h lt)))
