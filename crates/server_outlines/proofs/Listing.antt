-- Declared constants, one node after another.
use Rattle.std.proofs.Common.{◌≡◌, ℕ, zero, suc, ◌+◌, ◌<◌, List, [], ◌∷◌, ◌++◌, length, drop, get_or, map, append_assoc, refl, ap, sym, ◌∙◌, drop-cons, add-one, arith}
use Rattle.lsp_wire.specs.declared.types.Symbol.{Symbol}
use Rattle.tla_tree.specs.Arena.{Node, tree_at}
use Rattle.tla_tree.specs.Syntax.{trees}
use Rattle.server_outlines.specs.Outlines.{constant_symbols, constants_symbols}
use Rattle.server_outlines.specs.Shown.{IsShown, AreShown}

module _ (text : List ℕ) (nodes : List Node) where
  -- the names of these nodes
  abbrev pub names_of : List ℕ → List Symbol
  names_of numbers = constants_symbols text (trees (map (tree_at nodes) numbers))

  pub shown-at : (numbers : List ℕ) (i d : ℕ) → i < length numbers → AreShown text (trees (map (tree_at nodes) numbers)) → IsShown text (tree_at nodes (get_or numbers i d))
  shown-at [] i d lt shown = elim lt [ ]
  shown-at (x ∷ numbers) zero d lt shown = shown.0
  shown-at (x ∷ numbers) (suc i) d lt shown = shown-at numbers i d (omega (arith, lt)) shown.1

  rest-at : (numbers : List ℕ) (i d : ℕ) → i < length numbers → drop i numbers ≡ get_or numbers i d ∷ drop (i + 1) numbers
  rest-at numbers i d lt = rw (add-one, drop-cons numbers i d) refl

  -- one more node, whose text is this one
  pub onward : (here : List ℕ) (numbers : List ℕ) (i d : ℕ) → here ≡ text → i < length numbers → (old new all : List Symbol) → new ≡ old ++ constant_symbols here (tree_at nodes (get_or numbers i d)) → old ++ names_of (drop i numbers) ≡ all →
      new ++ names_of (drop (i + 1) numbers) ≡ all
  onward here numbers i d same lt old new all more before =
      ap (λ z. z ++ names_of (drop (i + 1) numbers)) (more ∙ ap (λ z. old ++ constant_symbols z (tree_at nodes (get_or numbers i d))) same)
      ∙ append_assoc old (constant_symbols text (tree_at nodes (get_or numbers i d))) (names_of (drop (i + 1) numbers))
      ∙ ap (λ z. old ++ names_of z) (sym (rest-at numbers i d lt))
      ∙ before
