-- Module names that are found unit by unit.
use Rattle.std.proofs.Common.{◌≡◌, ℕ, ◌+◌, ◌<◌, ◌≤◌, Bool, List, [], ◌∷◌, ◌++◌, length, drop, get_or, ap, sym, subst, ◌∙◌, append_assoc}
use Rattle.std.specs.Prelude.{⊤, filter, map}
use Rattle.std.proofs.lemmas.List.{append-nil, drop_all}
use Rattle.tla_symbols.specs.declared.lexeme.Lexeme.{Lexeme}
use Rattle.tla_tree.specs.Arena.{Node}
use Rattle.tla_tree.specs.declared.unit.Unit.TheVariants as unit
use Rattle.unit_grammar.specs.Units.{UnitTree}
use Rattle.unit_grammar.specs.UnitNodes.{unit_at}
use Rattle.tla_model.specs.ModuleNames.{module_names}
use Rattle.module_scope.specs.Environments.{Scope}
use Rattle.module_scope.specs.Imports.{scope_at}
use Rattle.list_laws.proofs.Lists.{rest-at}

-- over one unit: those of its module names that pass a test, and then those of the units behind it
pub named-step : (text : List ℕ) (test : Scope ⊤ → Lexeme → Bool) (from : Scope ⊤ → List UnitTree → List Lexeme)
    → ((scope : Scope ⊤) (x : UnitTree) (xs : List UnitTree) → from scope (x ∷ xs) ≡ filter (test (scope_at text scope x)) (module_names x) ++ from (scope_at text scope x) xs)
    → (nodes : List Node) (units items : List unit.the_data) (i : ℕ) (u : unit.the_data) (scope : Scope ⊤) (found found' names all : List Lexeme)
    → found ++ from scope (map (unit_at nodes) (drop i units)) ≡ all
    → items ≡ units → i < length items → u ≡ get_or items i u → names ≡ module_names (unit_at nodes u)
    → found' ≡ found ++ filter (test (scope_at text scope (unit_at nodes u))) names
    → found' ++ from (scope_at text scope (unit_at nodes u)) (map (unit_at nodes) (drop (i + 1) units)) ≡ all
named-step text test from over nodes units items i u scope found found' names all before same there is are more =
    ap (λ z. z ++ rest) (more ∙ ap (λ z. found ++ filter (test inner) z) are)
    ∙ append_assoc found (filter (test inner) (module_names (unit_at nodes u))) rest
    ∙ ap (λ z. found ++ z) (sym (over scope (unit_at nodes u) (map (unit_at nodes) (drop (i + 1) units))))
    ∙ ap (λ z. found ++ from scope (map (unit_at nodes) z)) (sym left)
    ∙ before
  where
    inner : Scope ⊤
    inner = scope_at text scope (unit_at nodes u)

    rest : List Lexeme
    rest = from inner (map (unit_at nodes) (drop (i + 1) units))

    left : drop i units ≡ u ∷ drop (i + 1) units
    left = rest-at units i u (subst (λ z. i < length z) same there) ∙ ap (λ z. z ∷ drop (i + 1) units) (sym (is ∙ ap (λ z. get_or z i u) same))

-- behind all units
pub named-end : (from : Scope ⊤ → List UnitTree → List Lexeme) → ((scope : Scope ⊤) → from scope [] ≡ []) → (nodes : List Node) (units items : List unit.the_data) (i : ℕ) (scope : Scope ⊤) (found all : List Lexeme)
    → found ++ from scope (map (unit_at nodes) (drop i units)) ≡ all → items ≡ units → length items ≤ i → found ≡ all
named-end from none nodes units items i scope found all is same over =
    sym (append-nil found) ∙ ap (λ z. found ++ z) (sym (none scope)) ∙ ap (λ z. found ++ from scope (map (unit_at nodes) z)) (sym (drop_all i units (subst (λ z. length z ≤ i) same over))) ∙ is
