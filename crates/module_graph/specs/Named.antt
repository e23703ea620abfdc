-- What is found of the module names of a text, unit by unit.
use Rattle.std.specs.Prelude.{◌≡◌, ◌++◌, ◌∷◌, ⊤, ℕ, List, filter}
use Rattle.tla_symbols.specs.declared.lexeme.Lexeme.{Lexeme}
use Rattle.tla_tree.specs.Arena.{Node}
use Rattle.tla_tree.specs.declared.unit.Unit.TheVariants as unit
use Rattle.tla_model.specs.Lexemes.{spelled}
use Rattle.unit_grammar.specs.Derivation.{DerivesUnits}
use Rattle.unit_grammar.specs.UnitNodes.{unit_at}
use Rattle.unit_grammar.specs.Units.{UnitTree, ModuleBegin, ModuleEnd, ModuleUnits}
use Rattle.module_scope.specs.declared.nesting.Nesting.{Nesting}
use Rattle.module_scope.specs.Environments.{Scope, begun, behind}
use Rattle.module_scope.specs.Imports.{enclosing_of, imports_from, imports_of, is_enclosing, is_needed, scope_at}
use Rattle.module_scope.specs.Kept.{IsAt}
use Rattle.module_graph.specs.declared.named.NamedModules.{NamedModules}

-- a place is led over a unit
abbrev pub Passes : List ℕ → unit.the_data → Nesting ⊤ → Nesting ⊤ → Type 0
Passes text unit old new = (nodes : List Node) → (scope : Scope ⊤) → IsAt old scope → IsAt new (scope_at text scope (unit_at nodes unit))

-- those of the names that are needed at a place were appended
abbrev pub AddsNeeded : List ℕ → List ℕ → Nesting ⊤ → List Lexeme → List Lexeme → List Lexeme → Type 0
AddsNeeded text outermost place names old new = (scope : Scope ⊤) → IsAt place scope → new ≡ old ++ filter (is_needed text outermost scope) names

-- those of them that nested modules round the place have
abbrev pub AddsEnclosing : List ℕ → Nesting ⊤ → List Lexeme → List Lexeme → List Lexeme → Type 0
AddsEnclosing text place names old new = (scope : Scope ⊤) → IsAt place scope → new ≡ old ++ filter (is_enclosing text scope) names

-- the module names of a text
pub record AreNamed (text : List ℕ) (units : ModuleUnits) (named : NamedModules) : Type 0 where
  pub needed : named.needed ≡ imports_of text units
  pub enclosing : named.enclosing ≡ enclosing_of text units

-- a nested module needs what is needed inside it, and behind it all is as before it, with its own name
abbrev pub PassesNested : List ℕ → List ℕ → Scope ⊤ → Type 0
PassesNested text outermost scope =
    (dashes name closing : Lexeme) (extends : List Lexeme) (units rest : List UnitTree) (lexemes : List Lexeme) (next : Lexeme) → DerivesUnits units lexemes next
    → let inside = begun scope (spelled text name) in imports_from text outermost scope (ModuleBegin dashes name extends ∷ (units ++ ModuleEnd closing ∷ rest))
    ≡ filter (is_needed text outermost inside) extends
    ++ (imports_from text outermost inside units ++ imports_from text outermost (record { here = behind scope.here (spelled text name) tt; round = scope.round }) rest)
