-- What is needed behind a nested module.
use Rattle.std.proofs.Common.{◌≡◌, ℕ, List, [], ◌∷◌, ◌++◌, append_assoc, refl, ap, sym, ◌∙◌}
use Rattle.std.specs.Prelude.{⊤, filter, Option}
use Rattle.tla_symbols.specs.declared.lexeme.Lexeme.{Lexeme}
use Rattle.tla_tree.specs.declared.form.Form.TheVariants as Form
use Rattle.tla_tree.specs.Syntax.{Tree, Node}
use Rattle.unit_grammar.specs.Units.{UnitTree, ModuleBegin, ModuleEnd, defined}
use Rattle.unit_grammar.specs.Derivation.{DerivesUnit, variables, constants, definition, instance, assumption, theorem, line, nested, DerivesUnits, no_units, more_units}
use Rattle.tla_model.specs.ModuleNames.{module_names}
use Rattle.tla_model.specs.Lexemes.{spelled}
use Rattle.module_scope.specs.Environments.{Environment, Scope, begun, behind, ended}
use Rattle.module_scope.specs.Imports.{imports_from, is_needed, scope_at}

module _ (text outermost : List ℕ) where
  -- the scope behind units
  abbrev pub scope_after : Scope ⊤ → List UnitTree → Scope ⊤
  scope_after scope [] = scope
  scope_after scope (unit ∷ units) = scope_after (scope_at text scope unit) units

  after-append : (scope : Scope ⊤) (a b : List UnitTree) → scope_after scope (a ++ b) ≡ scope_after (scope_after scope a) b
  after-append scope [] b = refl
  after-append scope (unit ∷ a) b = after-append (scope_at text scope unit) a b

  pub imports-append : (scope : Scope ⊤) (a b : List UnitTree) → imports_from text outermost scope (a ++ b) ≡ imports_from text outermost scope a ++ imports_from text outermost (scope_after scope a) b
  imports-append scope [] b = refl
  imports-append scope (unit ∷ a) b =
      let inner : Scope ⊤ = scope_at text scope unit in
      ap (λ z. filter (is_needed text outermost inner) (module_names unit) ++ z) (imports-append inner a b)
      ∙ sym (append_assoc (filter (is_needed text outermost inner) (module_names unit)) _ _)

  -- a definition is no begin and no end
  at-defined : (scope : Scope ⊤) (before : Option Lexeme) (x : Tree) → scope_at text scope (defined before x) ≡ scope
  at-defined scope before (Node (Form.FunctionDefinition n) s parts) = refl
  at-defined scope before (Node (Form.ModuleDefinition n) s parts) = refl
  at-defined scope before (Node _ s parts) = refl

  ended-at : (here before : Environment ⊤) (name : List ℕ) (old round : List (List ℕ × Environment ⊤)) → old ≡ (name, before) ∷ round → ended tt here old ≡ record { here = behind before name tt; round = round }
  ended-at here before name old round is = ap (ended tt here) is

  -- units leave the modules round them
  mutual
    unit-leaves : {unit : List UnitTree} {a : List Lexeme} {next : Lexeme} → DerivesUnit unit a next → (scope : Scope ⊤) → (scope_after scope unit).round ≡ scope.round
    unit-leaves (variables declares names) scope = refl
    unit-leaves (constants declares names) scope = refl
    unit-leaves (definition {before} {x} local derives) scope = ap (λ (s : Scope ⊤). s.round) (at-defined scope before x)
    unit-leaves (instance local derives) scope = refl
    unit-leaves (assumption word derives) scope = refl
    unit-leaves (theorem word derives) scope = refl
    unit-leaves (line dashes alone) scope = refl
    unit-leaves (nested {n} {next} {names} {a} {b} {units} e begins derives closes) scope =
        let within : Scope ⊤ = begun scope (spelled text n) in
        ap (λ (s : Scope ⊤). s.round) (after-append within units (ModuleEnd e ∷ []))
        ∙ ap (λ (s : Scope ⊤). s.round) (ended-at (scope_after within units).here scope.here (spelled text n) _ scope.round (units-leave derives within))

    units-leave : {units : List UnitTree} {a : List Lexeme} {next : Lexeme} → DerivesUnits units a next → (scope : Scope ⊤) → (scope_after scope units).round ≡ scope.round
    units-leave no_units scope = refl
    units-leave (more_units {unit} {units} first rest) scope =
        ap (λ (s : Scope ⊤). s.round) (after-append scope unit units) ∙ units-leave rest (scope_after scope unit) ∙ unit-leaves first scope

  pub passed : (scope : Scope ⊤) (dashes name closing : Lexeme) (extends : List Lexeme) (units rest : List UnitTree) (a : List Lexeme) (next : Lexeme) → DerivesUnits units a next
      → imports_from text outermost scope (ModuleBegin dashes name extends ∷ (units ++ ModuleEnd closing ∷ rest))
      ≡ filter (is_needed text outermost (begun scope (spelled text name))) extends
      ++ (imports_from text outermost (begun scope (spelled text name)) units ++ imports_from text outermost (record { here = behind scope.here (spelled text name) tt; round = scope.round }) rest)
  passed scope dashes name closing extends units rest a next derives =
      let within : Scope ⊤ = begun scope (spelled text name) in
      ap (λ z. filter (is_needed text outermost within) extends ++ z) (imports-append within units (ModuleEnd closing ∷ rest)
      ∙ ap (λ s. imports_from text outermost within units ++ imports_from text outermost s rest) (ended-at (scope_after within units).here scope.here (spelled text name) _ scope.round (units-leave derives within)))
