-- Which of the module names of a text are those of modules that it needs, and which those of nested modules round them.
--
-- A name is needed where it means a file. That of the module of the text is needed too, unless a nested module round the
-- place has it: such a module needs itself.
use Rattle.std.specs.Prelude.{◌||◌, ◌&&◌, ⊤, ℕ, Bool, not, List, [], ◌∷◌, ◌++◌, filter}
use Rattle.std.specs.Str.{bytes_eq}
use Rattle.tla_symbols.specs.declared.lexeme.Lexeme.{Lexeme}
use Rattle.tla_model.specs.Lexemes.{spelled}
use Rattle.tla_model.specs.ModuleNames.{module_names}
use Rattle.unit_grammar.specs.Units.{UnitTree, ModuleBegin, ModuleEnd, ModuleUnits}
use Rattle.module_scope.specs.Environments.{Scope, begun, ended, first, is_round, is_taken}

-- the scope of the module names of a unit, and of the units behind it
abbrev pub scope_at : List ℕ → Scope ⊤ → UnitTree → Scope ⊤
scope_at text scope (ModuleBegin dashes name extends) = begun scope (spelled text name)
scope_at text scope (ModuleEnd closing) = ended tt scope.here scope.round
scope_at text scope _ = scope

-- a name at a place of the module of the text is that of a module which it needs
abbrev pub needs : List ℕ → Scope ⊤ → List ℕ → Bool
needs outermost scope name = not (is_taken scope.here name) || (bytes_eq name outermost && not (is_round scope.round name))

-- the same of a module name of the text
abbrev pub is_needed : List ℕ → List ℕ → Scope ⊤ → Lexeme → Bool
is_needed text outermost scope name = needs outermost scope (spelled text name)

-- the needed ones of the module names of these units
abbrev pub imports_from : List ℕ → List ℕ → Scope ⊤ → List UnitTree → List Lexeme
imports_from text outermost scope [] = []
imports_from text outermost scope (unit ∷ units) =
    filter (is_needed text outermost (scope_at text scope unit)) (module_names unit)
    ++ imports_from text outermost (scope_at text scope unit) units

-- the module names of the text that are needed, in the order of the text
abbrev pub imports_of : List ℕ → ModuleUnits → List Lexeme
imports_of text found =
    found.extends ++ imports_from text (spelled text found.name) (first (spelled text found.name)) found.units

-- a module name of the text is that of a nested module round its place
abbrev pub is_enclosing : List ℕ → Scope ⊤ → Lexeme → Bool
is_enclosing text scope name = is_round scope.round (spelled text name)

-- the module names of these units that are those of nested modules round them
abbrev pub enclosing_from : List ℕ → Scope ⊤ → List UnitTree → List Lexeme
enclosing_from text scope [] = []
enclosing_from text scope (unit ∷ units) =
    filter (is_enclosing text (scope_at text scope unit)) (module_names unit) ++ enclosing_from text (scope_at text scope unit) units

-- the module names of the text that are those of nested modules round them, in the order of the text
abbrev pub enclosing_of : List ℕ → ModuleUnits → List Lexeme
enclosing_of text found = enclosing_from text (first (spelled text found.name)) found.units
