-- How an INSTANCE names what it replaces: by the place of a parameter among those of the module. What stands for a
-- parameter can also be read by the declaration of the parameter.
use Rattle.std.specs.Prelude.{◌≡◌, ℕ, Bool, true, false, List, ◌∷◌, Option, Some, None, if◌then◌else◌, slice_get}
use Rattle.module_model.specs.declared.face.Replacement.{Replacement}
use Rattle.tla_model.specs.declared.names.Meaning.TheVariants.{BuiltIn, Declared}
use Rattle.tla_model.specs.declared.ids.DeclId.{DeclId}
use Rattle.tla_model.specs.Tables.{Named}
use Rattle.tla_model.specs.Entities.{Meaning, same_decl}
use Rattle.module_model.specs.Exports.{Exports}

-- a name means this declaration
abbrev pub is_declared : Meaning → DeclId → Bool
is_declared BuiltIn decl = false
is_declared (Declared entity callee) decl = same_decl callee.decl decl

-- what stands for the first parameter of this declaration, if there is one
abbrev pub replacement_of : Exports → List Replacement → DeclId → Option Replacement
replacement_of (parameter ∷ parameters) (replacement ∷ replacements) decl =
    if is_declared parameter.1 decl then Some replacement else replacement_of parameters replacements decl
replacement_of _ _ decl = None

-- no two parameters have one declaration
abbrev pub AreApart : Exports → Type 0
AreApart parameters = (i j : ℕ) (a b : Named × Meaning) (decl : DeclId) → slice_get parameters i ≡ Some a → slice_get parameters j ≡ Some b → is_declared a.1 decl ≡ true → is_declared b.1 decl ≡ true → i ≡ j
