-- Symbols that units declare have places.
use Rattle.std.proofs.Common.{◌≡◌, ℕ, false, List, [], ◌∷◌, ◌⊎◌, inl, inr, Some, refl, sym, ap, ◌∙◌, map}
use Rattle.std.specs.List.{AllByRecursion}
use Rattle.tla_symbols.specs.declared.lexeme.Lexeme.{Lexeme}
use Rattle.tla_model.specs.declared.entity.Entity.TheVariants as entity
use Rattle.tla_model.specs.declared.names.Binder.{Binder}
use Rattle.tla_model.specs.declared.names.Binding.TheVariants as as_binding
use Rattle.tla_model.specs.declared.names.Meaning.TheVariants.{BuiltIn, Declared}
use Rattle.tla_model.specs.Entities.{Meaning, Text, bound_as, meant, name_of, variables}
use Rattle.tla_model.specs.EntityKinds.{is_meant, stands_behind}
use Rattle.module_model.specs.Exports.{Exports, entry_of}
use Rattle.flat_trees.specs.Layouts.{order_of}
use Rattle.flattened_trees.specs.declared.End.TheVariants as end
use Rattle.flattened_trees.specs.Leads.{Leads, Setting, nowhere}
use Rattle.flattened_units.specs.Units.{meanings_of, with_symbols}
use Rattle.module_meanings.specs.Faces.{IsPlaced}
use Rattle.module_meanings.specs.Premises.{SymbolsLead, symbol_leads}
use Rattle.accepted_modules.proofs.Placed.{symbol-placed}
use Rattle.accepted_modules.proofs.Symbols.{IsSymbol}
use Rattle.accepted_modules.proofs.Tables.{entry-there}

-- a symbol is no definition
pub symbol-plain : (m : Meaning) → IsSymbol m → is_meant stands_behind m ≡ false
symbol-plain BuiltIn symbol = absurd (cc symbol)
symbol-plain (Declared (entity.Constant n) callee) symbol = refl
symbol-plain (Declared entity.Variable callee) symbol = refl
symbol-plain (Declared e callee) symbol = absurd (cc symbol)

-- a name that has a place where symbols lead by themselves has it where they lead so
pub lead-placed : (setting : Setting) (round : List Setting) (m : Meaning) → SymbolsLead setting round → IsPlaced (symbol_leads round setting.frame) m → IsPlaced setting.leads m
lead-placed setting round m lead placed = by (lead m)
  where
    by : (symbol_leads round setting.frame m [] ≡ nowhere) ⊎ (setting.leads m [] ≡ symbol_leads round setting.frame m []) → IsPlaced setting.leads m
    by (inl nothing) =
        let never : end.Place placed.0 (order_of m) ≡ end.Nowhere = ap (λ lead. lead.end) (sym placed.1 ∙ nothing) in
        absurd (cc never)
    by (inr same) = (placed.0, same ∙ placed.1)

pub variables-are : (text : Text) (names : List Lexeme) → AllByRecursion (λ (b : Binder). IsSymbol (meant text b)) (variables names)
variables-are text [] = tt
variables-are text (name ∷ rest) = (refl, variables-are text rest)

pub constants-are : (text : Text) (names : List (Lexeme × ℕ)) → AllByRecursion (λ (b : Binder). IsSymbol (meant text b)) (bound_as as_binding.Constant names)
constants-are text [] = tt
constants-are text (name ∷ rest) = (refl, constants-are text rest)

-- names that are parameters have places, where these have
pub binders-placed : (text : Text) (leads : Leads) (parameters : Exports) (place : ℕ) (binders : List Binder) → AllByRecursion (λ (b : Binder). IsSymbol (meant text b)) binders
    → AllByRecursion (λ (b : Binder). IsSymbol (meant text b) → entry_of parameters (name_of text.source b.name) ≡ Some (meant text b)) binders → AllByRecursion (IsPlaced (with_symbols leads (meanings_of parameters) place)) (map (meant text) binders)
binders-placed text leads parameters place [] are there = tt
binders-placed text leads parameters place (b ∷ rest) are there = (
  symbol-placed leads parameters place (name_of text.source b.name) (meant text b) (entry-there parameters (name_of text.source b.name) (meant text b) (there.0 are.0)) are.0,
  binders-placed text leads parameters place rest are.1 there.1,
)
