-- What units bring comes from elsewhere.
use Rattle.std.proofs.Common.{◌≡◌, ℕ, Bool, true, false, cond, List, [], ◌∷◌, ◌++◌, inl, refl, map}
use Rattle.std.specs.List.{AllByRecursion}
use Rattle.list_laws.proofs.Lists.{all-both}
use Rattle.tla_symbols.specs.declared.lexeme.Lexeme.{Lexeme}
use Rattle.tla_model.specs.declared.ids.UnitId.{UnitId}
use Rattle.tla_model.specs.declared.names.Binder.{Binder}
use Rattle.tla_model.specs.declared.names.Meaning.TheVariants.{BuiltIn, Declared}
use Rattle.tla_model.specs.Entities.{Meaning, Text, same_units}
use Rattle.tla_model.specs.EntityKinds.{is_meant, stands_behind}
use Rattle.tla_model.specs.Lexemes.{spelled}
use Rattle.module_scope.specs.Environments.{Scope}
use Rattle.module_model.specs.Exports.{Exports, exported, instantiable}
use Rattle.module_model.specs.Instances.{brought_entries, through}
use Rattle.tree_kinds.specs.Standing.{Outside}
use Rattle.module_kinds.specs.ModuleKinds.{named_in}
use Rattle.flattened_units.specs.Units.{meanings_of}
use Rattle.module_meanings.specs.Premises.{extended_meanings}
use Rattle.fresh_names.specs.Seen.{IsElsewhere}

came-through : (via : List UnitId) (unit : UnitId) → same_units [] (via ++ unit ∷ []) ≡ false
came-through [] unit = refl
came-through (first ∷ via) unit = refl

module _ (text : Text) (others : List Binder) where
  kept-elsewhere : (entries : Exports) → AllByRecursion (IsElsewhere text others) (meanings_of entries) → AllByRecursion (IsElsewhere text others) (meanings_of (instantiable entries))
  kept-elsewhere [] all = tt
  kept-elsewhere (entry ∷ rest) all = by (is_meant stands_behind entry.1) (kept-elsewhere rest all.1)
    where
      by : (b : Bool) → AllByRecursion (IsElsewhere text others) (meanings_of (instantiable rest)) → AllByRecursion (IsElsewhere text others) (meanings_of (cond b (entry ∷ instantiable rest) (instantiable rest)))
      by true more = (all.0, more)
      by false more = more

  pub through-elsewhere : (unit : UnitId) (meaning : Meaning) → IsElsewhere text others (through unit meaning)
  through-elsewhere unit BuiltIn = tt
  through-elsewhere unit (Declared entity callee) = inl (came-through callee.via unit)

  passed-elsewhere : (unit : UnitId) (entries : Exports) → AllByRecursion (IsElsewhere text others) (meanings_of (map (λ entry. (entry.0, through unit entry.1)) entries))
  passed-elsewhere unit [] = tt
  passed-elsewhere unit (entry ∷ rest) = (through-elsewhere unit entry.1, passed-elsewhere unit rest)

  brought-elsewhere : (unit : UnitId) (parameters entries : Exports) → AllByRecursion (IsElsewhere text others) (meanings_of entries) → AllByRecursion (IsElsewhere text others) (meanings_of (brought_entries unit parameters entries))
  brought-elsewhere unit [] entries all = all
  brought-elsewhere unit (parameter ∷ parameters) entries all = passed-elsewhere unit entries

  -- of a module with these parameters and exports
  pub instance-elsewhere : (unit : UnitId) (parameters entries : Exports) → AllByRecursion (IsElsewhere text others) (meanings_of entries)
      → AllByRecursion (IsElsewhere text others) (meanings_of (brought_entries unit parameters (instantiable entries)))
  instance-elsewhere unit parameters entries all = brought-elsewhere unit parameters (instantiable entries) (kept-elsewhere entries all)

  pub modules-elsewhere : (outsides : List ℕ → Outside) (words : List ℕ) (modules : Scope Outside) (names : List Lexeme)
      → AllByRecursion (λ l. AllByRecursion (IsElsewhere text others) (meanings_of (exported (named_in text outsides words modules (spelled text.source l)).view))) names
      → AllByRecursion (IsElsewhere text others) (extended_meanings text outsides words modules names)
  modules-elsewhere outsides words modules [] all = tt
  modules-elsewhere outsides words modules (l ∷ names) all =
      all-both (IsElsewhere text others) (meanings_of (exported (named_in text outsides words modules (spelled text.source l)).view)) (extended_meanings text outsides words modules names) all.0
      (modules-elsewhere outsides words modules names all.1)
