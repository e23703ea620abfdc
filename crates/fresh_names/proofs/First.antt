-- What is seen before the first unit of a module.
use Rattle.std.proofs.Common.{ℕ, Bool, true, false, List, [], ◌∷◌, Some, None, if◌then◌else◌}
use Rattle.std.specs.List.{AllByRecursion}
use Rattle.std.specs.Str.{bytes_eq}
use Rattle.list_laws.proofs.Lists.{all-both}
use Rattle.tla_symbols.specs.declared.lexeme.Lexeme.{Lexeme}
use Rattle.tla_model.specs.declared.names.Binder.{Binder}
use Rattle.tla_model.specs.Entities.{Text}
use Rattle.tla_model.specs.Lexemes.{spelled}
use Rattle.module_scope.specs.Environments.{first as first_scope}
use Rattle.module_model.specs.Exports.{exported}
use Rattle.tree_kinds.specs.Standing.{Outside}
use Rattle.module_kinds.specs.ModuleKinds.{module_under, named_in}
use Rattle.flattened_units.specs.Units.{meanings_of}
use Rattle.module_meanings.specs.Premises.{extended_meanings}
use Rattle.fresh_names.specs.Seen.{IsElsewhere}
use Rattle.fresh_names.proofs.Kept.{all-wider}

module _ (text : Text) (outsides : List ℕ → Outside) (words : List ℕ) (own : List Binder) (files : (name : List ℕ) → AllByRecursion (IsElsewhere text []) (meanings_of (exported (outsides name).view))) where
  named-elsewhere : (name : List ℕ) → AllByRecursion (IsElsewhere text own) (meanings_of (exported (named_in text outsides words (first_scope text.file) name).view))
  named-elsewhere name = by (bytes_eq name text.file)
    where
      by : (b : Bool) → AllByRecursion (IsElsewhere text own) (meanings_of (exported (module_under outsides (if b then Some None else None) name).view))
      by true = tt
      by false = all-wider text [] own (λ decl declared. absurd declared) (meanings_of (exported (outsides name).view)) (files name)

  pub extended-elsewhere : (names : List Lexeme) → AllByRecursion (IsElsewhere text own) (extended_meanings text outsides words (first_scope text.file) names)
  extended-elsewhere [] = tt
  extended-elsewhere (l ∷ names) =
      all-both (IsElsewhere text own) (meanings_of (exported (named_in text outsides words (first_scope text.file) (spelled text.source l)).view))
      (extended_meanings text outsides words (first_scope text.file) names) (named-elsewhere (spelled text.source l)) (extended-elsewhere names)
